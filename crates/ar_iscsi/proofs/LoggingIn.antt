-- What becomes of a login phase.
use Rattle.std.proofs.Common.{ℕ, Option, Some, None}
use Rattle.ar_frames.specs.Port.{Logins}
use Rattle.ar_frames.specs.declared.transfer.Sent.{Sent}
use Rattle.ar_frames.specs.declared.transfer.Sent.TheVariants.{Whole, Part}
use Rattle.ar_iscsi.specs.declared.login.LoginResult.{LoginResult}
use Rattle.ar_iscsi.specs.declared.login.LoginResult.TheVariants.{Next, Entered, Refused}
use Rattle.ar_iscsi.specs.declared.login_phase.LoginEnd.{LoginEnd}
use Rattle.ar_iscsi.specs.LoginTurn.{LoginSpot, LoginTurn, MayLogIn}
use Rattle.ar_iscsi.specs.LoginPhase.{EndsLogin, NextRequest, RunsLogin, result_of_login_turn, result_of_request}
use Rattle.ar_iscsi.specs.Digest.{no_digests}
use Rattle.ar_iscsi.specs.Phase.{Place, ServesPdu, ServesPdus}
use Rattle.ar_iscsi.proofs.Serving.{IsHandled}

module _ {P : Type 0} (logins : Logins P) where
  by_login_turn : (old new : Place LoginSpot P) (left : LoginResult) (sent : Sent)
      → ServesPdu no_digests (LoginTurn logins) old new left sent
      → NextRequest logins old (result_of_login_turn left sent) new
  by_login_turn old new Next Whole serves = serves
  by_login_turn old new Entered Whole serves = λ count. serves
  by_login_turn old new (Refused code) Whole serves = λ count. serves
  by_login_turn old new Next (Part n) serves = λ count. record { left = Next; count = n; serves = serves }
  by_login_turn old new Entered (Part n) serves = λ count. record { left = Entered; count = n; serves = serves }
  by_login_turn old new (Refused code) (Part n) serves =
      λ count. record { left = Refused code; count = n; serves = serves }

  pub next_request : (old new : Place LoginSpot P) (answered : Option (LoginResult × Sent))
      → IsHandled no_digests (LoginTurn logins) (MayLogIn logins) old new answered
      → NextRequest logins old (result_of_request answered) new
  next_request old new (Some (left, sent)) serves = by_login_turn old new left sent serves
  next_request old new None none = λ count. none

  pub login_ended : (count : ℕ) (old between new : Place LoginSpot P) (reason : LoginEnd)
      → ServesPdus (ServesPdu no_digests (LoginTurn logins)) Next count old between
      → EndsLogin logins count between reason new → RunsLogin logins old reason new
  login_ended count old between new reason served ends =
      record { count = count; between = between; served = served; ends = ends }

-- The login phase of a session.
use Rattle.std.specs.Prelude.{◌≡◌, ℕ, Option, Some, None}
use Rattle.ar_frames.specs.Port.{Logins}
use Rattle.ar_frames.specs.declared.transfer.Sent.{Sent}
use Rattle.ar_frames.specs.declared.transfer.Sent.TheVariants.{Whole, Part}
use Rattle.ar_iscsi.specs.declared.login.LoginResult.{LoginResult}
use Rattle.ar_iscsi.specs.declared.login.LoginResult.TheVariants.{Next, Entered, Refused}
use Rattle.ar_iscsi.specs.declared.login_phase.LoginEnd.{LoginEnd}
use Rattle.ar_iscsi.specs.declared.login_phase.LoginEnd.TheVariants as end
use Rattle.ar_iscsi.specs.declared.login_phase.RequestResult.{RequestResult}
use Rattle.ar_iscsi.specs.declared.login_phase.RequestResult.TheVariants.{Answered, Ended}
use Rattle.ar_iscsi.specs.Digest.{no_digests}
use Rattle.ar_iscsi.specs.LoginTurn.{LoginSpot, LoginTurn, MayLogIn}
use Rattle.ar_iscsi.specs.Phase.{Place, ServesPdu, ServesPdus, IsLeftAlone, HasNoAnswer, IsAnswerLost, most_pdus}

-- when each end comes, after `count` requests, from the last moment between two of them
abbrev pub EndsLogin : {P : Type 0} → Logins P → ℕ → Place LoginSpot P → LoginEnd → Place LoginSpot P → Type 0
-- the last request was answered, and the full feature phase begins
EndsLogin logins count old end.Entered new = ServesPdu no_digests (LoginTurn logins) old new Entered Whole
-- the last request was refused with this status
EndsLogin logins count old (end.Refused code) new = ServesPdu no_digests (LoginTurn logins) old new (Refused code) Whole
EndsLogin logins count old (end.Unread reason) new = IsLeftAlone no_digests old new reason
EndsLogin logins count old end.Write new = IsAnswerLost (ServesPdu no_digests (LoginTurn logins)) old new
EndsLogin logins count old end.NoMemory new = HasNoAnswer no_digests (MayLogIn logins) old new
EndsLogin logins count old end.Bound new = (count ≡ most_pdus) × (new ≡ old)

-- one more request was answered, or the phase has ended, after however many requests
abbrev pub NextRequest : {P : Type 0} → Logins P → Place LoginSpot P → RequestResult → Place LoginSpot P → Type 0
NextRequest logins old Answered new = ServesPdu no_digests (LoginTurn logins) old new Next Whole
NextRequest logins old (Ended reason) new = (count : ℕ) → EndsLogin logins count old reason new

-- what becomes of the login after a turn whose answer was written this far
abbrev pub result_of_login_turn : LoginResult → Sent → RequestResult
result_of_login_turn left (Part n) = Ended end.Write
result_of_login_turn Next Whole = Answered
result_of_login_turn Entered Whole = Ended end.Entered
result_of_login_turn (Refused code) Whole = Ended (end.Refused code)

-- the same, or memory for the answer ran out
abbrev pub result_of_request : Option (LoginResult × Sent) → RequestResult
result_of_request None = Ended end.NoMemory
result_of_request (Some answered) = result_of_login_turn answered.0 answered.1

-- A login phase: requests were read, each did what its turn says and was answered, in order, and then its end came.
pub record RunsLogin {P : Type 0} (logins : Logins P) (old : Place LoginSpot P) (reason : LoginEnd)
    (new : Place LoginSpot P) : Type 0 where
  pub count : ℕ
  pub between : Place LoginSpot P
  pub served : ServesPdus (ServesPdu no_digests (LoginTurn logins)) Next count old between
  pub ends : EndsLogin logins count between reason new

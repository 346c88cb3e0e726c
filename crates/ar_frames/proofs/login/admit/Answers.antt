use Rattle.std.proofs.Common.{◌≡◌, refl, true}
use Rattle.ar_frames.specs.declared.port.Login.TheVariants.{Taken, BadHost, InUse}
use Rattle.ar_frames.specs.Session.{other_name}
use Rattle.ar_frames.proofs.Entering.{at_most_three, opens_bad_host, opens_in_use, opens_taken}
use Rattle.ar_frames.proofs.login.admit.Goals as goal

pub returns-then-not-has_name-clause-opening : goal.returns-then-not-has_name-clause-opening
returns-then-not-has_name-clause-opening g c =
    other_name c.args.login.now c.told-login
    (λ name. absurd (let yes : c.has_name.result ≡ true = c.has_name.ensures.1 name in cc))

pub returns-in-Taken-clause-opening : goal.returns-in-Taken-clause-opening
returns-in-Taken-clause-opening g c =
    opens_taken _ _ _ c.args.login.now c.admitted.result c.admitted.ensures.0 c.admitted.ensures.1 c.told-login
    (c.has_name.ensures.0 c.if-not-has_name.false)
    (at_most_three _ (λ above. let same : Taken ≡ BadHost = c.in-Taken.ensures.bad_host.1 above in cc))
    c.in-Taken.ensures.login

pub returns-in-BadHost-clause-opening : goal.returns-in-BadHost-clause-opening
returns-in-BadHost-clause-opening g c =
    opens_bad_host _ _ _ c.args.login.now c.told-login (c.has_name.ensures.0 c.if-not-has_name.false)
    (c.in-BadHost.ensures.bad_host.0 refl) c.in-BadHost.ensures.login

pub returns-in-InUse-clause-opening : goal.returns-in-InUse-clause-opening
returns-in-InUse-clause-opening g c =
    opens_in_use _ _ _ c.args.login.now c.told-login (c.has_name.ensures.0 c.if-not-has_name.false)
    (at_most_three _ (λ above. let same : InUse ≡ BadHost = c.in-InUse.ensures.bad_host.1 above in cc))
    c.in-InUse.ensures.login

use Rattle.ar_media.specs.Media.{Cut}
use Rattle.ar_media.specs.CallLaws.{Cut-refl}
use Rattle.ar_copies.specs.Steps.{CutsTo}
use Rattle.ar_copies.proofs.Calling.{reference_changes}
use Rattle.ar_copies.proofs.copies.Copies.cut.Goals as goal

pub returns-in_default : goal.returns-in_default
returns-in_default g c =
    let did = c.cut-first.ensures in
    reference_changes g.M.Media.seen g.M.Media.may_leave g.M.Media.faults g.M.Media.is_clean g.M.Media.is_usable
    (CutsTo c.args.len) (Cut c.args.len) (Cut-refl c.args.len) c.args.self.now c.cut-first.new.self c.cut-first.result
    c.in_default.not-InUse (record {
      whole = λ u. did.cut;
      part = λ u. did.torn;
      crash = did.crash;
      cause = did.cause;
      clean = did.clean;
      closed = did.closed;
      usable = did.usable;
    })

use Rattle.std.proofs.Common.{length}
use Rattle.ar_media.specs.Media.{Torn}
use Rattle.ar_media.specs.CallLaws.{Torn-refl}
use Rattle.ar_copies.specs.Steps.{WritesAt}
use Rattle.ar_copies.proofs.Calling.{reference_changes}
use Rattle.ar_copies.proofs.copies.Copies.write_at.Goals as goal

pub returns-in_default : goal.returns-in_default
returns-in_default g c =
    let did = c.write_at-first.ensures in
    reference_changes g.M.Media.seen g.M.Media.may_leave g.M.Media.faults g.M.Media.is_clean g.M.Media.is_usable
    (WritesAt c.args.at c.args.bytes.now) (Torn c.args.at (length c.args.bytes.now))
    (Torn-refl c.args.at (length c.args.bytes.now)) c.args.self.now c.write_at-first.new.self c.write_at-first.result
    c.in_default.not-InUse (record {
      whole = λ u. did.written;
      part = λ u. did.torn;
      crash = did.crash;
      cause = did.cause;
      clean = did.clean;
      closed = did.closed;
      usable = did.usable;
    })

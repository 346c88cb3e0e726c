use Rattle.std.proofs.Common.{Some, refl, subst}
use Rattle.ar_volume.specs.declared.flush.PartFlush.{PartFlush}
use Rattle.ar_sessions.specs.Flushing.{DestagedPart}
use Rattle.ar_sessions.proofs.Parts.{fewer_left, last_part, next_part, no_part}
use Rattle.ar_sessions.proofs.flushing.flush_parts.Goals as goal

pub parts-init : goal.parts-init
parts-init g c = no_part c.args.addr

pub parts-preserved : goal.parts-preserved
parts-preserved g c =
    next_part c.args.addr c.parts.first c.in-More.next c.parts.invariant
    (subst (λ (a : PartFlush). DestagedPart c.args.addr c.parts.first a) c.in-More.is c.flush_once-part.ensures)

pub parts-smaller : goal.parts-smaller
parts-smaller g c =
    fewer_left c.args.addr c.parts.first c.in-More.next
    (subst (λ (a : PartFlush). DestagedPart c.args.addr c.parts.first a) c.in-More.is c.flush_once-part.ensures)

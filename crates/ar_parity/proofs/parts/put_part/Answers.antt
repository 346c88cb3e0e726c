use Rattle.std.proofs.Common.{subst, arith}
use Rattle.ar_parity.specs.Row.{data_position, parity_position}
use Rattle.ar_parity.specs.Call.{UpdatesPart}
use Rattle.ar_parity.specs.Group.{KeepsButRow}
use Rattle.ar_parity.proofs.Reported.{stripe_reported, stripe_keeps}
use Rattle.ar_parity.proofs.Outcomes.{outcome_reported}
use Rattle.ar_parity.proofs.SlotLemmas.{slot_changed, others_kept}
use Rattle.ar_parity.proofs.Plans.{write_carried}
use Rattle.ar_parity.proofs.parts.put_part.Goals as goal

pub returns : goal.returns
returns g c =
    let m = c.args.members.now in
    let a = c.args.set.now in
    let b = c.change.new.set in
    let slot = c.args.slot in
    let first = c.args.first in
    let bytes = c.args.from.now in
    let i = c.data_at.result in
    let row = c.row_of_slot.result in
    let j = parity_position row in
    let reported = stripe_reported m i j row a b c.data_at.ensures.below (omega arith) c.change.ensures.plan in
    let keeps = stripe_keeps m i j row a b c.data_at.ensures.below (omega arith) reported in
    let changes =
    subst (λ r. UpdatesPart a b m r (data_position slot) first bytes) c.row_of_slot.ensures
    (subst (λ k. UpdatesPart a b m row k first bytes) c.data_at.ensures.position c.change.ensures.changes) in
    record {
      row = changes;
      holds = slot_changed a b m slot first bytes changes;
      writes = record {
        outcome = outcome_reported b c.change.result c.change.ensures.answer;
        slots = others_kept a b m slot first bytes reported.works.follows changes
            (subst (λ r. KeepsButRow m r a b) c.row_of_slot.ensures keeps);
        plan = write_carried m slot _ _ _ _ c.data_at.ensures.position c.row_of_slot.ensures c.change.ensures.plan;
      };
      scratch = c.change.ensures.scratch;
    }

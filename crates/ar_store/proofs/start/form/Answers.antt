use Rattle.ar_store.proofs.Starting.{started_fields}
use Rattle.ar_store.proofs.start.form.Goals as goal

pub invariant_of-result : goal.invariant_of-result
invariant_of-result g c =
    let plan = c.args.plan in
    started_fields c.args.set c.take_groups.new.set plan.book plan.buffers.block plan.buffers.scratch.geometry
    c.requires.fresh c.take_groups.ensures.formed
    c.take_groups.ensures.sound c.requires.block c.requires.scratch

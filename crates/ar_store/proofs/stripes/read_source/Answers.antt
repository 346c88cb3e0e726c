use Rattle.std.proofs.Common.{ap, ◌∙◌, arith}
use Rattle.ar_disks.specs.Geometry.{rows_of}
use Rattle.ar_extents.specs.Follows.{IsEither}
use Rattle.ar_mirror.specs.Slots.{one_of, other_of}
use Rattle.ar_mirror.proofs.Reported.{read_reported}
use Rattle.ar_store.proofs.Fills.{accessed_work}
use Rattle.ar_store.proofs.Sources.{source_none}
use Rattle.ar_store.proofs.stripes.read_source.Goals as goal

pub returns-then-slot-rows-clause-keeps : goal.returns-then-slot-rows-clause-keeps
returns-then-slot-rows-clause-keeps g c =
    (read_reported c.args.from.now c.args.slot c.args.disks.now c.get.new.set c.get.ensures.plan).keeps

pub returns-then-slot-rows-clause-accessed : goal.returns-then-slot-rows-clause-accessed
returns-then-slot-rows-clause-accessed g c =
    let a = c.args.disks.now in
    let m = c.args.from.now in
    let i = c.args.slot in
    let reported = read_reported m i a c.get.new.set c.get.ensures.plan in
    accessed_work (IsEither (one_of a.geometry m i) (other_of a.geometry m i)) a c.get.new.set reported.works

pub returns-clause-plan : goal.returns-clause-plan
returns-clause-plan g c =
    let rows = c.rows.ensures ∙ ap rows_of c.geometry.ensures in
    let beyond = c.if-slot-rows.false in
    source_none c.args.disks.now.geometry c.args.from.now c.args.slot c.args.disks.now (omega arith)

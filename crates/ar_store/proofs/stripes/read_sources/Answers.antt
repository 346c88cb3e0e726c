use Rattle.std.proofs.Common.{sym, ◌∙◌}
use Rattle.ar_extents.proofs.Outcomes.{broken_is}
use Rattle.ar_store.proofs.Fills.{accessed_then}
use Rattle.ar_store.proofs.Sources.{sources_one, sources_two, sources_three, sources_given}
use Rattle.ar_store.proofs.stripes.read_sources.Goals as goal

pub returns-in-Broken-clause-plan : goal.returns-in-Broken-clause-plan
returns-in-Broken-clause-plan g c =
    let b = c.read_source.new.disks in
    let one = c.read_source.ensures in
    sources_one c.args.from.now c.args.row c.args.disks.now b b one.accessed.follows one.plan
    (broken_is b.health (sym c.in-Broken.is ∙ one.outcome))

pub returns-in-Broken-read_source-clause-plan : goal.returns-in-Broken-read_source-clause-plan
returns-in-Broken-read_source-clause-plan g c =
    let d = c.read_source-2.new.disks in
    let one = c.read_source.ensures in
    let two = c.read_source-2.ensures in
    sources_two c.args.from.now c.args.row c.args.disks.now c.read_source.new.disks d one.accessed.follows one.plan
    two.accessed.follows two.plan (broken_is d.health (sym c.in-Broken-read_source.is ∙ two.outcome))

pub returns-in-Broken-read_source-clause-accessed : goal.returns-in-Broken-read_source-clause-accessed
returns-in-Broken-read_source-clause-accessed g c =
    accessed_then c.args.disks.now c.read_source.new.disks c.read_source-2.new.disks c.read_source.ensures.accessed
    c.read_source-2.ensures.accessed

pub returns-in-Done-read_source-clause-plan : goal.returns-in-Done-read_source-clause-plan
returns-in-Done-read_source-clause-plan g c =
    let one = c.read_source.ensures in
    let two = c.read_source-2.ensures in
    sources_three c.args.from.now c.args.row c.args.disks.now c.read_source.new.disks c.read_source-2.new.disks
    one.accessed.follows one.plan two.accessed.follows two.plan c.read_source-in-Done-read_source.new.disks
    c.read_source-in-Done-read_source.ensures.plan

pub returns-in-Done-read_source-clause-accessed : goal.returns-in-Done-read_source-clause-accessed
returns-in-Done-read_source-clause-accessed g c =
    let b = c.read_source.new.disks in
    let d = c.read_source-2.new.disks in
    let e = c.read_source-in-Done-read_source.new.disks in
    accessed_then c.args.disks.now b e c.read_source.ensures.accessed
    (accessed_then b d e c.read_source-2.ensures.accessed c.read_source-in-Done-read_source.ensures.accessed)

pub returns-in-Done-read_source-clause-sources : goal.returns-in-Done-read_source-clause-sources
returns-in-Done-read_source-clause-sources g c =
    let one = c.read_source.ensures in
    let two = c.read_source-2.ensures in
    sources_given c.read_source-in-Done-read_source.result c.args.from.now c.args.row c.args.disks.now
    c.read_source.new.disks c.read_source-2.new.disks c.read_source.new.into c.read_source-2.new.into
    c.read_source-in-Done-read_source.new.into one.accessed.follows one.keeps two.accessed.follows two.keeps
    c.in-Done.ensures.source c.in-Done-read_source.ensures.source c.read_source-in-Done-read_source.ensures.source

use Rattle.std.proofs.Common.{◌≡◌, ℕ, sym, ◌∙◌}
use Rattle.ar_extents.specs.Groups.{IsMember}
use Rattle.ar_extents.specs.Plans.{each_of}
use Rattle.ar_extents.proofs.Outcomes.{broken_is}
use Rattle.ar_extents.proofs.Plans.{both_carried, carries_broken}
use Rattle.ar_parity.specs.Plans.{stripe_writes}
use Rattle.ar_parity.specs.Row.{row_of}
use Rattle.ar_parity.proofs.Reported.{stripe_writes_reported}
use Rattle.ar_store.specs.Plans.{sources_plan}
use Rattle.ar_store.specs.Slots.{HoldsSource}
use Rattle.ar_store.proofs.Fills.{accessed_then, accessed_work}
use Rattle.ar_store.proofs.Sources.{stripe_copied, stripe_keeps, done_always}
use Rattle.ar_store.proofs.stripes.copy_stripe.Goals as goal

pub returns-in-Done-clause-copied : goal.returns-in-Done-clause-copied
returns-in-Done-clause-copied g c =
    let one = c.args.from.now in
    let two = c.args.to.now in
    let a = c.args.disks.now in
    let new = c.put_stripe.new.set in
    let read = c.read_sources.new in
    done_always c.put_stripe.result ((slot : ℕ) → row_of slot ≡ c.args.row → HoldsSource one two a new slot)
    (stripe_copied one two c.args.row a new read.block read.scratch.first read.scratch.second
    c.bytes_mut.result.now c.bytes.result.now c.bytes-in-Done.result.now c.in-Done.ensures.sources
    c.bytes_mut.ensures.value c.bytes.ensures c.bytes-in-Done.ensures c.put_stripe.ensures.slots)

pub returns-in-Done-clause-plan : goal.returns-in-Done-clause-plan
returns-in-Done-clause-plan g c =
    both_carried (sources_plan c.args.disks.now.geometry c.args.from.now c.args.row)
    (each_of (stripe_writes c.args.to.now c.args.row)) c.args.disks.now c.read_sources.new.disks c.put_stripe.new.set
    c.read_sources.ensures.plan c.put_stripe.ensures.plan

pub returns-in-Done-clause-keeps : goal.returns-in-Done-clause-keeps
returns-in-Done-clause-keeps g c =
    let b = c.read_sources.new.disks in
    let new = c.put_stripe.new.set in
    stripe_keeps c.args.to.now c.args.row c.args.disks.now b new c.read_sources.ensures.keeps
    (stripe_writes_reported c.args.to.now c.args.row b new c.put_stripe.ensures.plan)

pub returns-in-Done-clause-accessed : goal.returns-in-Done-clause-accessed
returns-in-Done-clause-accessed g c =
    let m = c.args.to.now in
    let b = c.read_sources.new.disks in
    let new = c.put_stripe.new.set in
    accessed_then c.args.disks.now b new c.read_sources.ensures.accessed
    (accessed_work (IsMember m) b new (stripe_writes_reported m c.args.row b new c.put_stripe.ensures.plan).works)

pub returns-in-Broken-clause-plan : goal.returns-in-Broken-clause-plan
returns-in-Broken-clause-plan g c =
    let b = c.read_sources.new.disks in
    let read = c.read_sources.ensures in
    let writes = each_of (stripe_writes c.args.to.now c.args.row) in
    both_carried (sources_plan c.args.disks.now.geometry c.args.from.now c.args.row) writes c.args.disks.now b b
    read.plan (carries_broken writes b (broken_is b.health (sym c.in-Broken.is ∙ read.outcome)))

use Rattle.std.proofs.Common.{◌≡◌, ◌+◌, ◌-◌, ◌/◌, ℕ, min, sym, ap, subst, ◌∙◌, arith}
use Rattle.ar_disks.specs.Geometry.{sectors_of}
use Rattle.ar_extents.specs.Changes.{is_broken_set}
use Rattle.ar_volume.specs.declared.flush.PartFlush.{PartFlush}
use Rattle.ar_volume.specs.Flush.{FlushesPart}
use Rattle.ar_volume.specs.Image.{is_broken}
use Rattle.ar_volume.proofs.Breaking.{sound_is}
use Rattle.ar_volume.proofs.Flushing.{part_flushed, part_lost, part_stopped}
use Rattle.ar_volume.proofs.Seeing.{lost_reported}
use Rattle.ar_volume.proofs.Sparing.{kept_sound}
use Rattle.ar_volume.proofs.blocks.Blocks.flush_part.Goals as goal

pub returns-in-Broken-clause-flushes : goal.returns-in-Broken-clause-flushes
returns-in-Broken-clause-flushes g c =
    part_lost c.args.self.now c.args.addr c.args.first (ap is_broken_set (sym c.health.ensures.health ∙ c.in-Broken.is))

pub returns-in-Done-clause-flushes : goal.returns-in-Done-clause-flushes
returns-in-Done-clause-flushes g c =
    let old = c.args.self.now in
    let new = c.force.new.self in
    let call = c.force.ensures in
    let done = c.in-Done.is in
    let end : ℕ = (c.in-Some.sectors - 1) / c.sectors-2.result in
    let last : ℕ = c.min-last.result in
    let until : last ≡ min end (min (c.args.first + 63) 4294967295) =
    omega (arith, c.min-last.ensures, c.saturating_add.ensures) in
    subst (λ (a : PartFlush). FlushesPart old c.args.addr c.args.first a new) (sym c.after_part.ensures)
    (part_flushed old new c.args.addr c.args.first c.in-Some.sectors last end c.health.ensures.joined c.in-Some.ensures
    (ap (λ n. (c.in-Some.sectors - 1) / n) (c.sectors-2.ensures ∙ ap sectors_of c.geometry.ensures)) until
    (sound_is old.store.disks.health (λ lost. c.in_default.not-Broken (c.health.ensures.health ∙ lost)))
    (kept_sound (is_broken new) (sym done ∙ call.answer)) (call.forced done) (call.spared done) (call.in_turn done)
    call.follows)

pub returns-in-Broken-force-clause-flushes : goal.returns-in-Broken-force-clause-flushes
returns-in-Broken-force-clause-flushes g c =
    let old = c.args.self.now in
    let new = c.force.new.self in
    let call = c.force.ensures in
    let lost = c.in-Broken-force.is in
    let end : ℕ = (c.in-Some.sectors - 1) / c.sectors-2.result in
    let last : ℕ = c.min-last.result in
    let until : last ≡ min end (min (c.args.first + 63) 4294967295) =
    omega (arith, c.min-last.ensures, c.saturating_add.ensures) in
    part_stopped old new c.args.addr c.args.first c.in-Some.sectors last end c.in-Some.ensures
    (ap (λ n. (c.in-Some.sectors - 1) / n) (c.sectors-2.ensures ∙ ap sectors_of c.geometry.ensures)) until
    (sound_is old.store.disks.health (λ was. c.in_default.not-Broken (c.health.ensures.health ∙ was)))
    (lost_reported (is_broken new) (sym lost ∙ call.answer)) (call.stopped lost) call.follows

use Rattle.std.proofs.Common.{sym, ◌∙◌}
use Rattle.ar_extents.proofs.Outcomes.{broken_is, done_sound}
use Rattle.ar_store.specs.Spaces.{store_in}
use Rattle.ar_store.proofs.Copied.{copies_for, squeezed_by, squeeze_failed}
use Rattle.ar_store.proofs.space.Space.squeeze.Goals as goal

pub move_homes-hole-requires-clause-copies : goal.move_homes-hole-requires-clause-copies
move_homes-hole-requires-clause-copies g c =
    copies_for c.copy_blocks.new.self.disks c.args.self.now.book c.copy_blocks.new.self.book
    c.full_mirrored-from.result c.lowest_free-to.result c.copy_blocks.ensures.keeps.book c.lowest_free-to.ensures
    c.in-Done.ensures.copies

pub returns-in-Done-clause-steps : goal.returns-in-Done-clause-steps
returns-in-Done-clause-steps g c =
    let b = c.copy_blocks.new.self in
    let new = c.move_homes-hole.new.self in
    let copied = c.copy_blocks.ensures in
    let moved = c.move_homes-hole.ensures in
    squeezed_by (store_in c.args.self.now) (store_in new) c.full_mirrored-from.result c.lowest_free-to.result
    c.full_mirrored-from.ensures.full c.lowest_free-to.ensures b.disks b.book
    copied.plan c.in-Done.ensures.copied (done_sound b.disks.health (sym c.in-Done.is ∙ copied.outcome)) copied.keeps.book
    moved.disks moved.hole.tables

pub returns-in-Broken-clause-steps : goal.returns-in-Broken-clause-steps
returns-in-Broken-clause-steps g c =
    let b = c.copy_blocks.new.self in
    let copied = c.copy_blocks.ensures in
    squeeze_failed (store_in c.args.self.now) (store_in b) c.full_mirrored-from.result c.lowest_free-to.result
    c.full_mirrored-from.ensures.full c.lowest_free-to.ensures copied.plan
    (broken_is b.disks.health (sym c.in-Broken.is ∙ copied.outcome)) copied.keeps.book

use Rattle.std.proofs.Common.{ℕ, List, sym, refl, ◌∙◌}
use Rattle.ar_disks.specs.Block.{with_sectors}
use Rattle.ar_book.specs.declared.class.Class.TheVariants.{Mirrored, Parity}
use Rattle.ar_mirror.proofs.Reported.{write_reported}
use Rattle.ar_parity.proofs.Reported.{slot_reported, slot_keeps}
use Rattle.ar_store.specs.Slots.{SlotHolds, IsSlotWritten}
use Rattle.ar_store.specs.Store.{members_of, class_in}
use Rattle.ar_store.specs.Spaces.{store_in}
use Rattle.ar_store.proofs.SlotCalls.{asked, never_free, held_in, written_mirrored, written_parity}
use Rattle.ar_store.proofs.SlotCalls.{write_done}
use Rattle.ar_store.proofs.Overwriting.{part_len}
use Rattle.ar_store.proofs.space.Space.write_part_at.Goals as goal

pub unreachable-requires : goal.unreachable-requires
unreachable-requires g c =
    never_free (store_in c.args.self.now) c.args.slot c.members-members.result c.requires.ready.space c.requires.slot
    c.members-members.ensures
    (sym c.in-Free.is ∙ c.class.ensures)

pub put_part-requires : goal.put_part-requires
put_part-requires g c =
    let ready = asked (store_in c.args.self.now) c.args.slot c.members-members.result c.requires.ready.space
    c.requires.slot c.members-members.ensures Mirrored
    (sym c.in-Mirrored.is ∙ c.class.ensures) in
    record { group = ready.0; slot = ready.1; within = c.requires.within }

pub returns-in-Mirrored : goal.returns-in-Mirrored
returns-in-Mirrored g c =
    let s = store_in c.args.self.now in
    let m = c.members-members.result in
    let there = c.members-members.ensures in
    let slot = c.args.slot in
    let space = c.requires.ready.space in
    let is = sym c.in-Mirrored.is ∙ c.class.ensures in
    let b = c.put_part.new.set in
    let put = c.put_part.ensures in
    let held = c.requires.held in
    let after : List ℕ → List ℕ = λ block. with_sectors block c.args.first c.args.from.now in
    let written : (block : List ℕ) → SlotHolds s slot block
    → IsSlotWritten (class_in s slot.group) s.disks b (members_of s slot.group) slot.slot (after block) =
    λ block has.
    written_mirrored s slot m space c.requires.slot there b (after block) is
    (put.holds block (held_in s slot m space c.requires.slot there Mirrored block is has)) put.slots
    (write_reported m slot.slot s.disks b put.plan).keeps in
    record {
      here = λ block has. (written block has).here;
      rest = write_done c.args.self.now _ slot m c.requires.ready c.requires.slot there Mirrored is refl refl
          c.put_part.result put.outcome (after held.block)
          (part_len s.disks held.block c.args.from.now c.args.first held.len c.requires.within)
          (written held.block held.holds)
          (record { plan = put.plan; beside = λ k block inside ne has. put.slots.slots k inside ne block has });
    }

pub put_part-requires-in-Parity : goal.put_part-requires-in-Parity
put_part-requires-in-Parity g c =
    let ready = asked (store_in c.args.self.now) c.args.slot c.members-members.result c.requires.ready.space
    c.requires.slot c.members-members.ensures Parity
    (sym c.in-Parity.is ∙ c.class.ensures) in
    record { group = ready.0; slot = ready.1; within = c.requires.within; scratch = c.requires.ready.scratch }

pub returns-in-Parity : goal.returns-in-Parity
returns-in-Parity g c =
    let s = store_in c.args.self.now in
    let m = c.members-members.result in
    let there = c.members-members.ensures in
    let slot = c.args.slot in
    let space = c.requires.ready.space in
    let is = sym c.in-Parity.is ∙ c.class.ensures in
    let b = c.put_part-in-Parity.new.set in
    let put = c.put_part-in-Parity.ensures in
    let held = c.requires.held in
    let after : List ℕ → List ℕ = λ block. with_sectors block c.args.first c.args.from.now in
    let written : (block : List ℕ) → SlotHolds s slot block
    → IsSlotWritten (class_in s slot.group) s.disks b (members_of s slot.group) slot.slot (after block) =
    λ block has.
    written_parity s slot m space c.requires.slot there b (after block) is
    (λ other is_other. put.holds block (held_in s slot m space c.requires.slot there Parity block is has))
    put.writes.slots (slot_keeps m slot.slot s.disks b (slot_reported m slot.slot s.disks b put.writes.plan)) in
    record {
      here = λ block has. (written block has).here;
      rest = write_done c.args.self.now _ slot m c.requires.ready c.requires.slot there Parity is refl put.scratch
          c.put_part-in-Parity.result put.writes.outcome (after held.block)
          (part_len s.disks held.block c.args.from.now c.args.first held.len c.requires.within)
          (written held.block held.holds)
          (record { plan = put.writes.plan; beside = λ k block inside ne has. put.writes.slots k ne block has });
    }

use Rattle.std.proofs.Common.{◌≡◌, ◌∙◌, Option, List, sym, ap, arith}
use Rattle.ar_disks.specs.declared.address.Key.{Key}
use Rattle.ar_book.specs.declared.class.Slot.{Slot}
use Rattle.ar_book.specs.Tables.{GroupState, tables_of, key_in}
use Rattle.ar_book.specs.Changes.{slot_at}
use Rattle.ar_book.proofs.GroupMoves.{slot_names, slot_moves}
use Rattle.ar_book.proofs.moving.move_slots.Goals as goal

-- what the look-up found is in the slot
names_then : (gs held : List GroupState) (s : Slot) (found is : Option Key) → held ≡ gs → found ≡ key_in held s
    → found ≡ is → key_in gs s ≡ is
names_then gs held s found is same look e = ap (λ x. key_in x s) (sym same) ∙ sym look ∙ e

pub unreachable-requires : goal.unreachable-requires
unreachable-requires c =
    let i = c.loop-slot.slot in
    slot_names _ (tables_of c.args.geometry c.loop-slot.groups.items c.loop-slot.units.entries) c.args.from c.args.to i
    c.requires.agree c.requires.can c.loop-slot.invariant.moved (omega (arith, c.slots_of-slot-end.ensures))
    (names_then _ _ (slot_at c.args.from i) _ _ c.list.ensures c.key_in.ensures c.in_default.is)

pub set_home-requires : goal.set_home-requires
set_home-requires c =
    let i = c.loop-slot.slot in
    (slot_moves _ (tables_of c.args.geometry c.loop-slot.groups.items c.loop-slot.units.entries) c.args.from c.args.to i
    c.in-Some.key c.requires.agree c.requires.can c.loop-slot.invariant.moved
    (omega (arith, c.slots_of-slot-end.ensures))
    (names_then _ _ (slot_at c.args.from i) _ _ c.list.ensures c.key_in.ensures c.in-Some.is)).block

pub name_slot-requires : goal.name_slot-requires
name_slot-requires c =
    let i = c.loop-slot.slot in
    let moves = slot_moves _ (tables_of c.args.geometry c.loop-slot.groups.items c.loop-slot.units.entries) c.args.from
    c.args.to i c.in-Some.key c.requires.agree c.requires.can c.loop-slot.invariant.moved
    (omega (arith, c.slots_of-slot-end.ensures))
    (names_then _ _ (slot_at c.args.from i) _ _ c.list.ensures c.key_in.ensures c.in-Some.is) in
    record { group = moves.to_group; slot = moves.to_slot }

pub vacate_slot-requires : goal.vacate_slot-requires
vacate_slot-requires c =
    let i = c.loop-slot.slot in
    let moves = slot_moves _ (tables_of c.args.geometry c.loop-slot.groups.items c.loop-slot.units.entries) c.args.from
    c.args.to i c.in-Some.key c.requires.agree c.requires.can c.loop-slot.invariant.moved
    (omega (arith, c.slots_of-slot-end.ensures))
    (names_then _ _ (slot_at c.args.from i) _ _ c.list.ensures c.key_in.ensures c.in-Some.is) in
    rw c.name_slot.ensures (record { group = moves.from_group; slot = moves.from_slot })

pub loop-slot-preserved : goal.loop-slot-preserved
loop-slot-preserved c =
    let i = c.loop-slot.slot in
    let moves = slot_moves _ (tables_of c.args.geometry c.loop-slot.groups.items c.loop-slot.units.entries) c.args.from
    c.args.to i c.in-Some.key c.requires.agree c.requires.can c.loop-slot.invariant.moved
    (omega (arith, c.slots_of-slot-end.ensures))
    (names_then _ _ (slot_at c.args.from i) _ _ c.list.ensures c.key_in.ensures c.in-Some.is) in
    rw (c.vacate_slot.ensures, c.set_home.ensures, c.name_slot.ensures) (record {
      moved = moves.next;
      counted = omega arith;
    })

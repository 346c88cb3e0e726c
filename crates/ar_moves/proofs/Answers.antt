-- What the helpers answer, in the words of the calls.
use Rattle.std.proofs.Common.{◌≡◌, ◌≢◌, ◌≤◌, ◌⊎◌, ℕ, refl, sym, ap, subst, ◌∙◌, inl, inr, arith}
use Rattle.ar_disks.specs.declared.address.Key.{Key}
use Rattle.ar_book.specs.declared.class.Slot.{Slot}
use Rattle.ar_book.specs.Tables.{Tables, free_groups}
use Rattle.ar_book.specs.Changes.{Moved as TablesMoved, slot_at}
use Rattle.ar_book.proofs.AfterAssign.{assigned_free_groups}
use Rattle.ar_extents.specs.declared.health.Health.TheVariants.{Broken as AllBroken}
use Rattle.ar_book.specs.declared.class.Class.TheVariants.{Parity}
use Rattle.ar_store.specs.Store.{StoreState}
use Rattle.ar_store.specs.Slots.{AllStand, BesideHold}
use Rattle.ar_store.specs.Placing.{SameUnits, IsLowestHole, HasNoHole}
use Rattle.ar_store.specs.Calls.{IsAccessed, IsOpened, BreaksOpening}
use Rattle.ar_store.proofs.Changes.{units_then}
use Rattle.ar_store.proofs.Fills.{accessed_then, stand_then}
use Rattle.ar_moves.specs.declared.step.Move.{Move}
use Rattle.ar_moves.specs.declared.step.Move.TheVariants.{Moved, Idle, Broken}
use Rattle.ar_moves.specs.Moves.{IfMoved, IsMovedTo, LeavesBlocks}
use Rattle.ar_moves.specs.Demotion.{IsOldestMirrored, NamesNoSlot, DemotesBlock, DemotesTo, HoldsZerosBeside}
use Rattle.ar_moves.specs.Demotion.{MayHaveOpened}
use Rattle.ar_moves.specs.Cleaning.{Cleans, NamesCleaning}
use Rattle.ar_moves.proofs.Readiness.{free_beside}

-- a call that did nothing hasn't found that the array failed
pub idle_not_broken : Idle ≢ Broken
idle_not_broken e = cc

-- what follows of each block that moved follows of the one that did
pub if_moved_then : (m : Move) (P Q : Key → Slot → Type 0) → IfMoved m P → ((k : Key) (s : Slot) → P k s → Q k s)
    → IfMoved m Q
if_moved_then (Moved key to) P Q has then = then key to has
if_moved_then Idle P Q has then = tt
if_moved_then Broken P Q has then = tt

-- the oldest block was demoted
pub oldest_demoted : (old new : StoreState) (key : Key) → IsOldestMirrored old.book key → (k : Key) (s : Slot)
    → DemotesTo old key new k s → DemotesBlock old new k s
oldest_demoted old new key oldest k s demotes = record {
  tables = record {
    ready = demotes.ready;
    names = record {
      oldest = subst (λ x. IsOldestMirrored old.book x) (sym demotes.key_is) oldest;
      slot = demotes.slot;
    };
    moved = subst (λ x. TablesMoved demotes.ready x s new.book) (sym demotes.key_is) demotes.moved;
  };
  zeros = demotes.zeros;
  beside = demotes.beside;
}

-- the block that cleaning names was moved
pub named_cleaned : (t new : Tables) (key : Key) (to : Slot) → NamesCleaning t key to → (k : Key) (s : Slot)
    → IsMovedTo t key to new k s → Cleans t k s new
named_cleaned t new key to names k s moved =
    subst (λ x. Cleans t x s new) (sym moved.key_is)
    (subst (λ x. Cleans t key x new) (sym moved.slot_is) (record { names = names; moved = moved.tables }))

-- a move takes no free group
pub moved_free : (m : Move) (t new : Tables) (key : Key) (to : Slot) → IfMoved m (IsMovedTo t key to new) → m ≢ Idle
    → (m ≡ Broken → new ≡ t) → free_groups t ≤ free_groups new
moved_free (Moved k s) t new key to has some unmoved =
    subst (λ (x : Tables). free_groups t ≤ free_groups x) (sym has.tables.tables) (assigned_free_groups t key to)
moved_free Idle t new key to has some unmoved = absurd (some refl)
moved_free Broken t new key to has some unmoved =
    subst (λ (x : Tables). free_groups t ≤ free_groups x) (sym (unmoved refl)) (omega arith)

-- what two calls leave, one after another
pub leaves_then : (a b c : StoreState) → AllStand a b → SameUnits a.book b.book → IsAccessed a.disks b.disks
    → (a.disks.health ≡ AllBroken → b ≡ a) → LeavesBlocks b c
    → LeavesBlocks a c
leaves_then a b c stand units access same rest = record {
  stands = stand_then a b c rest.accessed.follows stand rest.stands;
  units = units_then a.book b.book c.book units rest.units;
  accessed = accessed_then a.disks b.disks c.disks access rest.accessed;
  broken = λ broken. rest.broken (ap (λ (s : StoreState). s.disks.health) (same broken) ∙ broken) ∙ same broken;
}

-- the block was moved to the hole that was there
pub hole_there : (old new : StoreState) (key : Key) (to : Slot) → IsLowestHole old.book Parity to
    → BesideHold old new to → (k : Key) (s : Slot) → IsMovedTo old.book key to new.book k s → DemotesTo old key new k s
hole_there old new key to lowest beside k s moved =
    subst (λ x. DemotesTo old key new k x) (sym moved.slot_is) (record {
      key_is = moved.key_is;
      ready = old.book;
      slot = inl (record { lowest = lowest; same = refl });
      moved = moved.tables;
      zeros = λ none. absurd (none.none to lowest.hole);
      beside = beside;
    })

-- the block was moved to the hole that was made for it
pub hole_made : (old mid new : StoreState) (key : Key) (g : ℕ) → HasNoHole old.book Parity
    → IsOpened old.book mid.book Parity g → HoldsZerosBeside new (slot_at g 0) → (k : Key) (s : Slot)
    → IsMovedTo mid.book key (slot_at g 0) new.book k s → DemotesTo old key new k s
hole_made old mid new key g none opening zeros k s moved =
    subst (λ x. DemotesTo old key new k x) (sym moved.slot_is) (record {
      key_is = moved.key_is;
      ready = mid.book;
      slot = inr (record { none = none; group = g; opened = opening; first = refl });
      moved = moved.tables;
      zeros = λ _. zeros;
      beside = free_beside old new g opening.lowest.free;
    })

-- a group that was opened is ready for the oldest block
pub ready_for : (t new : Tables) (key : Key) → IsOldestMirrored t key → HasNoHole t Parity
    → (new ≡ t) ⊎ ((group : ℕ) × IsOpened t new Parity group) → MayHaveOpened t new
ready_for t new key oldest none (inl same) = inl same
ready_for t new key oldest none (inr opening) =
    inr (
      key,
      slot_at opening.0 0,
      record {
        oldest = oldest;
        slot = inr (record { none = none; group = opening.0; opened = opening.1; first = refl });
      },
    )

-- a group that was opened has a slot for a block
pub opens_slot : (t new : Tables) (g : ℕ) → HasNoHole t Parity → IsOpened t new Parity g → NamesNoSlot t → ⊥
opens_slot t new g none opening named =
    named.none (slot_at g 0) new (inr (record { none = none; group = g; opened = opening; first = refl }))

-- the disks broke while a group was opened: its tables, and that nothing has changed where there was none to open
pub cut_tables : (old new : StoreState) → BreaksOpening old new Parity
    → (new.book ≡ old.book) ⊎ ((group : ℕ) × IsOpened old.book new.book Parity group)
cut_tables old new cut =
    elim cut.tables [ inl was ↦ inl (ap (λ (s : StoreState). s.book) was.same) | inr opening ↦ inr opening ]

pub cut_nothing : (old new : StoreState) → HasNoHole old.book Parity → BreaksOpening old new Parity
    → NamesNoSlot old.book → new ≡ old
cut_nothing old new none cut named =
    elim cut.tables [
      | inl was ↦ was.same
      | inr opening ↦
          absurd (opens_slot old.book new.book opening.0 none opening.1 named)
    ]

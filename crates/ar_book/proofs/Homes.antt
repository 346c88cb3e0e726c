-- What tables that agree say of a block and its home.
use Rattle.std.proofs.Common.{◌≡◌, ◌≢◌, ℕ, ◌<◌, ◌≤◌, None, Some, sym, ap, subst, ◌∙◌, arith}
use Rattle.std.proofs.lemmas.Bool.{cases_lt}
use Rattle.std.proofs.lemmas.List.{get_or_past}
use Rattle.std.proofs.lemmas.Option.{none-some, same_Some}
use Rattle.ar_disks.specs.declared.address.Key.{Key}
use Rattle.ar_book.specs.declared.class.Class.{Class}
use Rattle.ar_book.specs.declared.class.Class.TheVariants.{Free}
use Rattle.ar_book.specs.declared.class.Slot.{Slot}
use Rattle.ar_book.specs.Tables.{Tables, key_at, home, level, level_in, level_of, class_of, slots_of, HasBlock, HasSlot}
use Rattle.ar_book.specs.Choices.{IsHole, IsEmpty}
use Rattle.ar_book.specs.Book.{TablesAgree}
use Rattle.ar_book.proofs.GroupLemmas.{there_group}

-- a key that has a home is a block of a unit
pub home_block : (t : Tables) (k : Key) (s : Slot) → home t k ≡ Some s → HasBlock t k
home_block t k s e = grind (arith, cases_lt, none-some, get_or_past)

-- a block with a home stands at the level of that slot's class
pub home_level : (t : Tables) (k : Key) (s : Slot) → home t k ≡ Some s → level t k ≡ level_of (class_of t s.group)
home_level t k s e = ap (λ o. level_in t.groups o) e

-- a hole is a slot
pub hole_slot : (t : Tables) (c : Class) (s : Slot) → IsHole t c s → HasSlot t s
hole_slot t c s h = (h.group, subst (λ x. s.slot < slots_of t.geometry x) (sym h.class) h.slot)

module _ (t : Tables) (ok : TablesAgree t) where
  -- a block's home names the block
  pub home_key : (k : Key) (s : Slot) → home t k ≡ Some s → key_at t s ≡ Some k
  home_key k s e = ok.agree.to_slot k s e

  -- and what a slot names has its home there
  pub key_home : (s : Slot) (k : Key) → key_at t s ≡ Some k → home t k ≡ Some s
  key_home s k e = ok.agree.to_home k s e

  -- a slot that names something is there, and so is each home
  pub key_slot : (s : Slot) (k : Key) → key_at t s ≡ Some k → HasSlot t s
  key_slot s k e = (there_group t.groups s k e, ok.groups.within s k e)

  pub home_slot : (k : Key) (s : Slot) → home t k ≡ Some s → HasSlot t s
  home_slot k s e = key_slot s k (home_key k s e)

  -- what a slot names is a block of a unit
  pub key_block : (s : Slot) (k : Key) → key_at t s ≡ Some k → HasBlock t k
  key_block s k e = home_block t k s (key_home s k e)

  -- no two blocks have one home
  pub home_only : (k j : Key) (s : Slot) → home t k ≡ Some s → home t j ≡ Some s → k ≡ j
  home_only k j s e f = same_Some k j (sym (home_key k s e) ∙ home_key j s f)

  pub homes_apart : (k j : Key) (s r : Slot) → k ≢ j → home t k ≡ Some s → home t j ≡ Some r → s ≢ r
  homes_apart k j s r ne e f same = ne (home_only k j s e (f ∙ ap Some (sym same)))

  -- an empty slot is no block's home
  pub empty_no_home : (s : Slot) (k : Key) → key_at t s ≡ None → home t k ≢ Some s
  empty_no_home s k empty e = none-some k (sym empty ∙ home_key k s e)

  -- a group with a slot that names something is not free
  pub key_class : (s : Slot) (k : Key) → key_at t s ≡ Some k → class_of t s.group ≢ Free
  key_class s k e free = grind (arith, key_slot)

  -- a slot after those of the group's class names nothing
  pub key_beyond : (s : Slot) → slots_of t.geometry (class_of t s.group) ≤ s.slot → key_at t s ≡ None
  key_beyond s beyond = grind (arith, key_slot)

  -- so a free group's slots are all empty
  pub free_empty : (g : ℕ) → class_of t g ≡ Free → IsEmpty t g
  free_empty g free i =
      let none : slots_of t.geometry (class_of t g) ≡ 0 = ap (λ c. slots_of t.geometry c) free in
      key_beyond (record { group = g; slot = i }) (omega arith)

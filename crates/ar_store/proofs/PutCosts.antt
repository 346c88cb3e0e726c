-- What a put costs where none faults, and the extents that it uses are usable.
use Rattle.std.proofs.Common.{◌≡◌, ◌≢◌, List, [], ◌∷◌, ◌++◌, Option, None, Some, refl, sym, ◌∙◌, ap, subst}
use Rattle.ar_disks.specs.declared.address.Key.{Key}
use Rattle.ar_disks.specs.Geometry.{rows_of}
use Rattle.ar_extents.specs.declared.health.Health.TheVariants.{Whole}
use Rattle.ar_extents.specs.declared.log.AccessKind.{AccessKind}
use Rattle.ar_extents.specs.declared.log.AccessKind.TheVariants.{Read, Write}
use Rattle.ar_extents.specs.Plans.{CarriesOut, NoneFaults}
use Rattle.ar_book.specs.declared.class.Class.{Class}
use Rattle.ar_book.specs.declared.class.Class.TheVariants.{Free, Mirrored, Parity}
use Rattle.ar_book.specs.declared.class.Level.{Level}
use Rattle.ar_book.specs.declared.class.Level.TheVariants.{Mirrored as MirroredLevel, Parity as ParityLevel}
use Rattle.ar_book.specs.declared.class.Slot.{Slot}
use Rattle.ar_book.specs.Tables.{home, level_in, level_of, slots_of}
use Rattle.ar_store.specs.Store.{StoreState, members_of, class_in}
use Rattle.ar_store.specs.Placing.{PutCase, InPlace, ToHole, ToNewGroup, BySqueeze, put_case, case_level, put_level}
use Rattle.ar_store.specs.Placing.{lowest_group, lowest_hole}
use Rattle.ar_store.specs.Plans.{slot_write, squeeze_plan, write_as, home_write, case_plan, put_plan, WritesUsableAs}
use Rattle.ar_store.specs.Plans.{MakesAccesses, copies_kinds}
use Rattle.ar_store.proofs.Costs.{kinds_of, makes, both_kinds, parity_kinds, mirrored_made, parity_made}
use Rattle.ar_store.proofs.SqueezeCosts.{copies_are}
use Rattle.ar_store.proofs.Ways.{parity_not_mirrored}

-- the kinds of the accesses of a slot's write, by the level of its class
write_kinds : Level → List AccessKind
write_kinds MirroredLevel = Write ∷ Write ∷ []
write_kinds ParityLevel = parity_kinds
write_kinds _ = []

class_kinds : (c : Class) (s : StoreState) (slot : Slot) → kinds_of (write_as c s slot) ≡ write_kinds (level_of c)
unfolding write_kinds
class_kinds Free s slot = refl
class_kinds Mirrored s slot = refl
class_kinds Parity s slot = refl

home_kinds : (s : StoreState) (o : Option Slot)
    → kinds_of (home_write s o) ≡ write_kinds (level_in s.book.groups o)
unfolding write_kinds
home_kinds s None = refl
home_kinds s (Some slot) = class_kinds (class_in s slot.group) s slot

-- of a put that needs no squeeze, by the level that the block is at then
case_kinds : (s : StoreState) (k : Key) (c : PutCase) → c ≢ BySqueeze
    → kinds_of (case_plan s k c) ≡ write_kinds (case_level s.book k c)
unfolding write_kinds
case_kinds s k InPlace direct = home_kinds s (home s.book k)
case_kinds s k (ToHole c) direct = class_kinds c s (lowest_hole s.book c)
case_kinds s k ToNewGroup direct = refl
case_kinds s k BySqueeze direct = absurd (direct refl)

squeeze_are : (s : StoreState) (k : Key)
    → kinds_of (case_plan s k BySqueeze) ≡ copies_kinds s.disks.geometry (rows_of s.disks.geometry) ++ parity_kinds
squeeze_are s k =
    let g = s.disks.geometry in
    let from = members_of s (lowest_group s.book Mirrored) in
    let to = members_of s (lowest_group s.book Free) in
    both_kinds (squeeze_plan g from to) (slot_write Parity g to (slots_of s.book.geometry Mirrored)) Whole
    ∙ ap (λ l. l ++ parity_kinds) (copies_are g from to (rows_of g))

module _ (old new : StoreState) (k : Key) (none : NoneFaults old.disks new.disks)
    (carried : CarriesOut (put_plan old k) old.disks new.disks) where
  pub put_to_mirrored : old.disks.health ≡ Whole → put_level old.book k ≡ MirroredLevel
      → MakesAccesses (Write ∷ Write ∷ []) old.disks new.disks
  unfolding write_kinds
  put_to_mirrored whole at =
      makes (put_plan old k) (Write ∷ Write ∷ []) old.disks new.disks whole none carried
      (case_kinds old k (put_case old.book k)
      (λ is. parity_not_mirrored (sym (ap (case_level old.book k) is) ∙ at)) ∙ ap write_kinds at)

  pub put_to_parity : old.disks.health ≡ Whole → put_level old.book k ≡ ParityLevel → put_case old.book k ≢ BySqueeze
      → MakesAccesses (Read ∷ Read ∷ Write ∷ Write ∷ []) old.disks new.disks
  unfolding write_kinds
  put_to_parity whole at direct =
      makes (put_plan old k) parity_kinds old.disks new.disks whole none carried
      (case_kinds old k (put_case old.book k) direct ∙ ap write_kinds at)

  pub put_squeezing : old.disks.health ≡ Whole → put_case old.book k ≡ BySqueeze
      → MakesAccesses (copies_kinds old.disks.geometry (rows_of old.disks.geometry)
      ++ Read ∷ Read ∷ Write ∷ Write ∷ []) old.disks new.disks
  put_squeezing whole is =
      makes (put_plan old k) (copies_kinds old.disks.geometry (rows_of old.disks.geometry) ++ parity_kinds) old.disks
      new.disks whole none carried (ap (λ c. kinds_of (case_plan old k c)) is ∙ squeeze_are old k)

  -- a put to a slot whose two extents are usable, whichever disk is missing
  pub put_to_mirrored_slot : (slot : Slot) → WritesUsableAs Mirrored old slot
      → put_plan old k ≡ write_as Mirrored old slot → MakesAccesses (Write ∷ Write ∷ []) old.disks new.disks
  put_to_mirrored_slot slot usable is =
      mirrored_made old.disks new.disks (members_of old slot.group) slot.slot usable none
      (subst (λ p. CarriesOut p old.disks new.disks) is carried)

  pub put_to_parity_slot : (slot : Slot) → WritesUsableAs Parity old slot
      → put_plan old k ≡ write_as Parity old slot
      → MakesAccesses (Read ∷ Read ∷ Write ∷ Write ∷ []) old.disks new.disks
  put_to_parity_slot slot usable is =
      parity_made old.disks new.disks (members_of old slot.group) slot.slot usable none
      (subst (λ p. CarriesOut p old.disks new.disks) is carried)

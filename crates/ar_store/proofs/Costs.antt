-- What the plans of calls cost where none faults, and the extents that they use are usable.
use Rattle.std.proofs.Common.{◌≡◌, ◌≢◌, inl, inr, ◌⊎◌, ℕ, Bool, true, false, List, [], ◌∷◌, ◌++◌, map, Option, None}
use Rattle.std.proofs.Common.{Some, refl, sym, ◌∙◌, ap, subst}
use Rattle.std.proofs.lemmas.List.{map-append}
use Rattle.ar_disks.specs.declared.address.Key.{Key}
use Rattle.ar_disks.specs.declared.address.Members.{Members}
use Rattle.ar_disks.specs.declared.address.Place.{Place}
use Rattle.ar_disks.specs.Members.{member}
use Rattle.ar_extents.specs.declared.health.Health.{Health}
use Rattle.ar_extents.specs.declared.health.Health.TheVariants.{Whole, Out, Rebuilding, Broken as AllBroken}
use Rattle.ar_extents.specs.declared.log.AccessKind.{AccessKind}
use Rattle.ar_extents.specs.declared.log.AccessKind.TheVariants.{Read, Write}
use Rattle.ar_extents.specs.declared.log.RowAccess.{RowAccess}
use Rattle.ar_extents.specs.Health.{is_lost, is_missing}
use Rattle.ar_extents.specs.Set.{SetState, IsSound}
use Rattle.ar_extents.specs.Plans.{AccessPlan, Stop, Try, IfMissing, both_of, all_of, read_at, write_at, CarriesOut}
use Rattle.ar_extents.specs.Plans.{NoneFaults, planned}
use Rattle.ar_extents.proofs.Asking.{nothing_done}
use Rattle.ar_extents.proofs.Plans.{planned_made, both_planned}
use Rattle.ar_mirror.specs.Slots.{one_of, other_of, row_of as mirror_row}
use Rattle.ar_mirror.specs.Plans.{read_either, write_pair}
use Rattle.ar_parity.specs.Row.{row_of, data_position, parity_position}
use Rattle.ar_parity.specs.Plans.{write_member, write_lost, three_reads}
use Rattle.ar_book.specs.declared.class.Class.{Class}
use Rattle.ar_book.specs.declared.class.Class.TheVariants.{Free, Mirrored, Parity}
use Rattle.ar_book.specs.declared.class.Slot.{Slot}
use Rattle.ar_book.specs.Tables.{home}
use Rattle.ar_store.specs.Store.{StoreState, members_of, class_in}
use Rattle.ar_store.specs.Plans.{slot_read, slot_write, home_read, get_plan, write_of, move_plan, MakesAccesses}
use Rattle.ar_store.specs.Plans.{ReadsUsable, WritesUsable, ReadsUsableOf, WritesUsableAs}

-- the kinds of the accesses that a plan makes then
abbrev pub kinds_at : Health → AccessPlan → List AccessKind
kinds_at h plan = map (λ (a : RowAccess). a.kind) (planned plan h)

pub makes_at : (plan : AccessPlan) (kinds : List AccessKind) (a b : SetState) → NoneFaults a b → CarriesOut plan a b
    → kinds_at a.health plan ≡ kinds
    → MakesAccesses kinds a b
makes_at plan kinds a b none carried are =
    record { made = planned plan a.health; log = planned_made plan a b carried none; kinds_are = are }

pub both_kinds : (first last : AccessPlan) (h : Health)
    → kinds_at h (both_of first last) ≡ kinds_at h first ++ kinds_at h last
both_kinds first last h =
    ap (λ l. map (λ (x : RowAccess). x.kind) l) (both_planned first last h)
    ∙ map-append (λ (x : RowAccess). x.kind) _ _

-- those while all disks are present
abbrev pub kinds_of : AccessPlan → List AccessKind
kinds_of plan = kinds_at Whole plan

pub makes : (plan : AccessPlan) (kinds : List AccessKind) (a b : SetState) → a.health ≡ Whole → NoneFaults a b
    → CarriesOut plan a b → kinds_of plan ≡ kinds → MakesAccesses kinds a b
makes plan kinds a b whole none carried are =
    makes_at plan kinds a b none carried (ap (λ (h : Health). kinds_at h plan) whole ∙ are)

-- every extent is usable then
whole_sound : (s : SetState) (p : Place) → s.health ≡ Whole → IsSound s p
whole_sound s p whole = ap (λ (h : Health). is_lost h p.disk p.extent) whole

pub whole_reads : (c : Class) (s : SetState) (m : Members) (i : ℕ) → s.health ≡ Whole → ReadsUsable c s m i
whole_reads Free s m i whole = tt
whole_reads Mirrored s m i whole = inl (whole_sound s (one_of s.geometry m i) whole)
whole_reads Parity s m i whole = whole_sound s (member m (data_position i)) whole

pub whole_writes : (c : Class) (s : SetState) (m : Members) (i : ℕ) → s.health ≡ Whole → WritesUsable c s m i
whole_writes Free s m i whole = tt
whole_writes Mirrored s m i whole =
    (whole_sound s (one_of s.geometry m i) whole, whole_sound s (other_of s.geometry m i) whole)
whole_writes Parity s m i whole =
    (whole_sound s (member m (data_position i)) whole, whole_sound s (member m (parity_position (row_of i))) whole)

-- an extent that is lost or usable, at this health
abbrev pub Lost : Health → Place → Type 0
Lost h p = is_lost h p.disk p.extent ≡ true

abbrev pub Sound : Health → Place → Type 0
Sound h p = is_lost h p.disk p.extent ≡ false

pub missing_is_lost : (h : Health) (p : Place) → h ≢ AllBroken
    → is_missing h p.disk p.extent ≡ is_lost h p.disk p.extent
missing_is_lost Whole p sound = refl
missing_is_lost (Out x) p sound = refl
missing_is_lost (Rebuilding x done) p sound = refl
missing_is_lost AllBroken p sound = absurd (sound refl)

-- an extent that is used shows that the array hasn't failed
pub not_failed : (h : Health) (p : Place) → Sound h p → h ≢ AllBroken
not_failed h p sound is = (
    let lost : true ≡ false = sym (ap (λ (x : Health). is_lost x p.disk p.extent) is) ∙ sound in
    cc)

-- a read of one of two extents
either_kinds : (h : Health) (one other : Place) (row : ℕ) (first : Bool) → is_lost h one.disk one.extent ≡ first
    → Sound h one ⊎ Sound h other
    → kinds_at h (read_either one other row) ≡ Read ∷ []
either_kinds h one other row false sound either = rw sound refl
either_kinds h one other row true lost (inl sound) = absurd (let clash : true ≡ false = sym lost ∙ sound in cc)
either_kinds h one other row true lost (inr sound) = rw (lost, sound) refl

own_kinds : (h : Health) (own : Place) (row : ℕ) (rest : AccessPlan) → Sound h own
    → kinds_at h (Try (read_at own row) Stop rest) ≡ Read ∷ []
own_kinds h own row rest sound = rw sound refl

pub read_kinds : (c : Class) (s : SetState) (m : Members) (i : ℕ) → c ≢ Free → ReadsUsable c s m i
    → kinds_at s.health (slot_read c s.geometry m i) ≡ Read ∷ []
read_kinds Free s m i used usable = absurd (used refl)
read_kinds Mirrored s m i used usable =
    let one = one_of s.geometry m i in
    either_kinds s.health one (other_of s.geometry m i) (mirror_row s.geometry i) (is_lost s.health one.disk one.extent)
    refl usable
read_kinds Parity s m i used usable =
    own_kinds s.health (member m (data_position i)) (row_of i)
    (all_of (three_reads m (data_position i) (row_of i)) Stop) usable

-- a write of both
pair_kinds : (h : Health) (one other : Place) (row : ℕ) → Sound h one → Sound h other
    → kinds_at h (write_pair one other row) ≡ Write ∷ Write ∷ []
pair_kinds h one other row first second = rw (first, second) refl

pub mirrored_kinds : (s : SetState) (m : Members) (i : ℕ) → WritesUsable Mirrored s m i
    → kinds_at s.health (slot_write Mirrored s.geometry m i) ≡ Write ∷ Write ∷ []
mirrored_kinds s m i usable =
    pair_kinds s.health (one_of s.geometry m i) (other_of s.geometry m i) (mirror_row s.geometry i) usable.0 usable.1

-- the kinds of the accesses to write a parity slot
abbrev pub parity_kinds : List AccessKind
parity_kinds = Read ∷ Read ∷ Write ∷ Write ∷ []

known_kinds : (h : Health) (own parity : Place) (row : ℕ) (alone unread lost : AccessPlan)
    → is_missing h parity.disk parity.extent ≡ false
    → Sound h own → Sound h parity
    → kinds_at h (IfMissing parity alone (Try (read_at own row) (Try (read_at parity row)
    (Try (write_at own row) (Try (write_at parity row) Stop Stop) (Try (write_at parity row) Stop Stop)) unread) lost))
    ≡ parity_kinds
known_kinds h own parity row alone unread lost there one two = rw (there, one, two) refl

pub stripe_kinds : (s : SetState) (m : Members) (i : ℕ) → WritesUsable Parity s m i
    → kinds_at s.health (slot_write Parity s.geometry m i) ≡ parity_kinds
stripe_kinds s m i usable =
    let d = data_position i in
    let p = parity_position (row_of i) in
    let row = row_of i in
    let parity = member m p in
    known_kinds s.health (member m d) parity row (write_member m d row) (write_member m d row) (write_lost m d p row)
    (missing_is_lost s.health parity (not_failed s.health parity usable.1) ∙ usable.1) usable.0 usable.1

home_plan_at : (s : StoreState) (h : Option Slot) (o : Option Slot) (b : SetState) → h ≡ o
    → CarriesOut (home_read s h) s.disks b
    → CarriesOut (home_read s o) s.disks b
home_plan_at s h o b is carried = subst (λ (x : Option Slot). CarriesOut (home_read s x) s.disks b) is carried

-- a block without a home
pub unplaced_made : (s : StoreState) (b : SetState) (k : Key) → home s.book k ≡ None
    → CarriesOut (get_plan s k) s.disks b → b ≡ s.disks
unplaced_made s b k none carried = sym (nothing_done s.disks b (home_plan_at s (home s.book k) None b none carried))

-- and another one
pub get_made : (s : StoreState) (b : SetState) (k : Key) (slot : Slot) → ReadsUsableOf s slot → NoneFaults s.disks b
    → home s.book k ≡ Some slot → class_in s slot.group ≢ Free → CarriesOut (get_plan s k) s.disks b
    → MakesAccesses (Read ∷ []) s.disks b
get_made s b k slot usable none placed used carried =
    let c = class_in s slot.group in
    let m = members_of s slot.group in
    makes_at (slot_read c s.disks.geometry m slot.slot) (Read ∷ []) s.disks b none
    (home_plan_at s (home s.book k) (Some slot) b placed carried) (read_kinds c s.disks m slot.slot used usable)

-- a slot's write
pub mirrored_made : (a b : SetState) (m : Members) (i : ℕ) → WritesUsable Mirrored a m i → NoneFaults a b
    → CarriesOut (slot_write Mirrored a.geometry m i) a b → MakesAccesses (Write ∷ Write ∷ []) a b
mirrored_made a b m i usable none carried =
    makes_at (slot_write Mirrored a.geometry m i) (Write ∷ Write ∷ []) a b none carried (mirrored_kinds a m i usable)

pub parity_made : (a b : SetState) (m : Members) (i : ℕ) → WritesUsable Parity a m i → NoneFaults a b
    → CarriesOut (slot_write Parity a.geometry m i) a b → MakesAccesses (Read ∷ Read ∷ Write ∷ Write ∷ []) a b
parity_made a b m i usable none carried =
    makes_at (slot_write Parity a.geometry m i) parity_kinds a b none carried (stripe_kinds a m i usable)

-- a move, to a slot of this class
move_made : (s : StoreState) (b : SetState) (k : Key) (from to : Slot) (c : Class) (kinds : List AccessKind)
    → ReadsUsableOf s from
    → kinds_at s.disks.health (slot_write c s.disks.geometry (members_of s to.group) to.slot) ≡ kinds
    → NoneFaults s.disks b
    → home s.book k ≡ Some from → class_in s from.group ≢ Free → class_in s to.group ≡ c
    → CarriesOut (move_plan s k to) s.disks b
    → MakesAccesses (Read ∷ kinds) s.disks b
move_made s b k from to c kinds usable are none placed used is carried =
    let d = class_in s from.group in
    let g = s.disks.geometry in
    let m = members_of s from.group in
    let n = members_of s to.group in
    let read = slot_read d g m from.slot in
    let write = slot_write c g n to.slot in
    let P : Option Slot → Type 0 = λ h. CarriesOut (both_of (home_read s h) (write_of s to)) s.disks b in
    let Q : Class → Type 0 = λ x. CarriesOut (both_of read (slot_write x g n to.slot)) s.disks b in
    makes_at (both_of read write) (Read ∷ kinds) s.disks b none (subst Q is (subst P placed carried))
    (both_kinds read write s.disks.health
    ∙ ap (λ l. l ++ kinds_at s.disks.health write) (read_kinds d s.disks m from.slot used usable)
    ∙ ap (λ l. Read ∷ l) are)

pub moved_to_mirrored : (s : StoreState) (b : SetState) (k : Key) (from to : Slot) → ReadsUsableOf s from
    → WritesUsableAs Mirrored s to
    → NoneFaults s.disks b → home s.book k ≡ Some from → class_in s from.group ≢ Free → class_in s to.group ≡ Mirrored
    → CarriesOut (move_plan s k to) s.disks b → MakesAccesses (Read ∷ Write ∷ Write ∷ []) s.disks b
moved_to_mirrored s b k from to reads writes none placed used is carried =
    move_made s b k from to Mirrored (Write ∷ Write ∷ []) reads
    (mirrored_kinds s.disks (members_of s to.group) to.slot writes) none placed used is carried

pub moved_to_parity : (s : StoreState) (b : SetState) (k : Key) (from to : Slot) → ReadsUsableOf s from
    → WritesUsableAs Parity s to
    → NoneFaults s.disks b → home s.book k ≡ Some from → class_in s from.group ≢ Free → class_in s to.group ≡ Parity
    → CarriesOut (move_plan s k to) s.disks b → MakesAccesses (Read ∷ Read ∷ Read ∷ Write ∷ Write ∷ []) s.disks b
moved_to_parity s b k from to reads writes none placed used is carried =
    move_made s b k from to Parity parity_kinds reads (stripe_kinds s.disks (members_of s to.group) to.slot writes) none
    placed used is carried

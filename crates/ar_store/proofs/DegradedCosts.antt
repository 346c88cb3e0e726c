-- What reads and writes of slots cost while one of their extents is lost.
use Rattle.std.proofs.Common.{◌≡◌, inl, inr, ℕ, ◌+◌, ◌%◌, true, false, [], ◌∷◌, refl, sym, ◌∙◌, arith}
use Rattle.ar_disks.specs.declared.address.Members.{Members}
use Rattle.ar_disks.specs.declared.address.Place.{Place}
use Rattle.ar_disks.specs.Members.{member}
use Rattle.ar_extents.specs.declared.health.Health.{Health}
use Rattle.ar_extents.specs.declared.log.AccessKind.TheVariants.{Read, Write}
use Rattle.ar_extents.specs.Health.{is_missing}
use Rattle.ar_extents.specs.Set.{SetState}
use Rattle.ar_extents.specs.Plans.{AccessPlan, Stop, Try, IfMissing, CarriesOut, NoneFaults, all_of, read_at, write_at}
use Rattle.ar_mirror.specs.Slots.{one_of, other_of, row_of as mirror_row}
use Rattle.ar_mirror.specs.Plans.{write_pair}
use Rattle.ar_parity.specs.Row.{row_of, data_position, parity_position}
use Rattle.ar_parity.specs.Plans.{write_member, write_known, write_by_reading}
use Rattle.ar_parity.specs.Others.{low_other, high_other}
use Rattle.ar_parity.proofs.SlotLemmas.{position_apart, position_below}
use Rattle.ar_parity.proofs.Sums.{low_apart, high_apart}
use Rattle.ar_book.specs.declared.class.Class.TheVariants.{Mirrored, Parity}
use Rattle.ar_store.specs.Plans.{slot_read, slot_write, MakesAccesses, LacksOnly, LacksOneOf}
use Rattle.ar_store.proofs.Costs.{kinds_at, makes_at, Lost, Sound, read_kinds, missing_is_lost, not_failed}

-- the two extents of a mirrored slot
write_first : (h : Health) (one other : Place) (row : ℕ) → Sound h one → Lost h other
    → kinds_at h (write_pair one other row) ≡ Write ∷ []
write_first h one other row sound lost = rw (sound, lost) refl

write_other : (h : Health) (one other : Place) (row : ℕ) → Lost h one → Sound h other
    → kinds_at h (write_pair one other row) ≡ Write ∷ []
write_other h one other row lost sound = rw (lost, sound) refl

pub mirrored_read_short : (a b : SetState) (m : Members) (i : ℕ) → NoneFaults a b
    → CarriesOut (slot_read Mirrored a.geometry m i) a b → LacksOneOf a m i
    → MakesAccesses (Read ∷ []) a b
mirrored_read_short a b m i none carried lacks =
    makes_at (slot_read Mirrored a.geometry m i) (Read ∷ []) a b none carried
    (read_kinds Mirrored a m i (λ e. cc) (elim lacks [ inl first ↦ inr first.1 | inr second ↦ inl second.0 ]))

pub mirrored_write_short : (a b : SetState) (m : Members) (i : ℕ) → NoneFaults a b
    → CarriesOut (slot_write Mirrored a.geometry m i) a b → LacksOneOf a m i
    → MakesAccesses (Write ∷ []) a b
mirrored_write_short a b m i none carried lacks =
    let one = one_of a.geometry m i in
    let other = other_of a.geometry m i in
    let row = mirror_row a.geometry i in
    makes_at (write_pair one other row) (Write ∷ []) a b none carried (elim lacks [
      | inl first ↦ write_other a.health one other row first.0 first.1
      | inr second ↦ write_first a.health one other row second.0 second.1
    ])

-- a slot with parity
read_three : (h : Health) (own p q r : Place) (row : ℕ) → Lost h own → Sound h p → Sound h q → Sound h r
    → kinds_at h (Try (read_at own row) Stop (all_of (read_at p row ∷ read_at q row ∷ read_at r row ∷ []) Stop))
    ≡ Read ∷ Read ∷ Read ∷ []
read_three h own p q r row lost one two three = rw (lost, one, two, three) refl

pub parity_read_short : (a b : SetState) (m : Members) (i : ℕ) → NoneFaults a b
    → CarriesOut (slot_read Parity a.geometry m i) a b
    → LacksOnly a m (data_position i) → MakesAccesses (Read ∷ Read ∷ Read ∷ []) a b
parity_read_short a b m i none carried lacks =
    let d = data_position i in
    let n = (d + 1) % 4 in
    let low = low_apart d n in
    let high = high_apart d n in
    makes_at (slot_read Parity a.geometry m i) (Read ∷ Read ∷ Read ∷ []) a b none carried
    (read_three a.health (member m d) (member m (low_other d n)) (member m (high_other d n)) (member m n) (row_of i)
    lacks.lost
    (lacks.others (low_other d n) low.0 low.1) (lacks.others (high_other d n) high.0 high.1)
    (lacks.others n (omega arith) (λ same. (omega arith))))

write_alone : (h : Health) (own parity : Place) (row : ℕ) (other : AccessPlan)
    → is_missing h parity.disk parity.extent ≡ true → Sound h own
    → kinds_at h (IfMissing parity (Try (write_at own row) Stop Stop) other) ≡ Write ∷ []
write_alone h own parity row other missing sound = rw (missing, sound) refl

write_rebuilt : (h : Health) (own parity p q : Place) (row : ℕ) (first known : AccessPlan)
    → is_missing h parity.disk parity.extent ≡ false
    → Lost h own → Sound h parity → Sound h p → Sound h q
    → kinds_at h (IfMissing parity first (Try (read_at own row) known
    (all_of (read_at p row ∷ read_at q row ∷ []) (Try (write_at parity row) Stop Stop)))) ≡ Read ∷ Read ∷ Write ∷ []
write_rebuilt h own parity p q row first known there lost sound one two = rw (there, lost, one, two, sound) refl

pub parity_write_alone : (a b : SetState) (m : Members) (i : ℕ) → NoneFaults a b
    → CarriesOut (slot_write Parity a.geometry m i) a b
    → LacksOnly a m (parity_position (row_of i)) → MakesAccesses (Write ∷ []) a b
parity_write_alone a b m i none carried lacks =
    let d = data_position i in
    let p = parity_position (row_of i) in
    let own = lacks.others d (position_below i) (position_apart i) in
    makes_at (slot_write Parity a.geometry m i) (Write ∷ []) a b none carried
    (write_alone a.health (member m d) (member m p) (row_of i) (write_by_reading m d p (row_of i))
    (missing_is_lost a.health (member m p) (not_failed a.health (member m d) own) ∙ lacks.lost) own)

pub parity_write_short : (a b : SetState) (m : Members) (i : ℕ) → NoneFaults a b
    → CarriesOut (slot_write Parity a.geometry m i) a b
    → LacksOnly a m (data_position i) → MakesAccesses (Read ∷ Read ∷ Write ∷ []) a b
parity_write_short a b m i none carried lacks =
    let d = data_position i in
    let p = parity_position (row_of i) in
    let low = low_apart d p in
    let high = high_apart d p in
    let parity = lacks.others p (omega arith) (λ same. position_apart i (sym same)) in
    makes_at (slot_write Parity a.geometry m i) (Read ∷ Read ∷ Write ∷ []) a b none carried
    (write_rebuilt a.health (member m d) (member m p) (member m (low_other d p)) (member m (high_other d p)) (row_of i)
    (write_member m d (row_of i)) (write_known m d p (row_of i))
    (missing_is_lost a.health (member m p) (not_failed a.health (member m p) parity) ∙ parity) lacks.lost parity
    (lacks.others (low_other d p) low.0 low.1) (lacks.others (high_other d p) high.0 high.1))

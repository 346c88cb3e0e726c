-- What an answer of one disk does to the set.
use Rattle.std.proofs.Common.{◌≡◌, ◌≢◌, inl, inr, ℕ, ◌+◌, ◌-◌, ◌^◌, ◌<◌, ◌≤◌, Bool, true, false, cond, List, length}
use Rattle.std.proofs.Common.{get_or, [], refl, sym, ◌∙◌, ap, subst, arith}
use Rattle.std.proofs.lemmas.Bool.Decides.{eqb_tells}
use Rattle.ar_disks.specs.declared.address.Place.{Place}
use Rattle.ar_disks.specs.Block.{with_sectors}
use Rattle.ar_disks.specs.Disk.{DiskState, AccessesDisk, Reads, ReadsPart, Writes, counted, block_at}
use Rattle.ar_extents.specs.declared.health.Health.{Health}
use Rattle.ar_extents.specs.declared.health.Health.TheVariants.{Whole, Out, Rebuilding, Broken}
use Rattle.ar_extents.specs.Health.{is_lost, is_out, IsDown, after_fault, HealthFits, rebuilt_disk, next_extent}
use Rattle.ar_extents.specs.Set.{SetState, IsValidSet, HasShape, disk_in, faults_of, content, IsSound}
use Rattle.ar_extents.specs.Follows.{Follows, Faulted, TwoHit, Keeps, KeepsBut, Anywhere}
use Rattle.ar_extents.specs.declared.log.RowAccess.{RowAccess}
use Rattle.ar_extents.specs.declared.answers.Got.TheVariants.{Read}
use Rattle.ar_extents.specs.Access.{OthersStay, GetsPart, IsRead, IsWritten, next_place, is_read, is_written}
use Rattle.ar_extents.specs.Access.{lost_got, lost_put}
use Rattle.ar_extents.proofs.GroupLemmas.{place_is}
use Rattle.ar_extents.proofs.Faults.{is_out-after_fault, sound_before, other_in_use, in_use_before, out_fault}
use Rattle.ar_extents.proofs.Faults.{rebuilding_fault, down_disk, broken_fault}

-- Disk `d` was accessed, with or without a fault. Shape, unassigned extents and the other disks are unchanged; a fault
-- is counted, and moves health.
pub record Touches (old new : SetState) (d : ℕ) (answered : Bool) : Type 0 where
  pub geometry : new.geometry ≡ old.geometry
  pub extents : new.extents ≡ old.extents
  pub others : OthersStay old.disks new.disks d
  pub health : new.health ≡ cond answered old.health (after_fault old.health d)
  pub faults : faults_of new d ≡ cond answered (faults_of old d) (faults_of old d + 1)
  pub loose : new.loose ≡ old.loose

-- the set once one of its disks has answered
abbrev pub answered_set : SetState → List DiskState → List RowAccess → ℕ → Bool → SetState
answered_set s disks log d answered =
    record s { disks = disks; health = cond answered s.health (after_fault s.health d); log = log }

counted_faults : (before after : ℕ) (answered : Bool) → before < 2 ^ 64 - 1
    → after ≡ cond answered before (counted before)
    → after ≡ cond answered before (before + 1)
counted_faults before after true few is = is
counted_faults before after false few is = is ∙ (omega arith)

pub touches : (s : SetState) (disks : List DiskState) (log : List RowAccess) (d : ℕ) (answered : Bool) → IsValidSet s
    → d < length s.disks → is_out s.health d ≡ false
    → AccessesDisk (disk_in s.disks d) (disk_in disks d) answered → OthersStay s.disks disks d
    → Touches s (answered_set s disks log d answered) d answered
touches s disks log d answered kept exists used answers others = record {
  geometry = refl;
  extents = refl;
  others = others;
  health = refl;
  faults = counted_faults (faults_of s d) (disk_in disks d).faults answered (kept.counting d exists used)
      answers.faults;
  loose = refl;
}

same_faults : (old new : SetState) (d : ℕ) (answered : Bool) → Touches old new d answered → (x : ℕ) → x ≢ d
    → faults_of new x ≡ faults_of old x
same_faults old new d answered t x ne = ap (λ (disk : DiskState). disk.faults) (t.others.others x ne)

none_faulted : (old new : SetState) (d : ℕ) → Touches old new d true → (x : ℕ) → faults_of new x ≡ faults_of old x
none_faulted old new d t x =
    elim (eqb_tells x d) [
      | inl q ↦ (let P : ℕ → Type 0 = λ n. faults_of new n ≡ faults_of old n in subst P (sym q.1) t.faults)
      | inr q ↦ same_faults old new d true t x q.1
    ]

faults_grow : (old new : SetState) (d : ℕ) (answered : Bool) → Touches old new d answered → (x : ℕ)
    → faults_of old x ≤ faults_of new x
faults_grow old new d true t x = let f = none_faulted old new d t x in omega arith
faults_grow old new d false t x =
    elim (eqb_tells x d) [
      | inl q ↦ (let P : ℕ → Type 0 = λ n. faults_of old n
          ≤ faults_of new n in subst P (sym q.1) (let f = t.faults in omega arith))
      | inr q ↦ (let f = same_faults old new d false t x q.1 in omega arith)
    ]

faulted : (old new : SetState) (d : ℕ) → Touches old new d false → Faulted old new d
faulted old new d t = let f = t.faults in omega arith

-- the one disk that faulted is out, or the set is broken
noticed : (old new : SetState) (d : ℕ) → Touches old new d false → (x : ℕ) → Faulted old new x
    → is_out new.health x ≡ true
noticed old new d t x more =
    elim (eqb_tells x d) [
      | inl q ↦
          (let P : ℕ → Type 0 = λ n. is_out new.health n ≡ true in
          subst P (sym q.1) (ap (λ (h : Health). is_out h d) t.health ∙ is_out-after_fault old.health d))
      | inr q ↦ absurd (let f = same_faults old new d false t x q.1 in omega arith)
    ]

two_hit : (old new : SetState) (d : ℕ) → Touches old new d false
    → (d ≢ down_disk old.health) × IsDown old.health (down_disk old.health) → TwoHit old new
two_hit old new d t was = record {
  one = d;
  other = down_disk old.health;
  apart = was.0;
  one_hit = inr (faulted old new d t);
  other_hit = inl was.1;
}

-- an answer of one disk, whether it faulted or not, is a run
pub follows_touched : (old new : SetState) (d : ℕ) (answered : Bool) → Touches old new d answered → Follows old new
follows_touched old new d true t = record {
  geometry = t.geometry;
  extents = t.extents;
  count = t.others.len;
  faults = faults_grow old new d true t;
  noticed = λ x more. absurd (let f = none_faulted old new d t x in omega arith);
  usable = λ place sound. let P : Health → Type 0 =
      λ h. is_lost h place.disk place.extent ≡ false in subst P t.health sound;
  out = λ x is. inl (sym t.health ∙ is);
  rebuilding = λ x done is. sym t.health ∙ is;
  broken = λ is. inl (sym t.health ∙ is);
}
follows_touched old new d false t = record {
  geometry = t.geometry;
  extents = t.extents;
  count = t.others.len;
  faults = faults_grow old new d false t;
  noticed = noticed old new d t;
  usable = λ place sound.
      let P : Health → Type 0 = λ h. is_lost h place.disk place.extent ≡ false in
      sound_before old.health d place.disk place.extent (subst P t.health sound);
  out = λ x is.
      elim (out_fault old.health d x (sym t.health ∙ is)) [
        | inl was ↦ inl was
        | inr same ↦ inr (let P : ℕ → Type 0 = λ n. Faulted old new n in subst P same (faulted old new d t))
      ];
  rebuilding = λ x done is. absurd (rebuilding_fault old.health d x done (sym t.health ∙ is));
  broken = λ is.
      elim (broken_fault old.health d (sym t.health ∙ is))
      [ inl was ↦ inl was | inr was ↦ inr (two_hit old new d t was) ];
}

fits_fault : (h : Health) (d count extents : ℕ) → d < count → HealthFits h count extents
    → HealthFits (after_fault h d) count extents
fits_fault Whole d count extents exists fits = exists
fits_fault (Out x) d count extents exists fits =
    elim (eqb_tells d x) [ inl t ↦ rw t.0 fits | inr t ↦ rw t.0 tt ]
fits_fault (Rebuilding x done) d count extents exists fits =
    elim (eqb_tells d x) [ inl t ↦ rw t.0 (fits.0) | inr t ↦ rw t.0 tt ]
fits_fault Broken d count extents exists fits = tt

fits_touched : (old new : SetState) (d : ℕ) (answered : Bool) → IsValidSet old → d < length old.disks
    → Touches old new d answered
    → HealthFits new.health (length new.disks) new.extents
fits_touched old new d true kept exists t =
    let P : Health → Type 0 = λ h. HealthFits h (length new.disks) new.extents in
    let Q : ℕ → Type 0 = λ n. HealthFits old.health n new.extents in
    let R : ℕ → Type 0 = λ n. HealthFits old.health (length old.disks) n in
    subst P (sym t.health) (subst Q (sym t.others.len) (subst R (sym t.extents) kept.health_fits))
fits_touched old new d false kept exists t =
    let P : Health → Type 0 = λ h. HealthFits h (length new.disks) new.extents in
    let Q : ℕ → Type 0 = λ n. HealthFits (after_fault old.health d) n new.extents in
    let R : ℕ → Type 0 = λ n. HealthFits (after_fault old.health d) (length old.disks) n in
    subst P (sym t.health)
    (subst Q (sym t.others.len)
    (subst R (sym t.extents) (fits_fault old.health d (length old.disks) old.extents exists kept.health_fits)))

counting_touched : (old new : SetState) (d : ℕ) (answered : Bool) → IsValidSet old → Touches old new d answered
    → (x : ℕ) → x < length new.disks → is_out new.health x ≡ false → faults_of new x < 2 ^ 64 - 1
counting_touched old new d true kept t x exists used =
    let P : Health → Type 0 = λ h. is_out h x ≡ false in
    let few = kept.counting x (omega (arith, t.others.len)) (subst P t.health used) in
    let f = none_faulted old new d t x in
    omega arith
counting_touched old new d false kept t x exists used =
    let P : Health → Type 0 = λ h. is_out h x ≡ false in
    let used_after = subst P t.health used in
    let few = kept.counting x (omega (arith, t.others.len)) (in_use_before old.health d x used_after) in
    let f = same_faults old new d false t x (other_in_use old.health d x used_after) in
    omega arith

-- the new disk at this place has the set's shape
abbrev pub KeepsShape : SetState → SetState → ℕ → Type 0
KeepsShape old new d = HasShape old.geometry old.extents (disk_in new.disks d)

shapes_touched : (old new : SetState) (d : ℕ) (answered : Bool) → IsValidSet old → KeepsShape old new d
    → Touches old new d answered
    → (x : ℕ) → x < length new.disks → HasShape new.geometry new.extents (disk_in new.disks x)
shapes_touched old new d answered kept shape t x exists =
    elim (eqb_tells x d) [
      | inl q ↦ (let P : ℕ → Type 0 = λ n. HasShape new.geometry new.extents (disk_in new.disks n) in
          subst P (sym q.1)
          (record {
            geometry_same = shape.geometry_same ∙ sym t.geometry;
            extents_same = shape.extents_same
                ∙ sym t.extents;
          }))
      | inr q ↦ (let old_shape = kept.shapes x (omega (arith, t.others.len)) in
          record {
            geometry_same =
                ap (λ (disk : DiskState). disk.geometry) (t.others.others x q.1) ∙ old_shape.geometry_same
                ∙ sym t.geometry;
            extents_same =
                ap (λ (disk : DiskState). disk.extents) (t.others.others x q.1) ∙ old_shape.extents_same
                ∙ sym t.extents;
          })
    ]

-- the type keeps its invariant when one of its disks has answered
pub kept_touched : (old new : SetState) (d : ℕ) (answered : Bool) → IsValidSet old → d < length old.disks
    → KeepsShape old new d → Touches old new d answered
    → IsValidSet new
kept_touched old new d answered kept exists shape t =
    let len = t.others.len in
    let extents = t.extents in
    let few = kept.few_extents in
    let some = kept.some_extents in
    let most = kept.at_most in
    let least = kept.at_least in
    record {
      at_least = omega arith;
      at_most = omega arith;
      some_extents = omega arith;
      few_extents = omega arith;
      shapes = shapes_touched old new d answered kept shape t;
      counting = counting_touched old new d answered kept t;
      health_fits = fits_touched old new d answered kept exists t;
      tables = ap length t.loose ∙ kept.tables ∙ sym t.others.len;
      marks = λ x lt. let P : List (List Bool) → Type 0 =
          λ l. (y : ℕ) → y < length l → length (get_or l y []) ≡ old.extents in (subst P (sym t.loose) kept.marks x lt)
          ∙ sym t.extents;
    }

-- the disk that answered keeps the set's shape
pub shape_answered : (old : SetState) (disks : List DiskState) (d : ℕ) (answered : Bool) → IsValidSet old
    → d < length old.disks
    → AccessesDisk (disk_in old.disks d) (disk_in disks d) answered
    → HasShape old.geometry old.extents (disk_in disks d)
shape_answered old disks d answered kept exists answers =
    let shape = kept.shapes d exists in
    record {
      geometry_same = answers.geometry ∙ shape.geometry_same;
      extents_same = answers.extents
          ∙ shape.extents_same;
    }

-- a read changes no content
pub keeps_read : (old new : SetState) (d extent row : ℕ) (answered : Bool) (into : List ℕ)
    → OthersStay old.disks new.disks d
    → Reads (disk_in old.disks d) (disk_in new.disks d) extent row answered into → Keeps Anywhere old new
unfolding content
keeps_read old new d extent row answered into others reads = record {
  rows = λ place is r.
      elim (eqb_tells place.disk d) [
        | inl q ↦ (let P : ℕ → Type 0 = λ n. block_at (disk_in new.disks n) place.extent r
            ≡ block_at (disk_in old.disks n) place.extent r in
            subst P (sym q.1) (reads.blocks place.extent r))
        | inr q ↦ ap (λ (disk : DiskState). block_at disk place.extent r) (others.others place.disk q.1)
      ];
}

-- a write changes one row
pub keeps_written : (old new : SetState) (place : Place) (row : ℕ) (answered : Bool) (from : List ℕ)
    → OthersStay old.disks new.disks place.disk
    → Writes (disk_in old.disks place.disk) (disk_in new.disks place.disk) place.extent row answered from
    → KeepsBut place row old new
unfolding content
keeps_written old new place row answered from others writes = record {
  other_rows = λ r ne. writes.same_extent r ne;
  other_places = record {
    rows = λ p ne r.
        elim (eqb_tells p.disk place.disk) [
          | inl q ↦ (let P : ℕ → Type 0 = λ n. block_at (disk_in new.disks n) p.extent r
              ≡ block_at (disk_in old.disks n) p.extent r in
              subst P (sym q.1) (writes.other_extents p.extent r (λ e. ne (place_is p place q.1 e))))
          | inr q ↦ ap (λ (disk : DiskState). block_at disk p.extent r) (others.others p.disk q.1)
        ];
  };
}

-- The results of a call, in terms of the state `self` that the call began with: `old` is what its fields show.

pub read_answer : (old self : SetState) (disks : List DiskState) (log : List RowAccess) (place : Place) (row : ℕ)
    (into : List ℕ) → old ≡ self → IsSound old place
    → Reads (disk_in old.disks place.disk) (disk_in disks place.disk) place.extent row true into
    → IsRead self (answered_set old disks log place.disk true) place row into
unfolding content
read_answer old self disks log place row into same sound reads =
    subst (λ (s : SetState). IsRead s (answered_set old disks log place.disk true) place row into) same
    (record { bytes_are = reads.content refl; was_sound = sound; sound = sound })

pub write_answer : (old self : SetState) (disks : List DiskState) (log : List RowAccess) (place : Place) (row : ℕ)
    (from : List ℕ) → old ≡ self → IsSound old place
    → Writes (disk_in old.disks place.disk) (disk_in disks place.disk) place.extent row true from
    → IsWritten self (answered_set old disks log place.disk true) place row from
unfolding content
write_answer old self disks log place row from same sound writes =
    subst (λ (s : SetState). IsWritten s (answered_set old disks log place.disk true) place row from) same
    (record { content_is = writes.written refl; was_sound = sound; sound = sound })

-- the same of accesses of a part
pub part_read : (old self : SetState) (disks : List DiskState) (log : List RowAccess) (place : Place)
    (row first : ℕ) (into : List ℕ) → old ≡ self → IsSound old place
    → ReadsPart (disk_in old.disks place.disk) (disk_in disks place.disk) place.extent row first true into
    → GetsPart self (answered_set old disks log place.disk true) place row first into Read
unfolding content
part_read old self disks log place row first into same sound reads =
    subst (λ (s : SetState). GetsPart s (answered_set old disks log place.disk true) place row first into Read) same
    (record { block = record { bytes_are = refl; was_sound = sound; sound = sound }; part = λ _. reads.part refl })

pub part_written : (old self : SetState) (disks : List DiskState) (log : List RowAccess) (place : Place)
    (row first : ℕ) (from : List ℕ) → old ≡ self → IsSound old place
    → Writes (disk_in old.disks place.disk) (disk_in disks place.disk) place.extent row true
    (with_sectors (block_at (disk_in old.disks place.disk) place.extent row) first from)
    → IsWritten self (answered_set old disks log place.disk true) place row
    (with_sectors (content self place row) first from)
unfolding content
part_written old self disks log place row first from same sound writes =
    subst (λ (s : SetState). IsWritten s (answered_set old disks log place.disk true) place row
    (with_sectors (content s place row) first from)) same
    (record { content_is = writes.written refl; was_sound = sound; sound = sound })

pub is_read-lost : (h : Health) → is_read (lost_got h) ≡ false
is_read-lost Whole = refl
is_read-lost (Out x) = refl
is_read-lost (Rebuilding x done) = refl
is_read-lost Broken = refl

pub is_written-lost : (h : Health) → is_written (lost_put h) ≡ false
is_written-lost Whole = refl
is_written-lost (Out x) = refl
is_written-lost (Rebuilding x done) = refl
is_written-lost Broken = refl

-- the place that is rebuilt next, where the disk and its mark are known
pub next_place_is : (old self : SetState) (place : Place) → old ≡ self → old.health ≡ Rebuilding place.disk place.extent
    → next_place self ≡ place
next_place_is old self place same is =
    let there : Health → Place = λ h. record { disk = rebuilt_disk h; extent = next_extent h } in
    ap next_place (sym same) ∙ ap there is

pub new_answer : (old self : SetState) (disks : List DiskState) (log : List RowAccess) (place : Place) (row : ℕ)
    (from : List ℕ) → old ≡ self → old.health ≡ Rebuilding place.disk place.extent
    → Writes (disk_in old.disks place.disk) (disk_in disks place.disk) place.extent row true from
    → (content (record old { disks = disks; log = log }) (next_place self) row ≡ from) × (old.health ≡ self.health)
unfolding content
new_answer old self disks log place row from same is writes =
    let new : SetState = record old { disks = disks; log = log } in (
      subst (λ (p : Place). content new p row ≡ from) (sym (next_place_is old self place same is))
          (writes.written refl),
      ap (λ (s : SetState). s.health) same,
    )

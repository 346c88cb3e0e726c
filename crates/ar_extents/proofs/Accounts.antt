-- What accesses change in a set, one alone and one list after the other.
use Rattle.std.proofs.Common.{◌≡◌, inl, inr, ℕ, ◌+◌, ◌<◌, Bool, true, false, not, ◌&&◌, cond, eqb, List, [], ◌∷◌, ◌++◌}
use Rattle.std.proofs.Common.{length, refl, sym, ◌∙◌, ap, subst, arith}
use Rattle.std.specs.Prelude.{count_by}
use Rattle.std.proofs.lemmas.Bool.Decides.{eqb_tells, nat_tests}
use Rattle.std.proofs.lemmas.List.{append_assoc, append-nil}
use Rattle.std.proofs.lemmas.List.Sums.{sum_by-append, sum_by-cons}
use Rattle.ar_disks.specs.declared.address.Place.{Place}
use Rattle.ar_disks.specs.Disk.{DiskState, AccessesDisk, Reads, Writes}
use Rattle.ar_extents.specs.declared.health.Health.{Health}
use Rattle.ar_extents.specs.declared.health.Health.TheVariants.{Rebuilding}
use Rattle.ar_extents.specs.declared.log.RowAccess.{RowAccess}
use Rattle.ar_extents.specs.declared.answers.Got.{Got}
use Rattle.ar_extents.specs.declared.answers.Put.{Put}
use Rattle.ar_extents.specs.Health.{is_out, after_fault, HealthFits}
use Rattle.ar_extents.specs.Set.{SetState, IsValidSet, HasExtent, IsSound, disk_in, faults_of, content}
use Rattle.ar_extents.specs.Follows.{KeepsBut}
use Rattle.ar_extents.specs.Access.{OthersStay, next_place, is_read, is_written, lost_got, lost_put}
use Rattle.ar_extents.specs.Log.{AccountsFor, accesses_of, is_on, is_fault_of, writes_row, health_then, health_after}
use Rattle.ar_extents.specs.Plans.{Attempt, Attempts, read_at, write_at, rebuild_at, access_of, skips}
use Rattle.ar_extents.proofs.Access.{Touches, touches, keeps_read, keeps_written, is_read-lost, is_written-lost}
use Rattle.ar_extents.proofs.Access.{next_place_is}
use Rattle.ar_extents.proofs.Faults.{is_out-sound}
use Rattle.ar_extents.proofs.GroupLemmas.{same_place}

pub count_cons : (p : RowAccess → Bool) (a : RowAccess) (rest : List RowAccess)
    → count_by p (a ∷ rest) ≡ cond (p a) 1 0 + count_by p rest
count_cons p a rest = sum_by-cons (λ x. cond (p x) 1 0) a rest

pub count_append : (p : RowAccess → Bool) (xs ys : List RowAccess)
    → count_by p (xs ++ ys) ≡ count_by p xs + count_by p ys
count_append p xs ys = sum_by-append (λ x. cond (p x) 1 0) xs ys

pub health_append : (h : Health) (xs ys : List RowAccess)
    → health_after h (xs ++ ys) ≡ health_after (health_after h xs) ys
health_append h [] ys = refl
health_append h (a ∷ rest) ys = health_append (health_then h a) rest ys

-- no access
pub accounts_none : (s : SetState) → AccountsFor [] s s
accounts_none s = record {
  geometry = refl;
  extents = refl;
  count = refl;
  loose = refl;
  log = sym (append-nil s.log);
  health = refl;
  accesses = λ d. omega arith;
  faults = λ d. omega arith;
  disks = λ d none. refl;
  rows = λ place row none. refl;
}

-- some accesses, and then more
pub accounts_then : (xs ys : List RowAccess) (a b c : SetState) → AccountsFor xs a b → AccountsFor ys b c
    → AccountsFor (xs ++ ys) a c
accounts_then xs ys a b c ab bc = record {
  geometry = bc.geometry ∙ ab.geometry;
  extents = bc.extents ∙ ab.extents;
  count = bc.count ∙ ab.count;
  loose = bc.loose ∙ ab.loose;
  log = bc.log ∙ ap (λ l. l ++ ys) ab.log ∙ append_assoc a.log xs ys;
  health = bc.health ∙ ap (λ h. health_after h ys) ab.health ∙ sym (health_append a.health xs ys);
  accesses = λ d. let f = ab.accesses d in let g = bc.accesses d in let n = count_append (is_on d) xs ys in omega arith;
  faults = λ d. let f = ab.faults d in let g = bc.faults d in let n = count_append (is_fault_of d) xs ys in omega arith;
  disks = λ d none. let n = count_append (is_on d) xs ys in bc.disks d (omega arith) ∙ ab.disks d (omega arith);
  rows = λ place row none.
      let n = count_append (writes_row place row) xs ys in bc.rows place row (omega arith)
      ∙ ab.rows place row (omega arith);
}

pub count_one : (p : RowAccess → Bool) (a : RowAccess) (b : Bool) → p a ≡ b → count_by p (a ∷ []) ≡ cond b 1 0
count_one p a b is = count_cons p a [] ∙ ap (λ x. cond x 1 0 + 0) is ∙ (omega arith)

none_counted : (p : RowAccess → Bool) (a : RowAccess) (b : Bool) → p a ≡ b → count_by p (a ∷ []) ≡ 0 → p a ≡ false
none_counted p a true is none = absurd (let one = count_one p a true is in omega arith)
none_counted p a false is none = is

fault_counted : (n m : ℕ) (answered : Bool) → m ≡ cond answered n (n + 1) → m ≡ n + cond (not answered) 1 0
fault_counted n m true is = is ∙ (omega arith)
fault_counted n m false is = is

-- one access of a usable disk
pub accounts_one : (old new : SetState) (t : Attempt) (answered : Bool) → Touches old new t.place.disk answered
    → accesses_of new t.place.disk ≡ accesses_of old t.place.disk + 1 → new.log ≡ old.log ++ access_of t answered ∷ []
    → ((p : Place) (r : ℕ) → writes_row p r (access_of t answered) ≡ false → content new p r ≡ content old p r)
    → AccountsFor (access_of t answered ∷ []) old new
accounts_one old new t answered touched counted logged unwritten =
    let a : RowAccess = access_of t answered in
    let place : Place = t.place in
    record {
      geometry = touched.geometry;
      extents = touched.extents;
      count = touched.others.len;
      loose = touched.loose;
      log = logged;
      health = touched.health;
      accesses = λ d.
          elim (eqb_tells place.disk d) [
            | inl q ↦
                (let one = count_one (is_on d) a true q.0 in
                let Q : ℕ → Type 0 = λ n. accesses_of new n ≡ accesses_of old n + 1 in
                subst Q q.1 counted ∙ ap (λ n. accesses_of old d + n) (sym one))
            | inr q ↦
                (let none = count_one (is_on d) a false q.0 in
                let same = ap (λ (disk : DiskState). disk.accesses) (touched.others.others d (λ is. q.1 (sym is))) in
                omega arith)
          ];
      faults = λ d.
          elim (eqb_tells place.disk d) [
            | inl q ↦
                (let one = count_one (is_fault_of d) a (not answered) (ap (λ b. b && not answered) q.0) in
                let Q : ℕ → Type 0 = λ n. faults_of new n ≡ faults_of old n + cond (not answered) 1 0 in
                subst Q q.1 (fault_counted (faults_of old place.disk) (faults_of new place.disk) answered
                touched.faults) ∙ ap (λ n. faults_of old d + n) (sym one))
            | inr q ↦
                (let none = count_one (is_fault_of d) a false (ap (λ b. b && not answered) q.0) in
                let same = ap (λ (disk : DiskState). disk.faults) (touched.others.others d (λ is. q.1 (sym is))) in
                omega arith)
          ];
      disks = λ d none.
          elim (eqb_tells place.disk d) [
            | inl q ↦ absurd (let one = count_one (is_on d) a true q.0 in omega arith)
            | inr q ↦ touched.others.others d (λ is. q.1 (sym is))
          ];
      rows = λ p r none. unwritten p r (none_counted (writes_row p r) a (writes_row p r a) refl none);
    }

same_true : (n m : ℕ) → n ≡ m → eqb n m ≡ true
same_true n m is = grind (arith, nat_tests)

not_all : (a b c : Bool) → a ≡ true → b ≡ true → c ≡ true → (a && (b && c)) ≡ false → ⊥
not_all true true true p q r none = cc
not_all true true false p q r none = cc
not_all true false c p q r none = cc
not_all false b c p q r none = cc

-- a row that a write leaves
unwritten_row : (old new : SetState) (place : Place) (row : ℕ) → KeepsBut place row old new
    → (p : Place) (r : ℕ) → (eqb row r && (eqb place.disk p.disk && eqb place.extent p.extent)) ≡ false
    → content new p r ≡ content old p r
unwritten_row old new place row keeps p r unwritten =
    elim (same_place p place) [
      | inr ne ↦ keeps.other_places.rows p ne r
      | inl same ↦
          elim (eqb_tells row r) [
            | inr q ↦
                (let P : Place → Type 0 = λ x. content new x r
                ≡ content old x r in subst P (sym same) (keeps.other_rows r (λ is. q.1 (sym is))))
            | inl q ↦
                absurd (not_all (eqb row r) (eqb place.disk p.disk) (eqb place.extent p.extent) q.0
                (same_true place.disk p.disk (sym (ap (λ (x : Place). x.disk) same)))
                (same_true place.extent p.extent (sym (ap (λ (x : Place). x.extent) same))) unwritten)
          ]
    ]

-- What one attempt that was made tells of the state `self` that the call began with: `old` is what its fields show, and
-- the call left these disks, this health and this log.
attempt_made : (old self : SetState) (disks : List DiskState) (h : Health) (log : List RowAccess) (t : Attempt)
    (answered : Bool) → old ≡ self
    → IsValidSet old → t.place.disk < length old.disks → is_out old.health t.place.disk ≡ false
    → skips old.health t ≡ false
    → h ≡ cond answered old.health (after_fault old.health t.place.disk)
    → AccessesDisk (disk_in old.disks t.place.disk) (disk_in disks t.place.disk) answered
    → OthersStay old.disks disks t.place.disk
    → log ≡ old.log ++ access_of t answered ∷ []
    → ((p : Place) (r : ℕ) → writes_row p r (access_of t answered) ≡ false
    → content (record old { disks = disks; health = h; log = log }) p r ≡ content old p r)
    → Attempts t answered self (record old { disks = disks; health = h; log = log })
attempt_made old self disks h log t answered same kept exists used tried is answers others logged unwritten =
    let new : SetState = record old { disks = disks; health = h; log = log } in
    let touched =
    subst (λ (x : Health). Touches old (record old { disks = disks; health = x; log = log }) t.place.disk answered)
    (sym is)
    (touches old disks log t.place.disk answered kept exists used answers others) in
    let made : AccountsFor (access_of t answered ∷ []) old new =
    accounts_one old new t answered touched answers.accesses logged unwritten in
    let P : Bool → Type 0 = λ b. AccountsFor (cond b [] (access_of t answered ∷ [])) old new in
    subst (λ (s : SetState). Attempts t answered s new) same (record {
      skipped = λ skipped. absurd (let k : true ≡ false = sym skipped ∙ tried in cc);
      made = subst P (sym tried) made;
    })

pub read_made : (old self : SetState) (disks : List DiskState) (h : Health) (log : List RowAccess) (place : Place)
    (row : ℕ) (answered : Bool) (into : List ℕ)
    → old ≡ self → IsValidSet old → HasExtent self place → IsSound old place
    → h ≡ cond answered old.health (after_fault old.health place.disk)
    → Reads (disk_in old.disks place.disk) (disk_in disks place.disk) place.extent row answered into
    → OthersStay old.disks disks place.disk
    → log ≡ old.log ++ access_of (read_at place row) answered ∷ []
    → Attempts (read_at place row) answered self (record old { disks = disks; health = h; log = log })
read_made old self disks h log place row answered into same kept exists sound is reads others logged =
    let new : SetState = record old { disks = disks; health = h; log = log } in
    attempt_made old self disks h log (read_at place row) answered same kept
    (subst (λ (s : SetState). HasExtent s place) (sym same) exists).disk
    (is_out-sound old.health place.disk place.extent sound) sound is reads.answers others logged
    (λ p r none. (keeps_read old new place.disk place.extent row answered into others reads).rows p tt r)

pub write_made : (old self : SetState) (disks : List DiskState) (h : Health) (log : List RowAccess) (place : Place)
    (row : ℕ) (answered : Bool) (from : List ℕ)
    → old ≡ self → IsValidSet old → HasExtent self place → IsSound old place
    → h ≡ cond answered old.health (after_fault old.health place.disk)
    → Writes (disk_in old.disks place.disk) (disk_in disks place.disk) place.extent row answered from
    → OthersStay old.disks disks place.disk
    → log ≡ old.log ++ access_of (write_at place row) answered ∷ []
    → Attempts (write_at place row) answered self (record old { disks = disks; health = h; log = log })
write_made old self disks h log place row answered from same kept exists sound is writes others logged =
    let new : SetState = record old { disks = disks; health = h; log = log } in
    attempt_made old self disks h log (write_at place row) answered same kept
    (subst (λ (s : SetState). HasExtent s place) (sym same) exists).disk
    (is_out-sound old.health place.disk place.extent sound) sound is writes.answers others logged
    (unwritten_row old new place row (keeps_written old new place row answered from others writes))

-- of the disk that is being rebuilt, its extents aren't usable yet
rebuilt_exists : (s : SetState) (place : Place) → IsValidSet s → s.health ≡ Rebuilding place.disk place.extent
    → place.disk < length s.disks
rebuilt_exists s place kept is =
    let P : Health → Type 0 = λ h. HealthFits h (length s.disks) s.extents in (subst P is kept.health_fits).0

pub new_made : (old self : SetState) (disks : List DiskState) (h : Health) (log : List RowAccess) (place : Place)
    (row : ℕ) (answered : Bool) (from : List ℕ)
    → old ≡ self → IsValidSet old → old.health ≡ Rebuilding place.disk place.extent
    → h ≡ cond answered old.health (after_fault old.health place.disk)
    → Writes (disk_in old.disks place.disk) (disk_in disks place.disk) place.extent row answered from
    → OthersStay old.disks disks place.disk
    → log ≡ old.log ++ access_of (rebuild_at place row) answered ∷ []
    → Attempts (rebuild_at (next_place self) row) answered self (record old { disks = disks; health = h; log = log })
new_made old self disks h log place row answered from same kept rebuilding is writes others logged =
    let new : SetState = record old { disks = disks; health = h; log = log } in
    let in_use : is_out old.health place.disk ≡ false = ap (λ (x : Health). is_out x place.disk) rebuilding in
    let tried : skips old.health (rebuild_at place row) ≡ false =
    ap (λ (x : Health). skips x (rebuild_at place row)) rebuilding in
    subst (λ (p : Place). Attempts (rebuild_at p row) answered self new)
    (sym (next_place_is old self place same rebuilding))
    (attempt_made old self disks h log (rebuild_at place row) answered same kept
    (rebuilt_exists old place kept rebuilding) in_use tried is writes.answers others
    logged (unwritten_row old new place row (keeps_written old new place row answered from others writes)))

-- an attempt at a disk that faulted is one that wasn't answered
pub got_made : (t : Attempt) (self new : SetState) (h : Health) (got : Got) → got ≡ lost_got h
    → Attempts t false self new → Attempts t (is_read got) self new
got_made t self new h got is made =
    subst (λ (b : Bool). Attempts t b self new) (sym (ap is_read is ∙ is_read-lost h)) made

pub put_made : (t : Attempt) (self new : SetState) (h : Health) (answer : Put) → answer ≡ lost_put h
    → Attempts t false self new → Attempts t (is_written answer) self new
put_made t self new h answer is made =
    subst (λ (b : Bool). Attempts t b self new) (sym (ap is_written is ∙ is_written-lost h)) made

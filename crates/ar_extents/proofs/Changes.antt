-- What the type keeps when a disk is replaced.
use Rattle.std.proofs.Common.{◌≡◌, ◌≢◌, inl, inr, ℕ, ◌<◌, ◌≤◌, Bool, true, false, cond, leb, eqb, ◌&&◌, List, length}
use Rattle.std.proofs.Common.{set, map, Some, None, refl, sym, ◌∙◌, ap, subst, arith}
use Rattle.std.specs.List.{list_all}
use Rattle.std.proofs.lemmas.List.Folds.{list_all-map}
use Rattle.std.proofs.lemmas.Bool.{eqb-true, le-leb}
use Rattle.std.proofs.lemmas.Bool.Decides.{eqb_tells, nat_tests}
use Rattle.std.proofs.lemmas.List.{map-set, get_or-set_same, get_or-set_other, length-set}
use Rattle.ar_disks.specs.declared.geometry.Geometry.{Geometry}
use Rattle.ar_disks.specs.declared.geometry.Geometry.TheVariants.{Paper, Small}
use Rattle.ar_disks.specs.Disk.{DiskState}
use Rattle.ar_extents.specs.declared.health.Health.{Health}
use Rattle.ar_extents.specs.declared.health.Health.TheVariants.{Whole, Out, Rebuilding, Broken}
use Rattle.ar_extents.specs.declared.refusal.DiskRefusal.TheVariants.{NoSuchDisk, WrongSize, NotOut}
use Rattle.ar_extents.specs.declared.refusal.DiskRefusal.TheVariants.{Broken as AllBroken}
use Rattle.ar_extents.specs.Health.{is_out}
use Rattle.ar_extents.specs.Set.{SetState, IsValidSet, HasShape, CanCount, disk_in, no_disk}
use Rattle.ar_extents.specs.Changes.{same_geometry, has_shape, is_broken_set, replace_refusal, replaced, are_alike}

same_geometry-is : (g h : Geometry) → same_geometry g h ≡ true → g ≡ h
same_geometry-is Paper Paper e = refl
same_geometry-is Paper Small e = absurd cc
same_geometry-is Small Paper e = absurd cc
same_geometry-is Small Small e = refl

both_true : (a b : Bool) → (a && b) ≡ true → (a ≡ true) × (b ≡ true)
both_true true b e = (refl, e)
both_true false b e = absurd cc

-- the test tells the shape
pub HasShape-has_shape : (geometry : Geometry) (extents : ℕ) (disk : DiskState) → has_shape geometry extents disk ≡ true
    → HasShape geometry extents disk
HasShape-has_shape geometry extents disk e =
    let both = both_true (same_geometry disk.geometry geometry) (eqb disk.extents extents) e in
    record {
      geometry_same = same_geometry-is disk.geometry geometry both.0;
      extents_same = eqb-true disk.extents extents both.1;
    }

none_of : {X : Type 0} (a b c e : Bool) (p q r s : X)
    → cond a (Some p) (cond b (Some q) (cond c (cond e None (Some r)) (Some s))) ≡ None
    → (a ≡ false) × (b ≡ false) × (c ≡ true) × (e ≡ true)
none_of true b c e p q r s is = absurd cc
none_of false true c e p q r s is = absurd cc
none_of false false true true p q r s is = (refl, refl, refl, refl)
none_of false false true false p q r s is = absurd cc
none_of false false false e p q r s is = absurd cc

out_is : (h : Health) (d : ℕ) → is_broken_set h ≡ false → is_out h d ≡ true → h ≡ Out d
out_is Whole d broken out = absurd cc
out_is (Out x) d broken out = ap Out (sym (eqb-true d x out))
out_is (Rebuilding x done) d broken out = absurd cc
out_is Broken d broken out = absurd cc

-- where a disk is taken, the one in whose place it goes is out
pub taken_out : (s : SetState) (d : ℕ) (disk : DiskState) → replace_refusal s d disk ≡ None → s.health ≡ Out d
taken_out s d disk taken =
    let why = none_of (is_broken_set s.health) (leb (length s.disks) d) (is_out s.health d)
    (has_shape s.geometry s.extents disk) AllBroken NoSuchDisk WrongSize NotOut taken in
    out_is s.health d why.0 why.2

pub kept_replaced : (s : SetState) (d : ℕ) (disk : DiskState) → IsValidSet s → replace_refusal s d disk ≡ None
    → CanCount disk → IsValidSet (replaced s d disk)
kept_replaced s d disk kept taken few =
    let why = none_of (is_broken_set s.health) (leb (length s.disks) d) (is_out s.health d)
    (has_shape s.geometry s.extents disk) AllBroken NoSuchDisk WrongSize NotOut taken in
    let exists : d < length s.disks = let b = why.1 in grind (arith, nat_tests) in
    let was_out = out_is s.health d why.0 why.2 in
    let len = length-set s.disks d disk in
    let few_extents = kept.few_extents in
    let some = kept.some_extents in
    let most = kept.at_most in
    let least = kept.at_least in
    record {
      at_least = omega arith;
      at_most = omega arith;
      some_extents = some;
      few_extents = few_extents;
      shapes = λ x lt.
          elim (eqb_tells x d) [
            | inl q ↦ (let P : ℕ → Type 0 = λ n. HasShape s.geometry s.extents (disk_in (set s.disks d disk) n) in
                subst P (sym q.1)
                (subst (λ (y : DiskState). HasShape s.geometry s.extents y)
                (sym (get_or-set_same s.disks d disk no_disk exists))
                (HasShape-has_shape s.geometry s.extents disk why.3)))
            | inr q ↦ subst (λ (y : DiskState). HasShape s.geometry s.extents y)
                (sym (get_or-set_other s.disks d x disk no_disk q.1)) (kept.shapes x (omega arith))
          ];
      counting = λ x lt used.
          elim (eqb_tells x d) [
            | inl q ↦ (let P : ℕ → Type 0 = λ n. CanCount (disk_in (set s.disks d disk) n) in
                subst P (sym q.1)
                (subst (λ (y : DiskState). CanCount y) (sym (get_or-set_same s.disks d disk no_disk exists)) few))
            | inr q ↦ (let in_use : is_out s.health x ≡ false = ap (λ (h : Health). is_out h x) was_out ∙ q.0 in
                subst (λ (y : DiskState). CanCount y) (sym (get_or-set_other s.disks d x disk no_disk q.1))
                (kept.counting x (omega arith) in_use))
          ];
      health_fits = (omega arith, omega arith);
      tables = kept.tables ∙ sym len;
      marks = kept.marks;
    }

-- the same, in terms of the disks themselves and of the state `self` that the call began with: `old` is what its fields
-- show
pub kept_replacing : {D : Type 0} (state : D → DiskState) (disks : List D) (d : ℕ) (x : D) (old self : SetState)
    → old.disks ≡ map state disks → old ≡ self
    → IsValidSet old → replace_refusal self d (state x) ≡ None → CanCount (state x)
    → IsValidSet (record old { disks = map state (set disks d x); health = Rebuilding d 0 })
kept_replacing state disks d x old self is same kept taken few =
    let taken_old = subst (λ (s : SetState). replace_refusal s d (state x) ≡ None) (sym same) taken in
    let replaced_disks : set old.disks d (state x) ≡ map state (set disks d x) =
    ap (λ l. set l d (state x)) is ∙ sym (map-set state disks d x) in
    subst (λ (l : List DiskState). IsValidSet (record old { disks = l; health = Rebuilding d 0 })) replaced_disks
    (kept_replaced old d (state x) kept taken_old few)

pub replacing : {D : Type 0} (state : D → DiskState) (disks : List D) (d : ℕ) (x : D) (old self : SetState)
    → old.disks ≡ map state disks → old ≡ self
    → record old { disks = map state (set disks d x); health = Rebuilding d 0 } ≡ replaced self d (state x)
replacing state disks d x old self is same =
    let with_disks : List DiskState → SetState = λ l. record old { disks = l; health = Rebuilding d 0 } in
    ap with_disks (map-set state disks d x ∙ ap (λ l. set l d (state x)) (sym is))
    ∙ ap (λ (s : SetState). replaced s d (state x)) same

and_of : (a b c : Bool) → a ≡ true → b ≡ true → c ≡ (a && (b && c))
and_of true true c p q = refl
and_of true false c p q = absurd cc
and_of false b c p q = absurd cc

-- the test of all disks, in terms of their states
pub are_alike_is : {D : Type 0} (state : D → DiskState) (disks : List D) (geometry : Geometry) (extents : ℕ)
    (result : Bool)
    → geometry ≡ (disk_in (map state disks) 0).geometry → extents ≡ (disk_in (map state disks) 0).extents → extents ≢ 0
    → extents ≤ 1024
    → result ≡ list_all (λ disk. has_shape geometry extents (state disk)) disks → result ≡ are_alike (map state disks)
are_alike_is state disks geometry extents result g e some few is =
    let first : DiskState = disk_in (map state disks) 0 in
    let all : Geometry → ℕ → Bool = λ h n. list_all (λ disk. has_shape h n (state disk)) disks in
    let at_least : leb 1 first.extents ≡ true = le-leb 1 first.extents (omega arith) in
    let at_most : leb first.extents 1024 ≡ true = le-leb first.extents 1024 (omega arith) in
    is ∙ ap (λ (h : Geometry). all h extents) g ∙ ap (λ (n : ℕ). all first.geometry n) e
    ∙ sym (list_all-map (has_shape first.geometry first.extents) state disks)
    ∙ and_of (leb 1 first.extents) (leb first.extents 1024)
    (list_all (has_shape first.geometry first.extents) (map state disks)) at_least at_most

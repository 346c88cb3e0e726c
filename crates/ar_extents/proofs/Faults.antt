-- How one fault moves health.
use Rattle.std.proofs.Common.{◌≡◌, ◌≢◌, ◌⊎◌, inl, inr, ℕ, true, false, eqb, refl, arith}
use Rattle.std.proofs.lemmas.Bool.Decides.{eqb_tells, nat_tests}
use Rattle.ar_extents.specs.declared.health.Health.{Health}
use Rattle.ar_extents.specs.declared.health.Health.TheVariants.{Whole, Out, Rebuilding, Broken}
use Rattle.ar_extents.specs.Health.{is_lost, is_out, IsDown, after_fault}

-- the disk of a sound extent isn't out
pub is_out-sound : (h : Health) (d e : ℕ) → is_lost h d e ≡ false → is_out h d ≡ false
is_out-sound Whole d e sound = refl
is_out-sound (Out x) d e sound = sound
is_out-sound (Rebuilding x done) d e sound = refl
is_out-sound Broken d e sound = sound

-- a disk that faulted has no sound extent
pub is_lost-after_fault : (h : Health) (d e : ℕ) → is_lost (after_fault h d) d e ≡ true
is_lost-after_fault Whole d e = grind (arith, nat_tests)
is_lost-after_fault (Out x) d e = elim (eqb_tells d x) [ inl t ↦ rw (t.0, t.0) refl | inr t ↦ rw t.0 refl ]
is_lost-after_fault (Rebuilding x done) d e = elim (eqb_tells d x) [ inl t ↦ rw (t.0, t.0) refl | inr t ↦ rw t.0 refl ]
is_lost-after_fault Broken d e = refl

-- and is out, or the set is broken
pub is_out-after_fault : (h : Health) (d : ℕ) → is_out (after_fault h d) d ≡ true
is_out-after_fault Whole d = grind (arith, nat_tests)
is_out-after_fault (Out x) d = elim (eqb_tells d x) [ inl t ↦ rw (t.0, t.0) refl | inr t ↦ rw t.0 refl ]
is_out-after_fault (Rebuilding x done) d = elim (eqb_tells d x) [ inl t ↦ rw (t.0, t.0) refl | inr t ↦ rw t.0 refl ]
is_out-after_fault Broken d = refl

-- what is sound after a fault was so before
pub sound_before : (h : Health) (d x e : ℕ) → is_lost (after_fault h d) x e ≡ false → is_lost h x e ≡ false
sound_before Whole d x e sound = refl
sound_before (Out y) d x e sound =
    elim (eqb_tells d y) [ inl t ↦ (rw t.0 at sound) | inr t ↦ absurd (let k : true ≡ false = rw t.0 at sound in cc) ]
sound_before (Rebuilding y done) d x e sound =
    elim (eqb_tells d y) [
      | inl t ↦ (let k = rw t.0 at sound in rw k refl)
      | inr t ↦
          absurd (let k : true ≡ false = rw t.0 at sound in cc)
    ]
sound_before Broken d x e sound = absurd (let k : true ≡ false = sound in cc)

-- a disk that isn't out after a fault is another one, and wasn't out before
pub other_in_use : (h : Health) (d x : ℕ) → is_out (after_fault h d) x ≡ false → x ≢ d
other_in_use Whole d x used same = absurd (let k : eqb x d ≡ false = used in grind (arith, nat_tests))
other_in_use (Out y) d x used same =
    elim (eqb_tells d y) [
      | inl t ↦ (let k : eqb x y ≡ false = rw t.0 at used in grind (arith, nat_tests))
      | inr t ↦
          (let k : true ≡ false = rw t.0 at used in cc)
    ]
other_in_use (Rebuilding y done) d x used same =
    elim (eqb_tells d y) [
      | inl t ↦ (let k : eqb x y ≡ false = rw t.0 at used in grind (arith, nat_tests))
      | inr t ↦
          (let k : true ≡ false = rw t.0 at used in cc)
    ]
other_in_use Broken d x used same = let k : true ≡ false = used in cc

pub in_use_before : (h : Health) (d x : ℕ) → is_out (after_fault h d) x ≡ false → is_out h x ≡ false
in_use_before Whole d x used = refl
in_use_before (Out y) d x used =
    elim (eqb_tells d y) [ inl t ↦ (rw t.0 at used) | inr t ↦ absurd (let k : true ≡ false = rw t.0 at used in cc) ]
in_use_before (Rebuilding y done) d x used = refl
in_use_before Broken d x used = used

-- a fault takes out the disk that faulted, or leaves out the one that was
pub out_fault : (h : Health) (d x : ℕ) → after_fault h d ≡ Out x → (h ≡ Out x) ⊎ (d ≡ x)
out_fault Whole d x e = inr cc
out_fault (Out y) d x e =
    elim (eqb_tells d y) [ inl t ↦ inl (rw t.0 at e) | inr t ↦ absurd (let k : Broken ≡ Out x = rw t.0 at e in cc) ]
out_fault (Rebuilding y done) d x e =
    elim (eqb_tells d y) [
      | inl t ↦ inr (let k : Out y ≡ Out x = rw t.0 at e in let same = t.1 in cc)
      | inr t ↦
          absurd (let k : Broken ≡ Out x = rw t.0 at e in cc)
    ]
out_fault Broken d x e = absurd cc

-- after a fault no disk is being rebuilt
pub rebuilding_fault : (h : Health) (d x done : ℕ) → after_fault h d ≡ Rebuilding x done → ⊥
rebuilding_fault Whole d x n e = cc
rebuilding_fault (Out y) d x n e =
    elim (eqb_tells d y) [
      | inl t ↦ (let k : Out y ≡ Rebuilding x n = rw t.0 at e in cc)
      | inr t ↦
          (let k : Broken ≡ Rebuilding x n = rw t.0 at e in cc)
    ]
rebuilding_fault (Rebuilding y done) d x n e =
    elim (eqb_tells d y) [
      | inl t ↦ (let k : Out y ≡ Rebuilding x n = rw t.0 at e in cc)
      | inr t ↦
          (let k : Broken ≡ Rebuilding x n = rw t.0 at e in cc)
    ]
rebuilding_fault Broken d x n e = cc

-- the disk that is down, if any
abbrev pub down_disk : Health → ℕ
down_disk Whole = 0
down_disk (Out x) = x
down_disk (Rebuilding x done) = x
down_disk Broken = 0

-- a fault breaks the set only where another disk was down
pub broken_fault : (h : Health) (d : ℕ) → after_fault h d ≡ Broken
    → (h ≡ Broken) ⊎ ((d ≢ down_disk h) × IsDown h (down_disk h))
broken_fault Whole d e = absurd cc
broken_fault (Out y) d e =
    elim (eqb_tells d y) [ inl t ↦ absurd (let k : Out y ≡ Broken = rw t.0 at e in cc) | inr t ↦ inr (t.1, refl) ]
broken_fault (Rebuilding y done) d e =
    elim (eqb_tells d y) [ inl t ↦ absurd (let k : Out y ≡ Broken = rw t.0 at e in cc) | inr t ↦ inr (t.1, refl) ]
broken_fault Broken d e = inl refl

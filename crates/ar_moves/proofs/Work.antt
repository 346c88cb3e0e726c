-- How the work that is left falls with a block that moves from a group to one that isn't emptier.
use Rattle.std.proofs.Common.{◌≡◌, ◌≢◌, ◌⊎◌, ℕ, ◌<◌, ◌≤◌, ◌+◌, ◌-◌, ◌*◌, if◌then◌else◌, eqb, refl, ap, ◌∙◌, inl, inr}
use Rattle.std.proofs.Common.{arith}
use Rattle.std.proofs.lemmas.Bool.Decides.{eqb_tells}
use Rattle.ar_book.specs.declared.class.Class.{Class}
use Rattle.ar_book.specs.declared.class.Class.TheVariants.{Free, Mirrored, Parity}
use Rattle.ar_moves.specs.Cleaning.{work_in, work_of}

-- the work in a group with blocks
pub work_some : (b v : ℕ) → 0 < b → b + v ≡ 48 → work_in b ≡ b * v
work_some b v some all = elim (eqb_tells b 0) [
  | inl none ↦ absurd (let is = none.1 in omega arith)
  | inr more ↦
      let rest : 48 - b ≡ v = omega arith in
      ap (λ x. if x then 96 else b * (48 - b)) more.0 ∙ ap (λ x. b * x) rest
]

-- and the same whatever the group is used for
pub work_open : (c : Class) (b : ℕ) → c ≢ Free → work_of c b ≡ work_in b
work_open Free b taken_up = absurd (taken_up refl)
work_open Mirrored b taken_up = refl
work_open Parity b taken_up = refl

-- the group that the block leaves has others
several : (a v n m : ℕ) → a + 1 + v ≡ 48 → n + 1 + m ≡ 48 → a + 1 ≤ n
    → a * (v + 1) + (n + 1) * m < (a + 1) * v + n * (m + 1)
several a v n m p q h = omega arith

several_alone : (a v : ℕ) → a + 1 + v ≡ 48 → a * (v + 1) + 47 < (a + 1) * v + 96
several_alone a v p = omega arith

-- it was its last
last_one : (n m : ℕ) → n + 1 + m ≡ 48 → 0 < n → (n + 1) * m < 47 + n * (m + 1)
last_one n m q h = omega arith

-- how many blocks a group has once it lost one
unfoldable pub work_after : ℕ → ℕ
work_after a = if eqb a 0 then 0 else work_in a

pub work_falls : (a n : ℕ) → a + 1 ≤ 48 → n + 1 ≤ 48 → (n ≡ 0) ⊎ (a + 1 ≤ n)
    → work_after a + work_in (n + 1) < work_in (a + 1) + work_in n
unfolding work_after
work_falls a n fits_a fits_n order =
    let v = 47 - a in
    let m = 47 - n in
    let before : work_in (a + 1) ≡ (a + 1) * v = work_some (a + 1) v (omega arith) (omega arith) in
    let after : work_in (n + 1) ≡ (n + 1) * m = work_some (n + 1) m (omega arith) (omega arith) in
    elim (eqb_tells a 0) [
      | inl none ↦
          let nothing : (if eqb a 0 then 0 else work_in a) ≡ 0 = ap (λ x. if x then 0 else work_in a) none.0 in
          let a_is : a ≡ 0 = none.1 in
          let first : work_in (a + 1) ≡ 47 = ap (λ x. work_in (x + 1)) a_is in
          elim order [
            | inl empty ↦
                let other : work_in n ≡ 96 = ap work_in empty in
                let one : work_in (n + 1) ≡ 47 = ap (λ x. work_in (x + 1)) empty in
                omega arith
            | inr full ↦
                let other : work_in n ≡ n * (m + 1) = work_some n (m + 1) (omega arith) (omega arith) in
                let less = last_one n m (omega arith) (omega arith) in
                omega arith
          ]
      | inr some ↦
          let ne : a ≢ 0 = some.1 in
          let left : (if eqb a 0 then 0 else work_in a) ≡ work_in a = ap (λ x. if x then 0 else work_in a) some.0 in
          let rest : work_in a ≡ a * (v + 1) = work_some a (v + 1) (omega arith) (omega arith) in
          elim order [
            | inl empty ↦
                let other : work_in n ≡ 96 = ap work_in empty in
                let one : work_in (n + 1) ≡ 47 = ap (λ x. work_in (x + 1)) empty in
                let less = several_alone a v (omega arith) in
                omega arith
            | inr full ↦
                let other : work_in n ≡ n * (m + 1) = work_some n (m + 1) (omega arith) (omega arith) in
                let less = several a v n m (omega arith) (omega arith) full in
                omega arith
          ]
    ]

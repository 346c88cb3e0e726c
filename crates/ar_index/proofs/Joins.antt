-- The older of two blocks: an associative choice, of which no block is the unit.
use Rattle.std.proofs.Common.{◌≡◌, ℕ, Bool, true, false, cond, List, [], ◌∷◌, ◌++◌, Option, None, Some, true≢false}
use Rattle.std.proofs.Common.{refl, sym, ap, ◌∙◌, arith}
use Rattle.std.proofs.lemmas.Bool.Decides.{nat_tests}
use Rattle.ar_disks.specs.declared.address.Addr.{Addr}
use Rattle.ar_index.specs.declared.choices.Age.{Age}
use Rattle.ar_index.specs.declared.choices.Choices.{Choices}
use Rattle.ar_index.specs.Choices.{is_no_newer, older, oldest}

pub same_choices : (a b : Choices) → a.mirrored ≡ b.mirrored → a.parity ≡ b.parity → a.free ≡ b.free
    → a.oldest ≡ b.oldest → a ≡ b
same_choices a b m p f o = λ i. record { mirrored = m i; parity = p i; free = f i; oldest = o i }

pub same_age : (a b : Age) → a.stamp ≡ b.stamp → a.key ≡ b.key → a ≡ b
same_age a b s k = λ i. record { stamp = s i; key = k i }

module _ (place : Addr → ℕ) where
  -- the order of ages is total
  pub ages_total : (a b : Age) → is_no_newer place a b ≡ false → is_no_newer place b a ≡ true
  ages_total a b h = grind (arith, nat_tests)

  -- and transitive
  pub ages_trans : (a b c : Age) → is_no_newer place a b ≡ true → is_no_newer place b c ≡ true
      → is_no_newer place a c ≡ true
  ages_trans a b c h i = grind (arith, nat_tests)

  pub ages_self : (a : Age) → is_no_newer place a a ≡ true
  ages_self a = grind (arith, nat_tests)

  pub older_none : (x : Option Age) → older place x None ≡ x
  older_none None = refl
  older_none (Some a) = refl

  -- of three, whichever two are compared first
  pick_assoc : (a b c : Age)
      → older place (older place (Some a) (Some b)) (Some c) ≡ older place (Some a) (older place (Some b) (Some c))
  pick_assoc a b c = by (is_no_newer place a b) (is_no_newer place b c) refl refl
    where
      first : (p : Bool) → is_no_newer place a b ≡ p
          → older place (older place (Some a) (Some b)) (Some c) ≡ older place (Some (cond p a b)) (Some c)
      first p e = ap (λ r. older place (Some (cond r a b)) (Some c)) e

      second : (q : Bool) → is_no_newer place b c ≡ q
          → older place (Some a) (older place (Some b) (Some c)) ≡ older place (Some a) (Some (cond q b c))
      second q f = ap (λ r. older place (Some a) (Some (cond r b c))) f

      not_first : is_no_newer place a b ≡ false → is_no_newer place b c ≡ false → is_no_newer place a c ≡ false
      not_first e f = at (is_no_newer place a c) refl
        where
          at : (r : Bool) → is_no_newer place a c ≡ r → is_no_newer place a c ≡ false
          at false g = g
          at true g = let h = ages_total b c f in let i = ages_trans a c b g h in absurd (true≢false (sym i ∙ e))

      by : (p q : Bool) → is_no_newer place a b ≡ p → is_no_newer place b c ≡ q
          → older place (older place (Some a) (Some b)) (Some c) ≡ older place (Some a) (older place (Some b) (Some c))
      by true true e f =
          let g = ages_trans a b c e f in
          first true e ∙ ap (λ r. Some (cond r a c)) g ∙ sym (ap (λ r. Some (cond r a b)) e) ∙ sym (second true f)
      by true false e f = first true e ∙ sym (second false f)
      by false true e f =
          first false e ∙ ap (λ r. Some (cond r b c)) f ∙ sym (ap (λ r. Some (cond r a b)) e) ∙ sym (second true f)
      by false false e f =
          let no : is_no_newer place a c ≡ false = not_first e f in
          first false e ∙ ap (λ r. Some (cond r b c)) f ∙ sym (ap (λ r. Some (cond r a c)) no) ∙ sym (second false f)

  pub older_assoc : (x y z : Option Age) → older place (older place x y) z ≡ older place x (older place y z)
  older_assoc None y z = refl
  older_assoc (Some a) None z = refl
  older_assoc (Some a) (Some b) None = older_none (older place (Some a) (Some b))
  older_assoc (Some a) (Some b) (Some c) = pick_assoc a b c

  -- the oldest of two lists is the older of the oldest of each
  pub oldest_both : (xs ys : List (Option Age))
      → oldest place (xs ++ ys) ≡ older place (oldest place xs) (oldest place ys)
  oldest_both [] ys = refl
  oldest_both (x ∷ xs) ys =
      ap (older place x) (oldest_both xs ys) ∙ sym (older_assoc x (oldest place xs) (oldest place ys))

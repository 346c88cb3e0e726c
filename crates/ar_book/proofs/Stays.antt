-- The oldest of a group where one of its blocks got a stamp: another one stays so that is older than that block is now.
use Rattle.std.proofs.Common.{◌≡◌, ◌≢◌, ℕ, Bool, true, false, cond, Option, None, Some, List, [], ◌∷◌, ◌<◌, refl, sym}
use Rattle.std.proofs.Common.{ap, subst, ◌∙◌, inl, inr, arith}
use Rattle.std.proofs.lemmas.Bool.Decides.{nat_tests}
use Rattle.std.proofs.lemmas.Option.{none-some, same_Some}
use Rattle.ar_disks.specs.declared.address.Addr.{Addr}
use Rattle.ar_disks.specs.declared.address.Key.{Key}
use Rattle.ar_disks.specs.declared.geometry.Geometry.{Geometry}
use Rattle.ar_disks.proofs.Addresses.{key_tells}
use Rattle.ar_index.specs.declared.choices.Age.{Age}
use Rattle.ar_index.specs.declared.choices.Choices.{Choices}
use Rattle.ar_index.specs.Choices.{is_no_newer, older}
use Rattle.ar_index.proofs.Joins.{ages_total, ages_trans}
use Rattle.ar_book.specs.declared.class.Class.{Class}
use Rattle.ar_book.specs.declared.class.Class.TheVariants.{Free, Mirrored, Parity}
use Rattle.ar_book.specs.Tables.{GroupState}
use Rattle.ar_book.specs.Index.{oldest_named, choices_by, choices_in}

-- an age with a greater stamp is newer
pub later_stamp : (place : Addr → ℕ) (a b : Age) → a.stamp < b.stamp → is_no_newer place b a ≡ false
later_stamp place a b h = grind (arith, nat_tests)

module _ (place : Addr → ℕ) (f h : Key → Age) (k : Key) (a : Age) (other : a.key ≢ k) (late : is_no_newer place (h k) a
    ≡ false) (same : (j : Key) → j ≢ k → h j ≡ f j) (named : (j : Key) → (f j).key ≡ j) where
  -- where there is one, it is as old as the block or newer
  abbrev NoOlder : Option Age → Type 0
  NoOlder o = (b : Age) → o ≡ Some b → is_no_newer place a b ≡ true

  one : (b : Age) → is_no_newer place a b ≡ true → NoOlder (Some b)
  one b e c s = subst (λ x. is_no_newer place a x ≡ true) (same_Some b c s) e

  both : (x y : Option Age) → NoOlder (older place x y) → NoOlder x × NoOlder y
  both None y n = (λ b e. absurd (none-some b e), n)
  both (Some b) None n = (n, λ c e. absurd (none-some c e))
  both (Some b) (Some c) n = by (is_no_newer place b c) refl n
    where
      by : (t : Bool) → is_no_newer place b c ≡ t → NoOlder (Some (cond t b c)) → NoOlder (Some b) × NoOlder (Some c)
      by true e m = (m, one c (ages_trans place a b c (m b refl) e))
      by false e m = (one b (ages_trans place a c b (m c refl) (ages_total place b c e)), m)

  either : (x y : Option Age) → NoOlder x → NoOlder y → NoOlder (older place x y)
  either None y m n = n
  either (Some b) None m n = m
  either (Some b) (Some c) m n = by (is_no_newer place b c)
    where
      by : (t : Bool) → NoOlder (Some (cond t b c))
      by true = m
      by false = n

  -- the block that got the stamp is newer, and the others are as they were
  again : (j : Key) → NoOlder (Some (f j)) → NoOlder (Some (h j))
  again j n = elim (key_tells j k) [
    | inl e ↦ one (h j) (ap (λ x. is_no_newer place a (h x)) e ∙ ages_total place (h k) a late)
    | inr ne ↦ subst (λ x. NoOlder (Some x)) (sym (same j ne)) n
  ]

  later : (slots : List (Option Key)) → NoOlder (oldest_named place f slots) → NoOlder (oldest_named place h slots)
  later [] n = n
  later (None ∷ slots) n = later slots n
  later (Some j ∷ slots) n =
      let p = both (Some (f j)) (oldest_named place f slots) n in
      either (Some (h j)) (oldest_named place h slots) (again j p.0) (later slots p.1)

  -- the block that stays stands first, or after
  first : (j : Key) (r : Option Age) → f j ≡ a → NoOlder r → older place (Some (h j)) r ≡ Some a
  first j r e n = grind (arith)

  behind : (j : Key) (r : Option Age) → is_no_newer place (f j) a ≡ false → r ≡ Some a
      → older place (Some (h j)) r ≡ Some a
  behind j r e q = grind (arith, key_tells)

  pub stays : (slots : List (Option Key)) → oldest_named place f slots ≡ Some a → oldest_named place h slots ≡ Some a
  stays [] e = absurd (none-some a e)
  stays (None ∷ slots) e = stays slots e
  stays (Some j ∷ slots) e = by (oldest_named place f slots) refl e (stays slots)
    where
      two : (c : Age) (t : Bool) → oldest_named place f slots ≡ Some c → is_no_newer place (f j) c ≡ t
          → Some (cond t (f j) c) ≡ Some a → (oldest_named place f slots ≡ Some a → oldest_named place h slots ≡ Some a)
          → older place (Some (h j)) (oldest_named place h slots) ≡ Some a
      two c true q g d rest =
          let is : f j ≡ a = same_Some (f j) a d in
          first j (oldest_named place h slots) is
          (later slots (subst NoOlder (sym q) (one c (sym (ap (λ x. is_no_newer place x c) is) ∙ g))))
      two c false q g d rest =
          let is : c ≡ a = same_Some c a d in
          behind j (oldest_named place h slots) (sym (ap (is_no_newer place (f j)) is) ∙ g) (rest (q ∙ d))

      by : (r : Option Age) → oldest_named place f slots ≡ r → older place (Some (f j)) r ≡ Some a
          → (oldest_named place f slots ≡ Some a → oldest_named place h slots ≡ Some a)
          → older place (Some (h j)) (oldest_named place h slots) ≡ Some a
      by None q d rest =
          first j (oldest_named place h slots) (same_Some (f j) a d)
          (later slots (λ b e. absurd (none-some b (sym q ∙ e))))
      by (Some c) q d rest = two c (is_no_newer place (f j) c) q refl d rest

  -- and so the choices of the group stay
  pub stay_chosen : (g : Geometry) (n : ℕ) (x : GroupState) → (choices_in g place f n x).oldest ≡ Some a
      → choices_in g place h n x ≡ choices_in g place f n x
  stay_chosen g n x e = by x.class e
    where
      by : (c : Class) → (choices_by c g place f n x).oldest ≡ Some a
          → choices_by c g place h n x ≡ choices_by c g place f n x
      by Free e = refl
      by Mirrored e = ap with_oldest (stays x.slots e ∙ sym e)
        where
          with_oldest : Option Age → Choices
          with_oldest o = record (choices_by Mirrored g place f n x) { oldest = o }
      by Parity e = refl

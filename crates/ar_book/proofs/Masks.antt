-- The mask of a group's empty slots.
use Rattle.std.proofs.Common.{◌≡◌, ℕ, ◌<◌, ◌≤◌, cond, Option, None, is_some, List, get_or, replicate, sym, ap, ◌∙◌, inl}
use Rattle.std.proofs.Common.{inr, arith}
use Rattle.std.specs.Int.{bit_at}
use Rattle.std.proofs.lemmas.Bool.{cases_lt}
use Rattle.std.proofs.lemmas.Option.{none-some}
use Rattle.std.proofs.lemmas.Nat.Bits.{bit_at_ones, bit_at-zero}
use Rattle.std.proofs.lemmas.List.{length-replicate, get_or-replicate, get_or_past}
use Rattle.ar_disks.specs.declared.address.Key.{Key}
use Rattle.ar_book.specs.Tables.{IsMarked}
use Rattle.ar_book.proofs.CountLemmas.{none_used}

-- the bit of a slot
abbrev bit_of : Option Key → ℕ
bit_of o = cond {A = ℕ} (is_some o) 0 1

-- none of as many empty slots is occupied
blank : (n i : ℕ) → get_or (replicate n (let e : Option Key = None in e)) i None ≡ None
blank n i = grind (arith, cases_lt, get_or-replicate, length-replicate, get_or_past)

pub marked_new : (n : ℕ) → n ≤ 48 → IsMarked (replicate n None) 0 18446744073709551615
marked_new n few = record {
  count = sym (none_used (replicate n None) (λ i k e. absurd (none-some k (sym (blank n i) ∙ e))));
  few = omega (arith, length-replicate n (let e : Option Key = None in e));
  each = λ i h. bit_at_ones 64 i h ∙ sym (ap bit_of (blank n i));
}

module _ (slots : List (Option Key)) (used empty : ℕ) (ok : IsMarked slots used empty) where
  -- a slot past the last is marked
  pub some_marked : 0 < empty
  some_marked =
      let past : get_or slots 48 None ≡ None = get_or_past slots 48 None ok.few in
      let one : bit_at empty 48 ≡ 1 = ok.each 48 (omega arith) ∙ ap bit_of past in
      elim (cases_lt 0 empty) [
        | inl some ↦ some
        | inr none ↦
            let no : empty ≡ 0 = omega arith in
            absurd (omega (arith, one, ap (λ n. bit_at n 48) no ∙ bit_at-zero 48))
      ]

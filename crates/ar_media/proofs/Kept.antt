-- One call more of those that a file in memory keeps.
use Rattle.std.proofs.Common.{◌≡◌, ◌+◌, ◌<◌, ◌≤◌, ℕ, min, max, List, [], ◌∷◌, ◌++◌, length, take, map, reverse}
use Rattle.std.proofs.Common.{get_or, Vec, sym, ◌∙◌, ap, subst, arith, length-take}
use Rattle.std.proofs.lemmas.List.{map-append, reverse-append, take-take, take-append-le, take_more}
use Rattle.std.specs.declared.alloc.Global.{Global}
use Rattle.ar_media.specs.declared.record.Call.{Call}
use Rattle.ar_media.specs.declared.record.Call.TheVariants.{Measured, Read, Wrote, Resized, Synced, Failed}
use Rattle.ar_media.specs.Media.{Cut}
use Rattle.ar_media.specs.Calls.{Recorded, padded, seen_after, seen_of, LeftAfter, LeftNow}
use Rattle.ar_media.specs.CallLaws.{length-padded, take_min}
use Rattle.ar_media.specs.Fates.{LeftBy}
use Rattle.ar_media.specs.Kept.{calls_of}

abbrev pub Entry : Type 0
Entry = Call × Vec ℕ Global

-- the call of an entry, with its bytes
abbrev pub recorded : Entry → Recorded
recorded e = (e.0, e.1.items)

pub calls_push : (kept : List Entry) (e : Entry) → calls_of (kept ++ e ∷ []) ≡ recorded e ∷ calls_of kept
calls_push kept e = ap reverse (map-append recorded kept (e ∷ []))
    ∙ reverse-append (map recorded kept) (recorded e ∷ [])

pub calls_more : (kept : List Entry) (i : ℕ) (e : Entry) → i < length kept → e ≡ get_or kept i e
    → calls_of (take (i + 1) kept) ≡ recorded e ∷ calls_of (take i kept)
calls_more kept i e within is = ap calls_of (take_more kept i e within)
    ∙ ap (λ x. calls_of (take i kept ++ x ∷ [])) (sym is) ∙ calls_push (take i kept) e

left_after : (call : Call) (bytes seen : List ℕ) (earlier : List ℕ → Type 0) (left new : List ℕ) → earlier left
    → LeftBy call bytes seen left new → LeftAfter call bytes seen earlier new
left_after (Measured len) bytes seen earlier left new was by_it = subst earlier (sym by_it) was
left_after (Read at) bytes seen earlier left new was by_it = subst earlier (sym by_it) was
left_after (Wrote at n) bytes seen earlier left new was by_it = (left, was, by_it)
left_after (Resized len ok) bytes seen earlier left new was by_it = (left, was, by_it)
left_after Synced bytes seen earlier left new was by_it = by_it
left_after Failed bytes seen earlier left new was by_it = subst earlier (sym by_it) was

module _ (first : List ℕ) (kept : List Entry) (i : ℕ) (e : Entry) (within : i < length kept)
    (is : e ≡ get_or kept i e) where
  pub seen_more : (seen new : List ℕ) → seen ≡ seen_of first (calls_of (take i kept))
      → new ≡ seen_after e.0 e.1.items seen → new ≡ seen_of first (calls_of (take (i + 1) kept))
  seen_more seen new was by_it = by_it ∙ ap (seen_after e.0 e.1.items) was
      ∙ ap (seen_of first) (sym (calls_more kept i e within is))

  pub leaves_more : (seen left new : List ℕ) → seen ≡ seen_of first (calls_of (take i kept))
      → LeftNow first (calls_of (take i kept)) left → LeftBy e.0 e.1.items seen left new
      → LeftNow first (calls_of (take (i + 1) kept)) new
  leaves_more seen left new was before by_it =
      let by_seen = subst (λ s. LeftBy e.0 e.1.items s left new) was by_it in
      let now : LeftNow first (recorded e ∷ calls_of (take i kept)) new =
      left_after e.0 e.1.items _ (LeftNow first (calls_of (take i kept))) left new before by_seen in
      subst (λ calls. LeftNow first calls new) (sym (calls_more kept i e within is)) now

-- any length between is one that a cut may leave
pub Cut-between : (file : List ℕ) (len m : ℕ) → min len (length file) ≤ m → m ≤ max len (length file)
    → Cut len file (padded file m)
unfolding padded
Cut-between file len m low high =
    let least = min len (length file) in
    let size = length-padded file m in
    record {
      before =
          take-append-le least (take m file) _ (omega (arith, length-take m file)) ∙ take-take least m file low
          ∙ take_min len file;
      no_shorter = omega (arith, size);
      no_longer = omega (arith, size);
    }

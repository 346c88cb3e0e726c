-- How calls on a stream join: their bytes one after the other.
use Rattle.std.proofs.Common.{◌≡◌, ℕ, ◌+◌, ◌-◌, ◌<◌, ◌≤◌, Bool, false, List, [], ◌++◌, refl, sym, ap, subst, ◌∙◌}
use Rattle.std.proofs.Common.{length, take, drop, slice_range, arith, drop_at, length-take-le, take_all, le_refl}
use Rattle.std.proofs.Common.{append-nil, length-drop, length-append, take-append-drop, drop-drop, Some, None}
use Rattle.std.specs.Prelude.{Option}
use Rattle.std.specs.Io.KnownBytes.{Keeps, Consumes, Appends}
use Rattle.std.proofs.KnownBytes.{Consumes-trans, Appends-trans, Consumes-nil, Appends-nil}
use Rattle.std.proofs.lemmas.Slice.{take-put_mid_below}
use borrow.Rule.Slice.PartMut.{put_mid, post_of}
use lib.Seq.{take-add, take-append-le}
use Rattle.std.proofs.Common.{min}
use Rattle.bytes.proofs.Chunks.{drop-append_min}
use Rattle.ar_frames.specs.Stream.{SourceState, SinkState, Reading, Writing, CameAll, CamePart, faults_after}

-- no read reads
pub Reading-none : (a : SourceState) → Reading a a [] false
Reading-none a = record { given = Consumes-nil a.left; faults = refl }

-- no write writes
pub Writing-none : (a : SinkState) → Writing a a [] false
Writing-none a = record { took = Appends-nil a.taken; faults = refl }

-- reads after reads without a fault
pub Reading-trans : (a b c : SourceState) (xs ys : List ℕ) (f : Bool) → Reading a b xs false → Reading b c ys f
    → Reading a c (xs ++ ys) f
Reading-trans a b c xs ys f x y = record {
  given = Consumes-trans a.left b.left c.left xs ys x.given y.given;
  faults = y.faults ∙ ap (λ n. faults_after f n) x.faults;
}

-- writes after writes without a fault
pub Writing-trans : (a b c : SinkState) (xs ys : List ℕ) (f : Bool) → Writing a b xs false → Writing b c ys f
    → Writing a c (xs ++ ys) f
Writing-trans a b c xs ys f x y = record {
  took = Appends-trans a.taken b.taken c.taken xs ys x.took y.took;
  faults = y.faults ∙ ap (λ n. faults_after f n) x.faults;
}

-- the same bytes
pub Reading-same : (a b : SourceState) (xs ys : List ℕ) (f : Bool) → xs ≡ ys → Reading a b xs f → Reading a b ys f
Reading-same a b xs ys f e r = subst (λ (l : List ℕ). Reading a b l f) e r

pub Writing-same : (a b : SinkState) (xs ys : List ℕ) (f : Bool) → xs ≡ ys → Writing a b xs f → Writing a b ys f
Writing-same a b xs ys f e r = subst (λ (l : List ℕ). Writing a b l f) e r

take_split : (a b : ℕ) (old new : List ℕ) → a ≤ b → take a new ≡ take a old
    → take a old ++ slice_range new a b ≡ take b new
take_split a b old new h front =
    let same : a + (b - a) ≡ b = omega arith in
    ap (λ l. l ++ slice_range new a b) (sym front) ∙ sym (take-add a (b - a) new) ∙ ap (λ n. take n new) same

slice_range-put_mid : (a k n : ℕ) (xs ys : List ℕ) → a ≤ length xs → n ≤ length ys
    → slice_range (put_mid a k xs ys) a (a + n) ≡ take n ys
slice_range-put_mid a k n xs ys within fits =
    let same : (a + n) - a ≡ n = omega arith in
    let after = post_of a k xs in
    ap (take ((a + n) - a)) (drop_at (take a xs) (ys ++ after) a (length-take-le a xs within))
    ∙ ap (λ m. take m (ys ++ after)) same ∙ take-append-le n ys after fits

-- the bytes before a part that a read filled in part, and those that it filled
pub take-filled : (at n room : ℕ) (piece part : List ℕ) → at ≤ length piece → n ≤ length part
    → take at piece ++ take n part ≡ take (at + n) (put_mid at room piece part)
take-filled at n room piece part within fits =
    let joined =
    take_split at (at + n) piece (put_mid at room piece part) (omega arith)
    (take-put_mid_below _ _ _ _ _ (le_refl _) within) in
    ap (λ l. take at piece ++ l) (sym (slice_range-put_mid at room n piece part within fits)) ∙ joined

-- a part that was filled leaves the bytes before it
pub take-unfilled : (at room : ℕ) (piece part : List ℕ) → at ≤ length piece
    → take at piece ≡ take at (put_mid at room piece part)
take-unfilled at room piece part within = sym (take-put_mid_below _ _ _ _ _ (le_refl _) within)

-- calls that kept the bytes, and then reads
pub Consumes-after : (a b c : Option (List ℕ)) (xs : List ℕ) → Keeps a b → Consumes b c xs → Consumes a c xs
Consumes-after None b c xs k r = tt
Consumes-after (Some x) None c xs k r = absurd k
Consumes-after (Some x) (Some y) None xs k r = absurd r
Consumes-after (Some x) (Some y) (Some z) xs k r = sym k ∙ r

-- the same for writes
pub Appends-after : (a b c : Option (List ℕ)) (xs : List ℕ) → Keeps a b → Appends b c xs → Appends a c xs
Appends-after None b c xs k r = tt
Appends-after (Some x) None c xs k r = absurd k
Appends-after (Some x) (Some y) None xs k r = absurd r
Appends-after (Some x) (Some y) (Some z) xs k r = r ∙ ap (λ l. l ++ xs) k

-- what keeps the bytes consumes none
pub Consumes-kept_all : (a b : Option (List ℕ)) → Keeps a b → Consumes a b []
Consumes-kept_all None b k = tt
Consumes-kept_all (Some x) None k = absurd k
Consumes-kept_all (Some x) (Some y) k = sym k

-- and appends none
pub Appends-kept_all : (a b : Option (List ℕ)) → Keeps a b → Appends a b []
Appends-kept_all None b k = tt
Appends-kept_all (Some x) None k = absurd k
Appends-kept_all (Some x) (Some y) k = k ∙ sym (append-nil x)

-- the bytes before a part, and those that were taken of it
pub take-sent : (at n : ℕ) (xs : List ℕ) → at ≤ length xs
    → take at xs ++ take n (take (length xs - at) (drop at xs)) ≡ take (at + n) xs
take-sent at n xs within =
    let rest = take_all (length xs - at) (drop at xs) (omega (arith, length-drop at xs)) in
    ap (λ l. take at xs ++ take n l) rest ∙ sym (take-add at n xs)

-- what is left of a part
rest_of : (at : ℕ) (xs : List ℕ) → take (length xs - at) (drop at xs) ≡ drop at xs
rest_of at xs = take_all (length xs - at) (drop at xs) (omega (arith, length-drop at xs))

-- what is left of three parts, one after the other
pub rest_of_parts : (at front middle : ℕ) (xs ys zs : List ℕ) → front ≡ min at (length xs)
    → middle ≡ min (at - front) (length ys)
    → take (length xs - front) (drop front xs) ++ (take (length ys - middle) (drop middle ys)
    ++ take (length zs - (at - front - middle)) (drop (at - front - middle) zs))
    ≡ drop at (xs ++ (ys ++ zs))
rest_of_parts at front middle xs ys zs first second =
    ap (λ l. l ++ (take (length ys - middle) (drop middle ys)
    ++ take (length zs - (at - front - middle)) (drop (at - front - middle) zs))) (rest_of front xs)
    ∙ ap (λ l. drop front xs ++ (l ++ take (length zs - (at - front - middle)) (drop (at - front - middle) zs)))
    (rest_of middle ys)
    ∙ ap (λ l. drop front xs ++ (drop middle ys ++ l)) (rest_of (at - front - middle) zs)
    ∙ ap (λ n. drop front xs ++ (drop n ys ++ drop (at - front - n) zs)) second
    ∙ ap (λ l. drop front xs ++ l) (sym (drop-append_min ys zs (at - front)))
    ∙ ap (λ n. drop n xs ++ drop (at - n) (ys ++ zs)) first
    ∙ sym (drop-append_min xs (ys ++ zs) at)

-- the bytes before what is left of others, and those that were taken of it
pub take-sent_rest : (at n : ℕ) (xs rest : List ℕ) → rest ≡ drop at xs
    → take at xs ++ take n rest ≡ take (at + n) xs
take-sent_rest at n xs rest is = ap (λ l. take at xs ++ take n l) is ∙ sym (take-add at n xs)

-- some bytes came, and then these
pub came_more : (a b c : SourceState) (xs : List ℕ) (count wanted : ℕ) → CameAll a b count → Reading b c xs false
    → count + length xs ≡ wanted → CameAll a c wanted
came_more a b c xs count wanted came more e = record {
  bytes = came.bytes ++ xs;
  len = omega (arith, length-append came.bytes xs, came.len, e);
  read = Reading-trans a b c came.bytes xs false came.read more;
}

-- some bytes came, and then a part of what was wanted
pub came_part : (a b c : SourceState) (xs : List ℕ) (count wanted : ℕ) (f : Bool) → CameAll a b count → Reading b c xs f
    → count + length xs < wanted → CamePart a c wanted f
came_part a b c xs count wanted f came more e = record {
  bytes = came.bytes ++ xs;
  short = omega (arith, length-append came.bytes xs, came.len, e);
  read = Reading-trans a b c came.bytes xs f came.read more;
}

-- a read from memory gives the front of what is left
pub mem_reads : (at n : ℕ) (items copied rest : List ℕ) → copied ≡ take n (drop at items) → at + n ≤ length items
    → drop at items ≡ take n (copied ++ rest) ++ drop (at + n) items
mem_reads at n items copied rest e within =
    let len : length (take n (drop at items)) ≡ n =
    length-take-le n (drop at items) (omega (arith, length-drop at items)) in
    let short : n ≤ length copied = omega (arith, ap length e, len) in
    let exact : length copied ≤ n = omega (arith, ap length e, len) in
    let front : take n (copied ++ rest) ≡ take n (drop at items) =
    take-append-le n copied rest short ∙ take_all n copied exact ∙ e in
    sym (take-append-drop n (drop at items)) ∙ ap (λ l. l ++ drop n (drop at items)) (sym front)
    ∙ ap (λ l. take n (copied ++ rest) ++ l) (drop-drop n at items)

-- all of a piece and some of the next
pub take-append_more : (xs ys : List ℕ) (n : ℕ) → take (length xs + n) (xs ++ ys) ≡ xs ++ take n ys
take-append_more xs ys n =
    take-add (length xs) n (xs ++ ys)
    ∙ ap (λ l. l ++ take n (drop (length xs) (xs ++ ys))) (take-append-le (length xs) xs ys (le_refl (length xs))
    ∙ take_all (length xs) xs (le_refl (length xs)))
    ∙ ap (λ l. xs ++ take n l) (drop_at xs ys (length xs) refl)

-- a stream that is as it was
pub Reading-unmoved : (a b : SourceState) → b ≡ a → Reading a b [] false
Reading-unmoved a b e = subst (λ (s : SourceState). Reading a s [] false) (sym e) (Reading-none a)

-- The longest runs of equal bytes, found one after another.
use Rattle.std.proofs.Common.{◌≡◌, ◌≢◌, ◌∙◌, ◌⊎◌, inl, inr, ℕ, zero, suc, ◌+◌, ◌<◌, ◌≤◌, Bool, true, false, cond, eqb}
use Rattle.std.proofs.Common.{List, [], ◌∷◌, ◌++◌, Option, length, get_or, take, drop, ◌-◌, map, append_assoc}
use Rattle.std.proofs.Common.{append-nil, refl, sym, ap, subst, arith, length-append, length-drop}
use Rattle.std.proofs.lemmas.Bool.{eq-eqb, ne_eqb}
use Rattle.std.proofs.lemmas.List.{drop_all, length-map, map-append, take_all}
use Rattle.std.specs.Io.KnownBytes.{Appends}
use Rattle.ar_answers.specs.Texts.{gap, onto_runs, run_text, runs_of, words}
use Rattle.ar_answers.proofs.Appending.{appends_as, appends_none, appends_then, words-at}

-- a list that begins with a run of this byte
pub record BeginsWith (byte : ℕ) (runs : List (ℕ × ℕ)) : Type 0 where
  pub first : ℕ × ℕ
  pub rest : List (ℕ × ℕ)
  pub is : runs ≡ first ∷ rest
  pub same : first.1 ≡ byte

by_test : (b : Bool) (byte : ℕ) (run : ℕ × ℕ) (runs : List (ℕ × ℕ))
    → BeginsWith byte (cond b ((suc run.0, byte) ∷ runs) ((1, byte) ∷ run ∷ runs))
by_test true byte run runs = record { first = (suc run.0, byte); rest = runs; is = refl; same = refl }
by_test false byte run runs = record { first = (1, byte); rest = run ∷ runs; is = refl; same = refl }

pub onto_runs_some : (byte : ℕ) (runs : List (ℕ × ℕ)) → BeginsWith byte (onto_runs byte runs)
onto_runs_some byte [] = record { first = (1, byte); rest = []; is = refl; same = refl }
onto_runs_some byte (run ∷ runs) = by_test (eqb byte run.1) byte run runs

-- a byte before a run of other bytes, and before one of its own
onto_other : (byte : ℕ) (run : ℕ × ℕ) (runs : List (ℕ × ℕ)) → byte ≢ run.1
    → onto_runs byte (run ∷ runs) ≡ (1, byte) ∷ run ∷ runs
onto_other byte run runs other =
    ap (λ (b : Bool). cond b ((suc run.0, byte) ∷ runs) ((1, byte) ∷ run ∷ runs)) (ne_eqb byte run.1 other)

onto_same : (byte count : ℕ) (runs : List (ℕ × ℕ)) → onto_runs byte ((count, byte) ∷ runs) ≡ (suc count, byte) ∷ runs
onto_same byte count runs =
    ap (λ (b : Bool). cond b ((suc count, byte) ∷ runs) ((1, byte) ∷ (count, byte) ∷ runs)) (eq-eqb byte byte refl)

-- a byte, and then none or another
onto_single : (byte : ℕ) (bytes : List ℕ) → (0 < length bytes → get_or bytes 0 0 ≢ byte)
    → onto_runs byte (runs_of bytes) ≡ (1, byte) ∷ runs_of bytes
onto_single byte [] other = refl
onto_single byte (next ∷ bytes) other =
    let begins = onto_runs_some next (runs_of bytes) in
    let P : List (ℕ × ℕ) → Type 0 = λ rs. onto_runs byte rs ≡ (1, byte) ∷ rs in
    subst P (sym begins.is)
    (onto_other byte begins.first begins.rest (λ same. other (omega arith) (sym (same ∙ begins.same))))

-- the run at the front is as long as all its bytes are equal, and the next is another
pub runs-front : (bytes : List ℕ) (byte count : ℕ) → 0 < count → count ≤ length bytes
    → ((k : ℕ) → k < count → get_or bytes k 0 ≡ byte)
    → (count < length bytes → get_or bytes count 0 ≢ byte) → runs_of bytes ≡ (count, byte) ∷ runs_of (drop count bytes)
runs-front [] byte count some few equal longest = absurd (omega arith)
runs-front (first ∷ bytes) byte zero some few equal longest = absurd (omega arith)
runs-front (first ∷ bytes) byte (suc zero) some few equal longest =
    let is : first ≡ byte = equal 0 (omega arith) in
    ap (λ (b : ℕ). onto_runs b (runs_of bytes)) is ∙ onto_single byte bytes (λ more. longest (omega arith))
runs-front (first ∷ bytes) byte (suc (suc count)) some few equal longest =
    let is : first ≡ byte = equal 0 (omega arith) in
    let rest : runs_of bytes ≡ (suc count, byte) ∷ runs_of (drop (suc count) bytes) =
    runs-front bytes byte (suc count) (omega arith) (omega arith) (λ k within. equal (suc k) (omega arith))
    (λ more. longest (omega arith)) in
    ap (λ (b : ℕ). onto_runs b (runs_of bytes)) is ∙ ap (onto_runs byte) rest
    ∙ onto_same byte (suc count) (runs_of (drop (suc count) bytes))

-- bytes that are all equal are one run
pub one_run : (bytes : List ℕ) (count : ℕ) → 0 < count → count ≡ length bytes
    → ((k : ℕ) → k < count → get_or bytes k 0 ≡ get_or bytes 0 0)
    → runs_of bytes ≡ (length bytes, get_or bytes 0 0) ∷ []
one_run bytes count some whole equal =
    let byte = get_or bytes 0 0 in
    runs-front bytes byte count some (omega (arith, whole)) equal (λ more. absurd (omega (arith, whole, more)))
    ∙ ap (λ (xs : List ℕ). (count, byte) ∷ runs_of xs) (drop_all count bytes (omega (arith, whole)))
    ∙ ap (λ (n : ℕ). (n, byte) ∷ []) whole

-- the first `place` runs of the bytes are written, and the others are those of the rest
pub record Written (bytes rest : List ℕ) (place : ℕ) (old new : Option (List ℕ)) : Type 0 where
  pub done : List (ℕ × ℕ)
  pub count : length done ≡ place
  pub split : done ++ runs_of rest ≡ runs_of bytes
  pub adds : Appends old new (words (map run_text done))
  pub left : place + length rest ≤ length bytes

pub written_none : (bytes : List ℕ) (old : Option (List ℕ)) → Written bytes bytes 0 old old
written_none bytes old = record { done = []; count = refl; split = refl; adds = appends_none old; left = omega arith }

-- one run more
pub written_more : (bytes rest next : List ℕ) (place count : ℕ) (old mid new : Option (List ℕ))
    → Written bytes rest place old mid
    → 0 < count → count ≤ length rest → ((k : ℕ) → k < count → get_or rest k 0 ≡ get_or rest 0 0)
    → (count < length rest → get_or rest count 0 ≢ get_or rest 0 0)
    → next ≡ drop count rest → Appends mid new (gap place ++ run_text (count, get_or rest 0 0))
    → Written bytes next (place + 1) old new
written_more bytes rest next place count old mid new before some few equal longest is adds =
    let run : ℕ × ℕ = (count, get_or rest 0 0) in
    let front : runs_of rest ≡ run ∷ runs_of next =
    runs-front rest (get_or rest 0 0) count some few equal longest ∙ ap (λ (xs : List ℕ). run ∷ runs_of xs) (sym is) in
    let all : (before.done ++ run ∷ []) ++ runs_of next ≡ runs_of bytes =
    append_assoc before.done (run ∷ []) (runs_of next) ∙ ap (λ (rs : List (ℕ × ℕ)). before.done ++ rs) (sym front)
    ∙ before.split in
    let number : length (before.done ++ run ∷ []) ≡ place + 1 = let count =
    before.count in omega (arith, length-append before.done (run ∷ [])) in
    let so_far = words (map run_text before.done) in
    let more = gap place ++ run_text run in
    let text : so_far ++ more ≡ words (map run_text (before.done ++ run ∷ [])) =
    words-at (map run_text before.done) (run_text run) place (length-map before.done run_text ∙ before.count)
    ∙ ap words (sym (map-append run_text before.done (run ∷ []))) in
    let shorter : place + 1 + length next ≤ length bytes = let left =
    before.left in omega (arith, length-drop count rest, ap length is) in
    record {
      done = before.done ++ run ∷ [];
      count = number;
      split = all;
      adds = appends_as old new (so_far ++ more) (words (map run_text (before.done ++ run ∷ []))) text
          (appends_then old mid new so_far more before.adds adds);
      left = shorter;
    }

-- the bytes after a run
pub behind : (rest : List ℕ) (count : ℕ) → take (length rest - count) (drop count rest) ≡ drop count rest
behind rest count = take_all (length rest - count) (drop count rest) (omega (arith, length-drop count rest))

-- all runs
written_done : (bytes rest : List ℕ) (place : ℕ) (old new : Option (List ℕ)) → Written bytes rest place old new
    → rest ≡ [] → Appends old new (words (map run_text (runs_of bytes)))
written_done bytes rest place old new written none =
    let all : written.done ≡ runs_of bytes =
    sym (append-nil written.done) ∙ ap (λ (xs : List ℕ). written.done ++ runs_of xs) (sym none) ∙ written.split in
    appends_as old new (words (map run_text written.done)) (words (map run_text (runs_of bytes)))
    (ap (λ (rs : List (ℕ × ℕ)). words (map run_text rs)) all) written.adds

-- a list without elements
none_of : (xs : List ℕ) → length xs ≤ 0 → xs ≡ []
none_of [] h = refl
none_of (x ∷ xs) h = absurd (omega arith)

pub written_all : (bytes rest : List ℕ) (place : ℕ) (old new : Option (List ℕ)) → Written bytes rest place old new
    → (length rest ≤ 0) ⊎ (length bytes ≤ place)
    → Appends old new (words (map run_text (runs_of bytes)))
written_all bytes rest place old new written ended =
    let left = written.left in
    let few : length rest ≤ 0 = elim ended [ inl none ↦ none | inr full ↦ omega (arith, left, full) ] in
    written_done bytes rest place old new written (none_of rest few)

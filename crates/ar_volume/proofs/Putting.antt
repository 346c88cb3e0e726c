-- Blocks that are put, and forced to the disks.
use Rattle.std.proofs.Common.{◌≡◌, ◌⊎◌, true, false, ℕ, ◌==◌, ◌&&◌, nat_le, ◌+◌, ◌*◌, ◌-◌, ◌/◌, ◌%◌, ◌<◌, ◌≤◌, List, []}
use Rattle.std.proofs.Common.{◌∷◌, ◌++◌, drop, length, Option, None, Some, IsSome, true≢false, min, refl, sym, ap}
use Rattle.std.proofs.Common.{subst, ◌∙◌, inl, inr, arith}
use Rattle.std.proofs.lemmas.Bool.{cases_eq, cases_lt, ne_eqb}
use Rattle.std.proofs.lemmas.Bool.Decides.{nat_tests}
use Rattle.std.proofs.lemmas.List.{take-append-drop}
use Rattle.std.proofs.lemmas.List.FromFn.{map-range_with_len_more, take-map-range_with_len}
use Rattle.ar_disks.specs.declared.address.Addr.{Addr}
use Rattle.ar_disks.specs.declared.address.Key.{Key}
use Rattle.ar_disks.specs.declared.geometry.Geometry.{Geometry}
use Rattle.ar_disks.specs.declared.geometry.Geometry.TheVariants.{Paper, Small}
use Rattle.ar_disks.specs.Geometry.{sectors_of}
use Rattle.ar_store.specs.Store.{StoreState}
use Rattle.ar_store.specs.Slots.{stands}
use Rattle.ar_disks.specs.declared.completion.Completion.{Completion}
use Rattle.ar_disks.specs.declared.completion.Completion.TheVariants as answers
use Rattle.ar_cache.specs.Backing.{InTurn, StopsInTurn}
use Rattle.ar_cache.specs.Cache.{CacheState, Sees, TakesIn, cached, pushed_out, with_entries, without_key}
use Rattle.ar_cache.proofs.Turns.{in_turn_one, in_turn_seen, in_turn_then, stops_among, stops_seen, stops_then}
use Rattle.ar_volume.specs.Following.{PutsStored, BreaksStored}
use Rattle.ar_volume.specs.Image.{ArrayState, is_broken, seen_at}
use Rattle.ar_volume.specs.Sectors.{key_of, keys_from, keys_in}
use Rattle.ar_volume.specs.Storing.{BreaksBlock, BreaksForced, PutsBlock, destaged, is_whole}
use Rattle.ar_volume.proofs.Seeing.{seen_by}

-- a put of the cache over the store
pub put_stored : {S : Type 0} (store : S → StoreState) (b n : S) (before after : CacheState) (key : Key)
    (block : List ℕ)
    → Sees before (stands (store b)) after (stands (store n)) key block
    → (IsSome (cached before key) → after ≡ with_entries before ((key, block) ∷ without_key before.entries key))
    → (cached before key ≡ None → TakesIn before after key block)
    → length after.entries ≤ after.capacity
    → InTurn (λ (o : S) (k : Key) (m : S). PutsStored (store o) k (store m)) (destaged before key after) b n
    → PutsBlock (record { store = store b; cache = before }) key (record { store = store n; cache = after })
put_stored store b n before after key block sees present absent fits puts =
    let new : ArrayState = record { store = store n; cache = after } in
    let is : block ≡ seen_at new key = sym (seen_by new key ∙ sees.put) in
    record {
      present = λ some. subst (λ (x : List ℕ). after ≡ with_entries before ((key, x) ∷ without_key before.entries key))
          is (present some);
      absent = λ none. subst (λ (x : List ℕ). TakesIn before after key x) is (absent none);
      fits = fits;
      stored = in_turn_seen store (λ o k m. PutsStored (store o) k (store m)) PutsStored (λ o m k h. h)
          (destaged before key after) b n puts;
      kept = λ none.
          let same = subst (λ ks. InTurn (λ o k m. PutsStored (store o) k (store m)) ks b n) none puts in
          ap store same;
    }

-- a put that finds the array broken
pub breaks_lost : (s : ArrayState) (key : Key) → is_broken s ≡ true → BreaksBlock s key s
breaks_lost s key is = record {
  cache = refl;
  lost = λ _. refl;
  absent = λ sound. absurd (true≢false (sym is ∙ sound));
  stopped = λ sound. absurd (true≢false (sym is ∙ sound));
}

-- what isn't done wasn't cached
not_cached : (o : Option (List ℕ)) (answer : Completion) → answer ≡ answers.Broken → (IsSome o → answer ≡ answers.Done)
    → o ≡ None
not_cached None answer lost present = refl
not_cached (Some block) answer lost present = (let done = sym lost ∙ present refl in absurd (cc))

-- and what isn't done was
is_cached : (o : Option (List ℕ)) (answer : Completion) → answer ≡ answers.Broken → (o ≡ None → answer ≡ answers.Done)
    → IsSome o
is_cached None answer lost absent = (let done = sym lost ∙ absent refl in absurd (cc))
is_cached (Some block) answer lost absent = refl

-- a put of the cache over the store that breaks it
pub breaks_block : {S : Type 0} (store : S → StoreState) (b n : S) (before after : CacheState) (key : Key)
    (answer : Completion) → answer ≡ answers.Broken
    → is_broken (record { store = store b; cache = before }) ≡ false → after ≡ before
    → (IsSome (cached before key) → answer ≡ answers.Done)
    → StopsInTurn (λ (o : S) (k : Key) (m : S). PutsStored (store o) k (store m))
    (λ (o : S) (k : Key) (m : S). BreaksStored (store o) k (store m)) (pushed_out before key ++ key ∷ []) b n
    → BreaksBlock (record { store = store b; cache = before }) key (record { store = store n; cache = after })
breaks_block store b n before after key answer lost sound same present stops = record {
  cache = same;
  lost = λ is. absurd (true≢false (sym is ∙ sound));
  absent = λ _. not_cached (cached before key) answer lost present;
  stopped = λ _.
      stops_seen store (λ o k m. PutsStored (store o) k (store m)) (λ o k m. BreaksStored (store o) k (store m))
      PutsStored BreaksStored (λ o m k h. h) (λ o m k h. h)
      (pushed_out before key ++ key ∷ []) b n stops;
}

-- one forced block that breaks it
pub breaks_forced : (b n : StoreState) (before after : CacheState) (key : Key) (answer : Completion)
    → answer ≡ answers.Broken
    → after ≡ before → (cached before key ≡ None → answer ≡ answers.Done) → BreaksStored b key n
    → BreaksForced (record { store = b; cache = before }) key (record { store = n; cache = after })
breaks_forced b n before after key answer lost same absent put =
    record { cache = same; present = is_cached (cached before key) answer lost absent; put = put }

-- a range of sectors that isn't empty lies in some blocks
pub keys_in-some : (g : Geometry) (addr : Addr) (lba n : ℕ) → 0 < n
    → keys_in g addr lba n ≡ keys_from addr (lba / sectors_of g) ((lba + n - 1) / sectors_of g + 1 - lba / sectors_of g)
keys_in-some g addr lba n some =
    let no : (n == 0) ≡ false = ne_eqb n 0 (λ none. omega (arith, none, some)) in
    rw no refl

-- the part of a range that lies in one block: its first sector's block is its last's
last-of-part : (g : Geometry) (at part : ℕ) → 0 < part → at % sectors_of g + part ≤ sectors_of g
    → (at + part - 1) / sectors_of g ≡ at / sectors_of g
last-of-part Paper at part some within = omega arith
last-of-part Small at part some within = omega arith

-- before the first sector of a block lies the block before
block-before : (g : Geometry) (at : ℕ) → 0 < at → at % sectors_of g ≡ 0
    → (at - 1) / sectors_of g + 1 ≡ at / sectors_of g
block-before Paper at some edge = omega arith
block-before Small at some edge = omega arith

-- a block follows those before it
block-order : (g : Geometry) (lba at : ℕ) → lba ≤ at → lba / sectors_of g ≤ at / sectors_of g
block-order Paper lba at from = omega arith
block-order Small lba at from = omega arith

-- the first part of a range
keys_in-first : (g : Geometry) (addr : Addr) (lba at part : ℕ) → at ≡ lba → 0 < part
    → at % sectors_of g + part ≤ sectors_of g
    → keys_in g addr lba (at + part - lba) ≡ keys_in g addr lba (at - lba) ++ key_of addr (at / sectors_of g) ∷ []
keys_in-first g addr lba at part same some within =
    let this : ℕ = at / sectors_of g in
    let first : lba / sectors_of g ≡ this = ap (λ n. n / sectors_of g) (sym same) in
    let end : lba + (at + part - lba) - 1 ≡ at + part - 1 = omega (arith, same) in
    let one : this + 1 - lba / sectors_of g ≡ 1 = omega (arith, first) in
    let none : at - lba ≡ 0 = omega (arith, same) in
    keys_in-some g addr lba (at + part - lba) (omega (arith, same, some))
    ∙ ap (λ n. keys_from addr (lba / sectors_of g) (n / sectors_of g + 1 - lba / sectors_of g)) end
    ∙ ap (λ b. keys_from addr (lba / sectors_of g) (b + 1 - lba / sectors_of g)) (last-of-part g at part some within)
    ∙ ap (keys_from addr (lba / sectors_of g)) one
    ∙ ap (λ b. key_of addr b ∷ []) first
    ∙ ap (λ n. keys_in g addr lba n ++ key_of addr this ∷ []) (sym none)

-- a later part of a range, which begins with a block
keys_in-later : (g : Geometry) (addr : Addr) (lba at part : ℕ) → lba < at → at % sectors_of g ≡ 0 → 0 < part
    → at % sectors_of g + part ≤ sectors_of g
    → keys_in g addr lba (at + part - lba) ≡ keys_in g addr lba (at - lba) ++ key_of addr (at / sectors_of g) ∷ []
keys_in-later g addr lba at part from whole some within =
    let first : ℕ = lba / sectors_of g in
    let this : ℕ = at / sectors_of g in
    let end : lba + (at + part - lba) - 1 ≡ at + part - 1 = omega (arith, from) in
    let before : (at - 1) / sectors_of g + 1 ≡ this = block-before g at (omega (arith, from)) whole in
    let ordered : first ≤ this = block-order g lba at (omega (arith, from)) in
    let more : this + 1 - first ≡ this - first + 1 = omega (arith, ordered) in
    let here : first + (this - first) ≡ this = omega (arith, ordered) in
    let so_far : keys_in g addr lba (at - lba) ≡ keys_from addr first (this - first) =
    keys_in-some g addr lba (at - lba) (omega (arith, from))
    ∙ (let last : lba + (at - lba) - 1 ≡ at - 1 = omega (arith, from) in
    ap (λ n. keys_from addr first (n / sectors_of g + 1 - first)) last)
    ∙ ap (λ b. keys_from addr first (b - first)) before in
    keys_in-some g addr lba (at + part - lba) (omega (arith, from, some))
    ∙ ap (λ n. keys_from addr first (n / sectors_of g + 1 - first)) end
    ∙ ap (λ b. keys_from addr first (b + 1 - first)) (last-of-part g at part some within)
    ∙ ap (keys_from addr first) more
    ∙ map-range_with_len_more (key_of addr) first (this - first) this here
    ∙ ap (λ l. l ++ key_of addr this ∷ []) (sym so_far)

-- one more part of a range, whose parts so far end with a block
pub keys_in-more : (g : Geometry) (addr : Addr) (lba at part : ℕ) → lba ≤ at → 0 < part
    → at % sectors_of g + part ≤ sectors_of g → (at ≡ lba) ⊎ (at % sectors_of g ≡ 0)
    → keys_in g addr lba (at + part - lba) ≡ keys_in g addr lba (at - lba) ++ key_of addr (at / sectors_of g) ∷ []
keys_in-more g addr lba at part from some within edge =
    elim (cases_lt lba at) [
      | inl later ↦
          elim edge [
            | inl same ↦ keys_in-first g addr lba at part same some within
            | inr whole ↦ keys_in-later g addr lba at part later whole some within
          ]
      | inr not ↦ keys_in-first g addr lba at part (omega (arith, from, not)) some within
    ]

-- one more block
pub keys_from-more : (addr : Addr) (first rb : ℕ) → first ≤ rb
    → keys_from addr first (rb + 1 - first) ≡ keys_from addr first (rb - first) ++ key_of addr rb ∷ []
keys_from-more addr first rb ordered =
    let more : rb + 1 - first ≡ rb - first + 1 = omega (arith, ordered) in
    let here : first + (rb - first) ≡ rb = omega (arith, ordered) in
    ap (keys_from addr first) more ∙ map-range_with_len_more (key_of addr) first (rb - first) rb here

block-ended : (g : Geometry) (at part : ℕ) → part ≡ sectors_of g - at % sectors_of g → (at + part) % sectors_of g ≡ 0
block-ended Paper at part is = omega arith
block-ended Small at part is = omega arith

-- where a part of a range ends: with its block, or with the range
pub part-edge : (g : Geometry) (at left part : ℕ) → part ≡ min (sectors_of g - at % sectors_of g) left
    → ((at + part) % sectors_of g ≡ 0) ⊎ (part ≡ left)
part-edge g at left part is =
    elim (cases_lt (sectors_of g - at % sectors_of g) left) [
      | inl block ↦ inl (block-ended g at part (omega (arith, is, block)))
      | inr rest ↦ inr (omega (arith, is, rest))
    ]

-- one step more, for the block of the next part of a range
pub turn-more : {S : Type 0} (step : S → Key → S → Type 0) (g : Geometry) (addr : Addr) (lba at part : ℕ) (a b c : S)
    → lba ≤ at → 0 < part → at % sectors_of g + part ≤ sectors_of g → (at ≡ lba) ⊎ (at % sectors_of g ≡ 0)
    → InTurn step (keys_in g addr lba (at - lba)) a b → step b (key_of addr (at / sectors_of g)) c
    → InTurn step (keys_in g addr lba (at + part - lba)) a c
turn-more step g addr lba at part a b c from some within edge before next =
    subst (λ ks. InTurn step ks a c) (sym (keys_in-more g addr lba at part from some within edge))
    (in_turn_then step (keys_in g addr lba (at - lba)) (key_of addr (at / sectors_of g) ∷ []) a b c before
    (in_turn_one step (key_of addr (at / sectors_of g)) b c next))

-- the first of some blocks, and the others
keys_from-split : (addr : Addr) (first n m : ℕ) → n ≤ m
    → keys_from addr first m ≡ keys_from addr first n ++ drop n (keys_from addr first m)
keys_from-split addr first n m within =
    sym (take-append-drop n (keys_from addr first m))
    ∙ ap (λ l. l ++ drop n (keys_from addr first m)) (take-map-range_with_len (key_of addr) first m n within)

-- steps in turn that stop at one of some keys
stops_within : {S : Type 0} (step stop : S → Key → S → Type 0) (ks rest all : List Key) (k : Key) (a b c : S)
    → all ≡ (ks ++ k ∷ []) ++ rest
    → InTurn step ks a b → stop b k c → StopsInTurn step stop all a c
stops_within step stop ks rest all k a b c is before end =
    subst (λ l. StopsInTurn step stop l a c) (sym is)
    (stops_among step stop (ks ++ k ∷ []) rest a c (stops_then step stop ks k [] a b c before end))

-- at one of a unit's blocks
pub blocks-stop : {S : Type 0} (step stop : S → Key → S → Type 0) (addr : Addr) (first rb last : ℕ) (a b c : S)
    → first ≤ rb → rb ≤ last
    → InTurn step (keys_from addr first (rb - first)) a b → stop b (key_of addr rb) c
    → StopsInTurn step stop (keys_from addr first (last + 1 - first)) a c
blocks-stop step stop addr first rb last a b c from until before end =
    let all : ℕ = last + 1 - first in
    let some : rb + 1 - first ≤ all = omega (arith, from, until) in
    let rest : List Key = drop (rb + 1 - first) (keys_from addr first all) in
    stops_within step stop (keys_from addr first (rb - first)) rest (keys_from addr first all) (key_of addr rb) a b c
    (keys_from-split addr first (rb + 1 - first) all some ∙ ap (λ l. l ++ rest) (keys_from-more addr first rb from))
    before end

-- the blocks of the first sectors of a range, and the others
keys_in-split : (g : Geometry) (addr : Addr) (lba n m : ℕ) → 0 < n → n ≤ m
    → keys_in g addr lba m
    ≡ keys_in g addr lba n ++ drop ((lba + n - 1) / sectors_of g + 1 - lba / sectors_of g) (keys_in g addr lba m)
keys_in-split g addr lba n m some within =
    let first : ℕ = lba / sectors_of g in
    let few : ℕ = (lba + n - 1) / sectors_of g + 1 - first in
    let many : ℕ = (lba + m - 1) / sectors_of g + 1 - first in
    let ordered : (lba + n - 1) / sectors_of g ≤ (lba + m - 1) / sectors_of g =
    block-order g (lba + n - 1) (lba + m - 1) (omega (arith, within)) in
    let all : keys_in g addr lba m ≡ keys_from addr first many =
    keys_in-some g addr lba m (omega (arith, some, within)) in
    all
    ∙ keys_from-split addr first few many (omega (arith, ordered))
    ∙ ap (λ l. l ++ drop few (keys_from addr first many)) (sym (keys_in-some g addr lba n some))
    ∙ ap (λ l. keys_in g addr lba n ++ drop few l) (sym all)

-- it stopped at the block of the next part of a range
pub turn-stops : {S : Type 0} (step stop : S → Key → S
    → Type 0) (g : Geometry) (addr : Addr) (lba count at part : ℕ) (a b c : S)
    → lba ≤ at → 0 < part → at + part ≤ lba + count → at % sectors_of g + part ≤ sectors_of g
    → (at ≡ lba) ⊎ (at % sectors_of g ≡ 0)
    → InTurn step (keys_in g addr lba (at - lba)) a b → stop b (key_of addr (at / sectors_of g)) c
    → StopsInTurn step stop (keys_in g addr lba count) a c
turn-stops step stop g addr lba count at part a b c from some until within edge before end =
    let n : ℕ = at + part - lba in
    let rest : List Key = drop ((lba + n - 1) / sectors_of g + 1 - lba / sectors_of g) (keys_in g addr lba count) in
    stops_within step stop (keys_in g addr lba (at - lba)) rest (keys_in g addr lba count)
    (key_of addr (at / sectors_of g)) a b c
    (keys_in-split g addr lba n count (omega (arith, from, some)) (omega (arith, from, until))
    ∙ ap (λ l. l ++ rest) (keys_in-more g addr lba at part from some within edge)) before end

-- two tests that ask the same
same_tests : (part s a b c d : ℕ) → (part ≡ s → (a ≤ b) × (c ≤ d)) → (a ≤ b → c ≤ d → part ≡ s)
    → part == s ≡ nat_le a b && nat_le c d
same_tests part s a b c d to from =
    elim (cases_eq part s) [
      | inl same ↦ (let low = (to same).0 in let high = (to same).1 in grind (arith, nat_tests))
      | inr other ↦
          elim (cases_lt b a) [
            | inl past ↦ grind (arith, nat_tests)
            | inr low ↦ elim (cases_lt d c) [
              | inl past ↦ grind (arith, nat_tests)
              | inr high ↦
                  absurd (other (from low high))
            ]
          ]
    ]

part-full : (g : Geometry) (lba count at part : ℕ) → part ≡ min (sectors_of g - at % sectors_of g) (lba + count - at)
    → lba ≤ at → at < lba + count
    → part ≡ sectors_of g → (lba ≤ at / sectors_of g * sectors_of g)
    × ((at / sectors_of g + 1) * sectors_of g ≤ lba + count)
part-full Paper lba count at part is from until full = (omega arith, omega arith)
part-full Small lba count at part is from until full = (omega arith, omega arith)

full-part : (g : Geometry) (lba count at part : ℕ) → part ≡ min (sectors_of g - at % sectors_of g) (lba + count - at)
    → lba ≤ at → at < lba + count
    → (at ≡ lba) ⊎ (at % sectors_of g ≡ 0)
    → lba ≤ at / sectors_of g * sectors_of g → (at / sectors_of g + 1) * sectors_of g ≤ lba + count
    → part ≡ sectors_of g
full-part Paper lba count at part is from until edge low high = omega arith
full-part Small lba count at part is from until edge low high = omega arith

-- a part of a range is a whole block where the range has all of that
pub part-whole : (g : Geometry) (addr : Addr) (lba count at part : ℕ)
    → part ≡ min (sectors_of g - at % sectors_of g) (lba + count - at) → lba ≤ at → at < lba + count
    → (at ≡ lba) ⊎ (at % sectors_of g ≡ 0) → part == sectors_of g
    ≡ is_whole g lba count (key_of addr (at / sectors_of g))
part-whole g addr lba count at part is from until edge =
    same_tests part (sectors_of g) lba (at / sectors_of g * sectors_of g) ((at / sectors_of g + 1) * sectors_of g)
    (lba + count)
    (part-full g lba count at part is from until) (full-part g lba count at part is from until edge)

-- a range without a sector: nothing was overwritten
pub nothing_put : {S : Type 0} (step stop : S → Key → S
    → Type 0) (g : Geometry) (addr : Addr) (lba count : ℕ) (a b : S) (answer : Completion) → count ≡ 0
    → (answer ≡ answers.Done → InTurn step (keys_in g addr lba count) a b)
    → (answer ≡ answers.Broken → StopsInTurn step stop (keys_in g addr lba count) a b)
    → b ≡ a
nothing_put step stop g addr lba count a b answers.Done none puts stops =
    subst (λ n. InTurn step (keys_in g addr lba n) a b) none (puts refl)
nothing_put step stop g addr lba count a b answers.Broken none puts stops =
    absurd (subst (λ n. StopsInTurn step stop (keys_in g addr lba n) a b) none (stops refl))

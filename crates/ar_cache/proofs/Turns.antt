-- Keys that were put into a backing, one after another.
use Rattle.std.proofs.Common.{◌≡◌, ◌≢◌, ℕ, ◌-◌, ◌<◌, ◌≤◌, List, [], ◌∷◌, ◌++◌, Some, suc, length, take, drop, reverse}
use Rattle.std.proofs.Common.{get_or, inl, inr, refl, sym, ap, ◌∙◌, subst, arith}
use Rattle.std.specs.List.{slice_get}
use Rattle.std.specs.Map.{keys_of}
use Rattle.std.proofs.Math.Seq.{drop-cons}
use Rattle.std.proofs.lemmas.Grind.{reverse_onto}
use Rattle.std.proofs.lemmas.List.{drop_all, get_or-take, length-take-le}
use Rattle.std.proofs.lemmas.Option.{slice_get_within, get_or_from_slice_get}
use Rattle.lru.specs.LruCache.{last_entry}
use Rattle.ar_disks.specs.declared.address.Key.{Key}
use Rattle.ar_cache.specs.Backing.{InTurn, StopsInTurn}
use Rattle.ar_cache.specs.Cache.{CacheState, Flushes, Destages, IsPut, last_key, last_keys}
use Rattle.ar_cache.proofs.Lookups.{last_of_key}
use Rattle.ar_cache.specs.declared.answers.Flush.{Flush}
use Rattle.ar_cache.specs.declared.answers.Flush.TheVariants.{Flushed, Idle, Broken}

-- the last entry, as a list
pub last_keys_is : (es : List (Key × List ℕ)) (e : Key × List ℕ) → last_entry es ≡ Some e → last_keys es ≡ e.0 ∷ []
last_keys_is es e h =
    let within : length es - 1 < length es = slice_get_within es (length es - 1) e h in
    let split = drop-cons es (length es - 1) e within in
    let end : suc (length es - 1) ≡ length es = omega (arith, within) in
    let none : drop (suc (length es - 1)) es ≡ [] = drop_all (suc (length es - 1)) es (omega (arith, end)) in
    ap keys_of (split ∙ ap (λ x. x ∷ drop (suc (length es - 1)) es) (get_or_from_slice_get es (length es - 1) e e h)
    ∙ ap (λ l. e ∷ l) none)

-- the last of the first n entries, and those after
pub last_dropped : (es : List (Key × List ℕ)) (n : ℕ) (k : Key) → n ≤ length es → last_key (take n es) ≡ Some k
    → (x : List ℕ) × (drop (n - 1) es ≡ (k, x) ∷ drop n es)
last_dropped es n k within last =
    let found = last_of_key (take n es) k last in
    let e : Key × List ℕ = (k, found.0) in
    let len = length-take-le n es within in
    let at : slice_get (take n es) (n - 1) ≡ Some e = ap (λ l. slice_get (take n es) (l - 1)) (sym len) ∙ found.1 in
    let some : n - 1 < length (take n es) = slice_get_within (take n es) (n - 1) e at in
    let first : n - 1 < n = omega (arith, some, len) in
    let is : get_or es (n - 1) e ≡ e =
    sym (get_or-take n es (n - 1) e first) ∙ get_or_from_slice_get (take n es) (n - 1) e e at in
    let inside : n - 1 < length es = omega (arith, first, within) in
    let same : suc (n - 1) ≡ n = omega (arith, first) in
    (found.0, drop-cons es (n - 1) e inside ∙ ap (λ x. x ∷ drop (suc (n - 1)) es) is ∙ ap (λ m. e ∷ drop m es) same)

module _ {S X : Type 0} (step : S → X → S → Type 0) where
  -- some, and then others
  pub in_turn_then : (xs ys : List X) (a b c : S) → InTurn step xs a b → InTurn step ys b c → InTurn step (xs ++ ys) a c
  in_turn_then [] ys a b c p q = subst (λ s. InTurn step ys s c) p q
  in_turn_then (x ∷ xs) ys a b c p q = (p.0, p.1, in_turn_then xs ys p.0 b c p.2 q)

  -- one
  pub in_turn_one : (x : X) (a b : S) → step a x b → InTurn step (x ∷ []) a b
  in_turn_one x a b h = (b, h, refl)

module _ {S : Type 0} (step : S → Key → S → Type 0) where
  -- the least recently used was destaged, if there was one
  pub in_turn_last : (answer : Flush) (es : List (Key × List ℕ)) (f g : Key → List ℕ) (a b : S) → answer ≢ Broken
      → Destages answer es f g → IsPut step answer a b → (answer ≡ Idle → b ≡ a)
      → InTurn step (last_keys es) a b
  in_turn_last (Flushed k) es f g a b ok given put quiet =
      subst (λ ks. InTurn step ks a b) (sym (last_keys_is es (k, given.0) given.1)) (in_turn_one step k a b put)
  in_turn_last Idle es f g a b ok given put quiet =
      subst (λ ks. InTurn step ks a b) (ap last_keys (sym given)) (quiet refl)
  in_turn_last Broken es f g a b ok given put quiet = absurd (ok refl)

  -- the entries after the first n were destaged, and then the last of those
  pub in_turn_next : (es : List (Key × List ℕ)) (n : ℕ) (k : Key) (a b c : S) → n ≤ length es
      → last_key (take n es) ≡ Some k
      → InTurn step (reverse (keys_of (drop n es))) a b → step b k c
      → InTurn step (reverse (keys_of (drop (n - 1) es))) a c
  in_turn_next es n k a b c within last before put =
      subst (λ ks. InTurn step ks a c)
      (sym (ap (λ l. reverse (keys_of l)) (last_dropped es n k within last).1
      ∙ reverse_onto (keys_of (drop n es)) k []))
      (in_turn_then step (reverse (keys_of (drop n es))) (k ∷ []) a b c before (in_turn_one step k b c put))

  -- the same, where a flush says so
  pub in_turn_flushed : (answer : Flush) (es : List (Key × List ℕ)) (s t : CacheState) (a b c : S) → answer ≢ Broken
      → answer ≢ Idle → Flushes answer s t → IsPut step answer b c
      → length s.entries ≤ length es → s.entries ≡ take (length s.entries) es
      → InTurn step (reverse (keys_of (drop (length s.entries) es))) a b
      → InTurn step (reverse (keys_of (drop (length t.entries) es))) a c
  in_turn_flushed (Flushed k) es s t a b c ok some left put within are before =
      let last = subst (λ l. last_key l ≡ Some k) are left.0 in
      let len : length t.entries ≡ length s.entries - 1 =
      ap (λ u. length u.entries) left.1 ∙ length-take-le (length s.entries - 1) s.entries (omega arith) in
      subst (λ n. InTurn step (reverse (keys_of (drop n es))) a c) (sym len)
      (in_turn_next es (length s.entries) k a b c within last before put)
  in_turn_flushed Idle es s t a b c ok some left put within are before = absurd (some refl)
  in_turn_flushed Broken es s t a b c ok some left put within are before = absurd (ok refl)

module _ {S : Type 0} (step stop : S → Key → S → Type 0) where
  -- some keys in turn, and it stopped at the next one
  pub stops_then : (ks : List Key) (k : Key) (ls : List Key) (a b c : S) → InTurn step ks a b → stop b k c
      → StopsInTurn step stop (ks ++ k ∷ ls) a c
  stops_then [] k ls a b c before end = inl (subst (λ s. stop s k c) before end)
  stops_then (j ∷ ks) k ls a b c before end = inr (before.0, before.1, stops_then ks k ls before.0 b c before.2 end)

  -- it stopped among the first of more keys
  pub stops_among : (ks ls : List Key) (a c : S) → StopsInTurn step stop ks a c → StopsInTurn step stop (ks ++ ls) a c
  stops_among [] ls a c h = absurd h
  stops_among (k ∷ ks) ls a c (inl end) = inl end
  stops_among (k ∷ ks) ls a c (inr h) = inr (h.0, h.1, stops_among ks ls h.0 c h.2)

  -- it stopped at one key
  pub stops_one : (k : Key) (a c : S) → stop a k c → StopsInTurn step stop (k ∷ []) a c
  stops_one k a c end = inl end

  -- it stopped at the last entry's
  pub stops_last : (es : List (Key × List ℕ)) (e : Key × List ℕ) (a c : S) → last_entry es ≡ Some e → stop a e.0 c
      → StopsInTurn step stop (last_keys es) a c
  stops_last es e a c last end =
      subst (λ ks. StopsInTurn step stop ks a c) (sym (last_keys_is es e last)) (stops_one e.0 a c end)

-- steps in turn are, seen through a function, steps in turn
pub in_turn_seen : {S T : Type 0} (see : S → T) (step : S → Key → S → Type 0) (shown : T → Key → T → Type 0)
    → ((a b : S) (k : Key) → step a k b → shown (see a) k (see b))
    → (ks : List Key) (a b : S) → InTurn step ks a b → InTurn shown ks (see a) (see b)
in_turn_seen see step shown each [] a b h = ap see h
in_turn_seen see step shown each (k ∷ ks) a b h =
    (see h.0, each a h.0 k h.1, in_turn_seen see step shown each ks h.0 b h.2)

-- and so are those that stopped
pub stops_seen : {S T : Type 0} (see : S → T) (step stop : S → Key → S → Type 0) (shown stopped : T → Key → T → Type 0)
    → ((a b : S) (k : Key) → step a k b → shown (see a) k (see b))
    → ((a b : S) (k : Key) → stop a k b → stopped (see a) k (see b))
    → (ks : List Key) (a b : S) → StopsInTurn step stop ks a b → StopsInTurn shown stopped ks (see a) (see b)
stops_seen see step stop shown stopped each last [] a b h = absurd h
stops_seen see step stop shown stopped each last (k ∷ ks) a b (inl end) = inl (last a b k end)
stops_seen see step stop shown stopped each last (k ∷ ks) a b (inr h) =
    inr (see h.0, each a h.0 k h.1, stops_seen see step stop shown stopped each last ks h.0 b h.2)

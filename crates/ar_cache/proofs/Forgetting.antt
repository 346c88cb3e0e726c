-- Where a cache stands while an address is forgotten.
use Rattle.std.proofs.Common.{◌≡◌, ℕ, ◌+◌, ◌-◌, ◌<◌, ◌≤◌, Bool, true, false, not, cond, List, [], ◌∷◌, ◌++◌, Some, None}
use Rattle.std.proofs.Common.{length, take, refl, sym, ap, ◌∙◌, arith, append-nil, append_assoc, length-append}
use Rattle.std.specs.Map.{lookup}
use Rattle.std.proofs.lemmas.Map.Entries.{lookup-filter-keys}
use Rattle.std.proofs.lemmas.List.{take-append-le}
use Rattle.std.proofs.Math.Seq.{take-length}
use Rattle.std.specs.List.{slice_get}
use Rattle.lru.specs.LruCache.{last_entry}
use Rattle.lru.proofs.Splits.{cut_last, last_from}
use Rattle.ar_disks.specs.declared.address.Addr.{Addr}
use Rattle.ar_disks.specs.declared.address.Key.{Key}
use Rattle.ar_disks.specs.Addresses.{same_addr}
use Rattle.ar_cache.specs.Cache.{same_key, turned, without_addr, without_last, CacheState, with_entries}
use Rattle.ar_cache.proofs.Keys.{same_key_true}

-- of the entries ys that were turned those of other addresses stand in front, and the entries xs are still to be turned
pub record IsForgetting (addr : Addr) (old new : CacheState) (turns : ℕ) : Type 0 where
  pub xs : List (Key × List ℕ)
  pub ys : List (Key × List ℕ)
  pub split : old.entries ≡ xs ++ ys
  pub to_go : length xs + turns ≡ length old.entries
  pub reached : new ≡ with_entries old (without_addr ys addr ++ xs)

at_end : (zs : List (Key × List ℕ)) (e : Key × List ℕ) → slice_get (zs ++ e ∷ []) (length zs) ≡ Some e
at_end [] e = refl
at_end (z ∷ zs) e = at_end zs e

index_of_push : (zs : List (Key × List ℕ)) (e : Key × List ℕ) → length (zs ++ e ∷ []) - 1 ≡ length zs
index_of_push zs e = omega (arith, length-append zs (e ∷ []))

cut_end : (xs : List (Key × List ℕ)) → 0 < length xs
    → (us : List (Key × List ℕ)) × (e : Key × List ℕ) × (xs ≡ us ++ e ∷ [])
cut_end [] more = absurd (omega arith)
cut_end (x ∷ xs) more = let cut = cut_last x xs in (cut.0, last_from x xs, cut.1)

nil_of : (xs : List (Key × List ℕ)) → length xs ≡ 0 → xs ≡ []
nil_of [] h = refl
nil_of (x ∷ xs) h = absurd (omega arith)

last_of_push : (zs : List (Key × List ℕ)) (e : Key × List ℕ) → last_entry (zs ++ e ∷ []) ≡ Some e
last_of_push zs e = ap (slice_get (zs ++ e ∷ [])) (index_of_push zs e) ∙ at_end zs e

without_last_push : (zs : List (Key × List ℕ)) (e : Key × List ℕ) → without_last (zs ++ e ∷ []) ≡ zs
without_last_push zs e =
    ap (λ n. take n (zs ++ e ∷ [])) (index_of_push zs e) ∙ take-append-le (length zs) zs (e ∷ []) (omega arith)
    ∙ take-length zs

turned_push : (zs : List (Key × List ℕ)) (e : Key × List ℕ) (a : Addr)
    → turned (zs ++ e ∷ []) a ≡ cond (same_addr a e.0.addr) zs (e ∷ zs)
turned_push zs e a = rw (last_of_push zs e, without_last_push zs e)

pub forgetting_none : (a : Addr) (c : CacheState) → IsForgetting a c c 0
forgetting_none a c =
    record { xs = c.entries; ys = []; split = sym (append-nil c.entries); to_go = omega arith; reached = refl }

pub forgetting_room : (a : Addr) (old new : CacheState) (i : ℕ) → IsForgetting a old new i → i < length old.entries
    → 0 < length new.entries
forgetting_room a old new i h more =
    let len = ap (λ s. length s.entries) h.reached in
    let togo = h.to_go in
    omega (arith, len, togo, length-append (without_addr h.ys a) h.xs)

at_last : (a : Addr) (old new : CacheState) (i : ℕ) (h : IsForgetting a old new i) (us : List (Key × List ℕ)) (e : Key
    × List ℕ) → h.xs ≡ us ++ e ∷ []
    → turned new.entries a ≡ cond (same_addr a e.0.addr) (without_addr h.ys a ++ us) (e ∷ (without_addr h.ys a ++ us))
at_last a old new i h us e cut =
    let front = without_addr h.ys a in
    let is : new.entries ≡ (front ++ us) ++ e ∷ [] =
    ap (λ s. s.entries) h.reached ∙ ap (λ l. front ++ l) cut ∙ sym (append_assoc front us (e ∷ [])) in
    ap (λ l. turned l a) is ∙ turned_push (front ++ us) e a

step : (a : Addr) (e : Key × List ℕ) (ys us es : List (Key × List ℕ)) (d : Bool) → same_addr a e.0.addr ≡ d
    → es ≡ cond d (without_addr ys a ++ us) (e ∷ (without_addr ys a ++ us)) → es ≡ without_addr (e ∷ ys) a ++ us
step a e ys us es true t h = rw t h
step a e ys us es false t h = rw t h

pub forgetting_more : (a : Addr) (old new then : CacheState) (i : ℕ) → IsForgetting a old new i → i < length old.entries
    → then ≡ with_entries new (turned new.entries a) → IsForgetting a old then (i + 1)
forgetting_more a old new then i h more is =
    let togo = h.to_go in
    let cut = cut_end h.xs (omega arith) in
    let us = cut.0 in
    let e = cut.1 in
    let len : length h.xs ≡ length us + 1 = ap length cut.2 ∙ length-append us (e ∷ []) in
    let turn = step a e h.ys us (turned new.entries a) (same_addr a e.0.addr) refl (at_last a old new i h us e cut.2) in
    record {
      xs = us;
      ys = e ∷ h.ys;
      split = h.split ∙ ap (λ l. l ++ h.ys) cut.2 ∙ append_assoc us (e ∷ []) h.ys;
      to_go = omega arith;
      reached = is ∙ ap (λ s. with_entries s (turned new.entries a)) h.reached ∙ ap (with_entries old) turn;
    }

pub forgetting_all : (a : Addr) (old new : CacheState) (i : ℕ) → IsForgetting a old new i → length old.entries ≤ i
    → new ≡ with_entries old (without_addr old.entries a)
forgetting_all a old new i h all =
    let togo = h.to_go in
    let none : h.xs ≡ [] = nil_of h.xs (omega arith) in
    let rest : old.entries ≡ h.ys = h.split ∙ ap (λ l. l ++ h.ys) none in
    let front = without_addr h.ys a in
    h.reached ∙ ap (λ l. with_entries old (front ++ l)) none ∙ ap (with_entries old) (append-nil front)
    ∙ ap (λ l. with_entries old (without_addr l a)) (sym rest)

-- what look-ups give once an address is forgotten
pub lookup-without_addr : (es : List (Key × List ℕ)) (a : Addr) (k : Key)
    → lookup (same_key k) (without_addr es a) ≡ cond (not (same_addr a k.addr)) (lookup (same_key k) es) None
lookup-without_addr es a k =
    lookup-filter-keys (same_key k) (λ j. not (same_addr a j.addr)) (not (same_addr a k.addr))
    (λ j t. ap (λ x. not (same_addr a x.addr)) (sym (same_key_true k j t))) es

-- What look-ups give after the changes that a cache makes to its entries.
use Rattle.std.proofs.Common.{◌≡◌, ◌≢◌, ℕ, zero, suc, ◌-◌, ◌≤◌, Bool, true, false, cond, IsTrue, IsSome, is_some, List}
use Rattle.std.proofs.Common.{[], ◌∷◌, Option, Some, None, length, take, option_map, get_or, ◌⊎◌, inl, inr, refl, sym}
use Rattle.std.proofs.Common.{ap, ◌∙◌, subst, arith}
use Rattle.std.specs.List.{slice_get, IsDistinct, AllByRecursion}
use Rattle.std.specs.Map.{keys_of, lookup}
use Rattle.std.proofs.lemmas.Map.{lookup-remove_entry}
use Rattle.std.proofs.lemmas.Map.Entries.{lookup_from_place}
use Rattle.std.proofs.lemmas.Bool.{false≢true, cases_lt}
use Rattle.std.proofs.lemmas.Option.{slice_get-get_or}
use Rattle.std.proofs.lemmas.List.{take_all}
use Rattle.lru.specs.LruCache.{last_entry}
use Rattle.ar_disks.specs.declared.address.Addr.{Addr}
use Rattle.ar_disks.specs.declared.address.Key.{Key}
use Rattle.ar_cache.specs.declared.answers.Flush.{Flush}
use Rattle.ar_cache.specs.declared.answers.Flush.TheVariants.{Flushed, Idle, Broken}
use Rattle.ar_cache.specs.Backing.{WritesKey}
use Rattle.ar_disks.specs.Addresses.{same_addr}
use Rattle.ar_cache.specs.Cache.{same_key, turned, without_key, without_last, with_room, last_key, CacheState}
use Rattle.ar_cache.specs.Cache.{with_entries, cached, seen, SameReads, Sees, KnowsAll, Destages}
use Rattle.ar_cache.proofs.Keys.{key_equiv, same_key_true, same_key_false, same_key_refl}

-- the first of different keys differs from each later one
differs_later : (k : Key) (es : List (Key × List ℕ)) → AllByRecursion (λ j. same_key k j ≡ false) (keys_of es)
    → (n : ℕ) (e : Key × List ℕ) → slice_get es n ≡ Some e → same_key k e.0 ≡ false
differs_later k [] all n e h = cc
differs_later k (f ∷ es) all zero e h = let same : f ≡ e = cc in subst (λ g. same_key k g.0 ≡ false) same all.0
differs_later k (f ∷ es) all (suc n) e h = differs_later k es all.1 n e h

-- the last of different keys taken away is the last entry taken away
without_last_at : (es : List (Key × List ℕ)) (n : ℕ) (e : Key × List ℕ) → IsDistinct same_key (keys_of es)
    → length es ≡ suc n → slice_get es n ≡ Some e → take n es ≡ without_key es e.0
unfolding IsDistinct
without_last_at [] n e d l h = cc
without_last_at (f ∷ []) zero e d l h =
    let same : f ≡ e = cc in
    let hit : same_key e.0 f.0 ≡ true = subst (λ g. same_key e.0 g.0 ≡ true) (sym same) (same_key_refl e.0) in
    rw hit
without_last_at (f ∷ g ∷ es) zero e d l h = absurd (omega arith)
without_last_at (f ∷ es) (suc n) e d l h =
    let apart : same_key e.0 f.0 ≡ false = key_equiv.symm e.0 f.0 ∙ differs_later f.0 es d.0 n e h in
    rw apart (ap (λ r. f ∷ r) (without_last_at es n e d.1 (omega arith) h))

pub lookup-without_key : (es : List (Key × List ℕ)) (k q : Key) → IsDistinct same_key (keys_of es)
    → lookup (same_key q) (without_key es k) ≡ cond (same_key k q) None (lookup (same_key q) es)
lookup-without_key es k q d = lookup-remove_entry key_equiv (same_key k) (key_equiv.congr k) q es d

pub lookup_last : (es : List (Key × List ℕ)) (e : Key × List ℕ) → IsDistinct same_key (keys_of es)
    → last_entry es ≡ Some e → lookup (same_key e.0) es ≡ Some e.1
lookup_last es e d h = lookup_from_place key_equiv es (length es - 1) e.0 e.1 d h

pub without_last_is : (es : List (Key × List ℕ)) (e : Key × List ℕ) → IsDistinct same_key (keys_of es)
    → last_entry es ≡ Some e → without_last es ≡ without_key es e.0
without_last_is [] e d h = cc
without_last_is (f ∷ es) e d h = without_last_at (f ∷ es) (length (f ∷ es) - 1) e d (omega arith) h

-- the key's look-up in a list with its entry in front
pub lookup-front : (es : List (Key × List ℕ)) (k q : Key) (b : List ℕ)
    → lookup (same_key q) ((k, b) ∷ es) ≡ cond (same_key q k) (Some b) (lookup (same_key q) es)
lookup-front es k q b = refl

apart_from : (k q : Key) → same_key k q ≡ false → q ≢ k
apart_from k q t e = false≢true (sym t ∙ subst (λ x. same_key k x ≡ true) (sym e) (same_key_refl k))

-- other keys look up the same without one
pub others_without_key : (es : List (Key × List ℕ)) (k q : Key) → IsDistinct same_key (keys_of es) → q ≢ k
    → lookup (same_key q) (without_key es k) ≡ lookup (same_key q) es
others_without_key es k q d apart = rw (lookup-without_key es k q d, same_key_false k q apart)

-- Something was written under a key that is cached with it: no key is seen with another block.
pub seen_written : (c : CacheState) (f g : Key → List ℕ) (k : Key) (b : List ℕ) → cached c k ≡ Some b
    → WritesKey f g k b → SameReads c f c g
seen_written c f g k b hit w = record {
  same = λ q.
      (elim (same_key k q) as (λ y. same_key k q ≡ y → seen c g q ≡ seen c f q) [
        | true ↦ λ t. let at : cached c q ≡ Some b = subst (λ x. cached c x ≡ Some b) (same_key_true k q t) hit in rw at
        | false ↦ λ t. let apart : q ≢ k = apart_from k q t in rw (w.others q apart)
      ]) refl;
}

-- A cached block was written under its key, and its entry went: no key is seen with another block.
pub seen_moved : (c : CacheState) (f g : Key → List ℕ) (k : Key) (b : List ℕ) → IsDistinct same_key (keys_of c.entries)
    → cached c k ≡ Some b → WritesKey f g k b → SameReads c f (with_entries c (without_key c.entries k)) g
seen_moved c f g k b d hit w = record {
  same = λ q.
      (elim (same_key k q) as (λ y. same_key k q ≡ y
      → seen (with_entries c (without_key c.entries k)) g q ≡ seen c f q) [
        | true ↦ λ t.
            let at : cached c q ≡ Some b = subst (λ x. cached c x ≡ Some b) (same_key_true k q t) hit in
            let gone : lookup (same_key q) (without_key c.entries k) ≡ None =
            rw (lookup-without_key c.entries k q d, t) in
            rw (at, gone) (subst (λ x. g x ≡ b) (same_key_true k q t) w.written)
        | false ↦ λ t.
            let stays : lookup (same_key q) (without_key c.entries k) ≡ lookup (same_key q) c.entries =
            rw (lookup-without_key c.entries k q d, t) in
            rw (stays, w.others q (apart_from k q t))
      ]) refl;
}

-- An entry was put in front of entries that lack its key: the key is seen with its block, the others as before.
pub seen_front : (c : CacheState) (f : Key → List ℕ) (k : Key) (b : List ℕ)
    → Sees c f (with_entries c ((k, b) ∷ c.entries)) f k b
seen_front c f k b = record {
  put = rw (same_key_refl k);
  others = λ q apart. rw (same_key_false q k (λ e. apart (sym e)));
}

-- The same where its key's entry gave way.
pub seen_replaced : (c : CacheState) (f : Key → List ℕ) (k : Key) (b : List ℕ) → IsDistinct same_key (keys_of c.entries)
    → Sees c f (with_entries c ((k, b) ∷ without_key c.entries k)) f k b
seen_replaced c f k b d = record {
  put = rw (same_key_refl k);
  others = λ q apart. rw (
    same_key_false q k (λ e. apart (sym e)),
    lookup-without_key c.entries k q d,
    same_key_false k q apart,
  );
}

-- A block was written under a key that isn't cached.
pub seen_through : (c : CacheState) (f g : Key → List ℕ) (k : Key) (b : List ℕ) → cached c k ≡ None → WritesKey f g k b
    → Sees c f c g k b
seen_through c f g k b absent w = record {
  put = rw absent w.written;
  others = λ q apart. rw (w.others q apart);
}

pub seen_refl : (c : CacheState) (f : Key → List ℕ) → SameReads c f c f
seen_refl c f = record { same = λ q. refl }

pub seen_trans : (c d e : CacheState) (f g h : Key → List ℕ) → SameReads c f d g → SameReads d g e h → SameReads c f e h
seen_trans c d e f g h x y = record { same = λ q. y.same q ∙ x.same q }

pub sees_after : (c d e : CacheState) (f g h : Key → List ℕ) (k : Key) (b : List ℕ) → SameReads c f d g
    → Sees d g e h k b → Sees c f e h k b
sees_after c d e f g h k b x y = record { put = y.put; others = λ q apart. y.others q apart ∙ x.same q }

none_either : (y : Bool) → cond {A = Option (List ℕ)} y None None ≡ None
none_either true = refl
none_either false = refl

some_of : (y : Bool) (o : Option (List ℕ)) → IsSome (cond y None o) → IsSome o
some_of true o h = absurd (false≢true h)
some_of false o h = h

-- A key that isn't cached isn't cached without another either.
pub absent_without_key : (es : List (Key × List ℕ)) (k q : Key) → IsDistinct same_key (keys_of es)
    → lookup (same_key q) es ≡ None → lookup (same_key q) (without_key es k) ≡ None
absent_without_key es k q d absent = rw (lookup-without_key es k q d, absent) (none_either (same_key k q))

-- What is left is known where all was.
pub known_without_key : (p : Key → Bool) (c : CacheState) (k : Key) → IsDistinct same_key (keys_of c.entries)
    → KnowsAll p c → KnowsAll p (with_entries c (without_key c.entries k))
known_without_key p c k d h = record {
  known = λ q is.
      h.known q (some_of (same_key k q) (cached c q) (subst IsSome (lookup-without_key c.entries k q d) is));
}

-- A known key in front of known ones.
pub known_front : (p : Key → Bool) (c : CacheState) (k : Key) (b : List ℕ) → IsTrue (p k) → KnowsAll p c
    → KnowsAll p (with_entries c ((k, b) ∷ c.entries))
known_front p c k b this h = record {
  known = λ q is.
      (elim (same_key q k) as (λ y. same_key q k ≡ y → IsTrue (p q)) [
        | true ↦ λ t. subst (λ x. IsTrue (p x)) (sym (same_key_true q k t)) this
        | false ↦ λ t. h.known q (rw t at is)
      ]) refl;
}

-- where there is an entry, one is the last
last_there : (f : Key × List ℕ) (es : List (Key × List ℕ)) → (e : Key × List ℕ) × (last_entry (f ∷ es) ≡ Some e)
last_there f es =
    (get_or (f ∷ es) (length (f ∷ es) - 1) f, slice_get-get_or (f ∷ es) (length (f ∷ es) - 1) f (omega arith))

pub none_last : (es : List (Key × List ℕ)) → last_entry es ≡ None → es ≡ []
none_last [] h = refl
none_last (f ∷ es) h = let there = last_there f es in let is = there.1 in cc

key_of_last : (o : Option (Key × List ℕ)) (k : Key) → option_map (λ e. e.0) o ≡ Some k
    → (x : List ℕ) × (o ≡ Some (k, x))
key_of_last None k h = cc
key_of_last (Some e) k h = let same : e.0 ≡ k = cc in (e.1, ap Some (λ i. (same i, e.1)))

pub last_of_key : (es : List (Key × List ℕ)) (k : Key) → last_key es ≡ Some k
    → (x : List ℕ) × (last_entry es ≡ Some (k, x))
last_of_key es k h = key_of_last (last_entry es) k h

-- without the last is without a key, or there was nothing
pub last_cases : (es : List (Key × List ℕ)) → IsDistinct same_key (keys_of es)
    → (es ≡ []) ⊎ ((e : Key × List ℕ) × (last_entry es ≡ Some e) × (without_last es ≡ without_key es e.0))
last_cases [] d = inl refl
last_cases (f ∷ es) d = let there =
    last_there f es in inr (there.0, there.1, without_last_is (f ∷ es) there.0 d there.1)

room_for : (n m : ℕ) → n ≤ m → (n ≤ m - 1) ⊎ (n ≡ m)
room_for n m h = elim (cases_lt n m) [ inl less ↦ inl (omega arith) | inr rest ↦ inr (omega arith) ]

-- making room takes nothing out, or the last entry
pub room_cases : (c : CacheState) → length c.entries ≤ c.capacity → IsDistinct same_key (keys_of c.entries)
    → (with_room c ≡ c.entries)
    ⊎ ((e : Key × List ℕ) × (last_entry c.entries ≡ Some e) × (with_room c ≡ without_key c.entries e.0))
room_cases c fits d = elim (room_for (length c.entries) c.capacity fits) [
  | inl room ↦ inl (take_all (c.capacity - 1) c.entries room)
  | inr full ↦
      let made : with_room c ≡ without_last c.entries = ap (λ n. take (n - 1) c.entries) (sym full) in
      elim (last_cases c.entries d) [
        | inl empty ↦ inl (made ∙ ap without_last empty ∙ sym empty)
        | inr last ↦ inr (last.0, last.1, made ∙ last.2)
      ]
]

-- The least recently used block was written under its key, and its entry went.
pub seen_without_last : (c : CacheState) (f g : Key → List ℕ) (k : Key) (x : List ℕ)
    → IsDistinct same_key (keys_of c.entries) → last_entry c.entries ≡ Some (k, x) → WritesKey f g k x
    → SameReads c f (with_entries c (without_last c.entries)) g
seen_without_last c f g k x d last w =
    subst (λ es. SameReads c f (with_entries c es) g) (sym (without_last_is c.entries (k, x) d last))
    (seen_moved c f g k x d (lookup_last c.entries (k, x) d last) w)

pub known_without_last : (p : Key → Bool) (c : CacheState) → IsDistinct same_key (keys_of c.entries) → KnowsAll p c
    → KnowsAll p (with_entries c (without_last c.entries))
known_without_last p c d h = elim (last_cases c.entries d) [
  | inl empty ↦ subst (λ es. KnowsAll p (with_entries c es)) (empty ∙ sym (ap without_last empty)) h
  | inr last ↦ subst (λ es. KnowsAll p (with_entries c es)) (sym last.2) (known_without_key p c last.0.0 d h)
]

-- a backing that knows the same keys
pub known_kept : (p q : Key → Bool) (c : CacheState) → ((k : Key) → q k ≡ p k) → KnowsAll p c → KnowsAll q c
known_kept p q c same h = record { known = λ k is. subst IsTrue (sym (same k)) (h.known k is) }

-- the last entry turned to the front
pub turned_front : (es : List (Key × List ℕ)) (a : Addr) (k : Key) (x : List ℕ) → IsDistinct same_key (keys_of es)
    → last_entry es ≡ Some (k, x) → same_addr a k.addr ≡ false → turned es a ≡ (k, x) ∷ without_key es k
turned_front es a k x d last apart = rw (last, apart) (ap (λ l. (k, x) ∷ l) (without_last_is es (k, x) d last))

-- a key that isn't cached takes nothing out
pub without_absent : (es : List (Key × List ℕ)) (k : Key) → lookup (same_key k) es ≡ None → without_key es k ≡ es
without_absent [] k h = refl
without_absent (e ∷ es) k h =
    (elim (same_key k e.0) as (λ y. same_key k e.0 ≡ y → without_key (e ∷ es) k ≡ e ∷ es) [
      | true ↦ λ t. let found : Some e.1 ≡ None = rw t at h in cc
      | false ↦ λ t. rw t (ap (λ l. e ∷ l) (without_absent es k (rw t at h)))
    ]) refl

pub absent_without_last : (es : List (Key × List ℕ)) (q : Key) → IsDistinct same_key (keys_of es)
    → lookup (same_key q) es ≡ None → lookup (same_key q) (without_last es) ≡ None
absent_without_last es q d absent = elim (last_cases es d) [
  | inl empty ↦ subst (λ l. lookup (same_key q) l ≡ None) (empty ∙ sym (ap without_last empty)) absent
  | inr last ↦ subst (λ l. lookup (same_key q) l ≡ None) (sym last.2) (absent_without_key es last.0.0 q d absent)
]

-- The least recently used block was given to the backing, if there was one, and its entry went.
pub seen_given : (r : Flush) (c : CacheState) (f g : Key → List ℕ) → r ≢ Broken
    → IsDistinct same_key (keys_of c.entries) → Destages r c.entries f g → (r ≡ Idle → g ≡ f)
    → SameReads c f (with_entries c (without_last c.entries)) g
seen_given (Flushed k) c f g not_broken d given quiet = seen_without_last c f g k given.0 d given.1 given.2
seen_given Idle c f g not_broken d given quiet =
    subst (λ h. SameReads c f (with_entries c (without_last c.entries)) h) (sym (quiet refl))
    (subst (λ es. SameReads c f (with_entries c es) f) (given ∙ sym (ap without_last given)) (seen_refl c f))
seen_given Broken c f g not_broken d given quiet = absurd (not_broken refl)

-- The least recently used block was given to the backing, if there was one: the blocks of other keys stay.
pub others_given : (r : Flush) (es : List (Key × List ℕ)) (f g : Key → List ℕ) (q : Key) → r ≢ Broken
    → Destages r es f g → (r ≡ Idle → g ≡ f) → last_key es ≢ Some q → g q ≡ f q
others_given (Flushed k) es f g q not_broken given quiet apart =
    given.2.others q (λ e. apart (ap (option_map (λ e'. e'.0)) given.1 ∙ ap Some (sym e)))
others_given Idle es f g q not_broken given quiet apart = ap (λ h. h q) (quiet refl)
others_given Broken es f g q not_broken given quiet apart = absurd (not_broken refl)

-- a key that isn't cached isn't the least recently used
pub absent_apart : (es : List (Key × List ℕ)) (q : Key) → IsDistinct same_key (keys_of es)
    → lookup (same_key q) es ≡ None → last_key es ≢ Some q
absent_apart es q d absent is =
    let last = last_of_key es q is in
    let found = lookup_last es (q, last.0) d last.1 in
    cc

-- a block in the place of another leaves the keys that have one
pub has_replaced : (c : CacheState) (k q : Key) (b x : List ℕ) → IsDistinct same_key (keys_of c.entries)
    → cached c k ≡ Some x
    → is_some (cached (with_entries c ((k, b) ∷ without_key c.entries k)) q) ≡ is_some (cached c q)
has_replaced c k q b x d hit =
    (elim (same_key k q) as (λ y. same_key k q ≡ y
    → is_some (cached (with_entries c ((k, b) ∷ without_key c.entries k)) q) ≡ is_some (cached c q)) [
      | true ↦ λ t.
          let at : cached c q ≡ Some x = subst (λ j. cached c j ≡ Some x) (same_key_true k q t) hit in
          rw (key_equiv.symm q k, t, at)
      | false ↦ λ t. rw (key_equiv.symm q k, t, lookup-without_key c.entries k q d, t)
    ]) refl

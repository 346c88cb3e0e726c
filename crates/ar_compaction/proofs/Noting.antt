-- Which addresses records name.
use Rattle.std.proofs.Common.{◌≡◌, ◌≢◌, ◌<◌, ◌+◌, ℕ, Bool, true, false, cond, ◌||◌, List, [], ◌∷◌, ◌++◌, length, get_or}
use Rattle.std.proofs.Common.{zero, suc, take, arith, drop, map, Option, Some, None, refl, sym, ap, ◌∙◌, append-nil}
use Rattle.std.proofs.lemmas.Bool.{true≢false, or_parts, or_from, or_left}
use Rattle.std.proofs.lemmas.List.{at_drop_more}
use Rattle.ar_disks.specs.declared.address.Addr.{Addr}
use Rattle.ar_unit.specs.Unit.{UnitEntry}
use Rattle.ar_record.specs.Record.{RecordData, Make, Grow, Remove, Command, Unmap, AddDisk}
use Rattle.ar_record.specs.Replay.{is_unit_at, own_in, own_of}
use Rattle.ar_record.proofs.Replaying.{own_of-append}
use Rattle.ar_compaction.specs.Addresses.{address_named, is_address, names, is_among, with_address, noted_one, noted}
use Rattle.ar_compaction.specs.Addresses.{AreDistinct, AreAddresses}
use Rattle.ar_compaction.specs.Replaying.{unit_address, own_entry}
use Rattle.ar_compaction.proofs.Creation.{is_unit_at-is, is_unit_at-self, is_unit_at-other}

-- ---- one record

-- the entry, if the record names the address
entry_by : (here : Bool) (entry : UnitEntry) → here ≡ true → cond here (entry ∷ []) [] ≡ entry ∷ []
entry_by true entry e = refl
entry_by false entry e = absurd (true≢false (sym e))

no_entry_by : (here : Bool) (entry : UnitEntry) → here ≡ false → cond here (entry ∷ []) [] ≡ []
no_entry_by true entry e = absurd (true≢false e)
no_entry_by false entry e = refl

pub own_named : (a : ℕ × ℕ) (r : RecordData) → names a r ≡ true → own_in a r ≡ own_entry r
own_named a (Make host lun sectors) e = entry_by (is_unit_at a host lun) _ e
own_named a (Grow host lun sectors) e = entry_by (is_unit_at a host lun) _ e
own_named a (Remove host lun) e = entry_by (is_unit_at a host lun) _ e
own_named a (Command host lun cdb payload) e = entry_by (is_unit_at a host lun) _ e
own_named a (Unmap host lun lba count) e = entry_by (is_unit_at a host lun) _ e
own_named a (AddDisk extents) e = refl

pub own_unnamed : (a : ℕ × ℕ) (r : RecordData) → names a r ≡ false → own_in a r ≡ []
own_unnamed a (Make host lun sectors) e = no_entry_by (is_unit_at a host lun) _ e
own_unnamed a (Grow host lun sectors) e = no_entry_by (is_unit_at a host lun) _ e
own_unnamed a (Remove host lun) e = no_entry_by (is_unit_at a host lun) _ e
own_unnamed a (Command host lun cdb payload) e = no_entry_by (is_unit_at a host lun) _ e
own_unnamed a (Unmap host lun lba count) e = no_entry_by (is_unit_at a host lun) _ e
own_unnamed a (AddDisk extents) e = refl

-- a record that names an address has an entry there
cons_is : (here : Bool) (entry : UnitEntry) → cond here (entry ∷ []) [] ≢ [] → here ≡ true
cons_is true entry h = refl
cons_is false entry h = absurd (h refl)

own_names : (a : ℕ × ℕ) (r : RecordData) → own_in a r ≢ [] → names a r ≡ true
own_names a (Make host lun sectors) h = cons_is (is_unit_at a host lun) _ h
own_names a (Grow host lun sectors) h = cons_is (is_unit_at a host lun) _ h
own_names a (Remove host lun) h = cons_is (is_unit_at a host lun) _ h
own_names a (Command host lun cdb payload) h = cons_is (is_unit_at a host lun) _ h
own_names a (Unmap host lun lba count) h = cons_is (is_unit_at a host lun) _ h
own_names a (AddDisk extents) h = absurd (h refl)

has_entry : (here : Bool) (entry : UnitEntry) → here ≡ true → cond here (entry ∷ []) [] ≢ []
has_entry true entry e f = absurd cc
has_entry false entry e f = true≢false (sym e)

pub named_own : (a : ℕ × ℕ) (r : RecordData) → names a r ≡ true → own_in a r ≢ []
named_own a (Make host lun sectors) e = has_entry (is_unit_at a host lun) _ e
named_own a (Grow host lun sectors) e = has_entry (is_unit_at a host lun) _ e
named_own a (Remove host lun) e = has_entry (is_unit_at a host lun) _ e
named_own a (Command host lun cdb payload) e = has_entry (is_unit_at a host lun) _ e
named_own a (Unmap host lun lba count) e = has_entry (is_unit_at a host lun) _ e
named_own a (AddDisk extents) e = absurd (true≢false (sym e))

-- ---- addresses, one by one

pub among_more : (a : ℕ × ℕ) (addresses : List Addr) (i : ℕ) (d : Addr) → i < length addresses
    → is_among a (map unit_address (drop i addresses))
    ≡ is_unit_at a (get_or addresses i d).host.number (get_or addresses i d).lun
    || is_among a (map unit_address (drop (i + 1) addresses))
among_more a addresses i d lt = at_drop_more (λ (xs : List Addr). is_among a (map unit_address xs)) addresses i d lt

pub among-push : (b a : ℕ × ℕ) (addresses : List (ℕ × ℕ))
    → is_among b (addresses ++ a ∷ []) ≡ is_among b addresses || is_unit_at b a.0 a.1
among-push b a [] = or_nil (is_unit_at b a.0 a.1)
  where
    or_nil : (p : Bool) → p || false ≡ p
    or_nil true = refl
    or_nil false = refl
among-push b a (c ∷ addresses) =
    ap (λ (p : Bool). is_unit_at b c.0 c.1 || p) (among-push b a addresses)
    ∙ or_assoc (is_unit_at b c.0 c.1) (is_among b addresses) (is_unit_at b a.0 a.1)
  where
    or_assoc : (p q r : Bool) → p || (q || r) ≡ (p || q) || r
    or_assoc true q r = refl
    or_assoc false q r = refl

-- the same seen from the other address
other_way : (a b : ℕ × ℕ) → is_unit_at a b.0 b.1 ≡ false → is_unit_at b a.0 a.1 ≡ false
other_way a b e =
    is_unit_at-other a b
    (λ same. true≢false (sym (ap (λ (x : ℕ × ℕ). is_unit_at a x.0 x.1) same ∙ is_unit_at-self a) ∙ e))

distinct-push : (a : ℕ × ℕ) (addresses : List (ℕ × ℕ)) → AreDistinct addresses → is_among a addresses ≡ false
    → AreDistinct (addresses ++ a ∷ [])
distinct-push a [] distinct fresh = (refl, tt)
distinct-push a (b ∷ addresses) distinct fresh =
    let two = or_parts (is_unit_at a b.0 b.1) (is_among a addresses) fresh in (
      among-push b a addresses ∙ or_from (is_among b addresses) (is_unit_at b a.0 a.1) distinct.0 (other_way a b two.0),
      distinct-push a addresses distinct.1 two.1,
    )

-- with an address more
with-distinct : (a : ℕ × ℕ) (addresses : List (ℕ × ℕ)) → AreDistinct addresses → AreDistinct (with_address addresses a)
with-distinct a addresses distinct = by (is_among a addresses) refl
  where
    by : (here : Bool) → is_among a addresses ≡ here → AreDistinct (cond here addresses (addresses ++ a ∷ []))
    by true e = distinct
    by false e = distinct-push a addresses distinct e

-- an address is among them if it was, or is the new one
with-among : (b a : ℕ × ℕ) (addresses : List (ℕ × ℕ))
    → is_among b (with_address addresses a) ≡ is_among b addresses || is_unit_at b a.0 a.1
with-among b a addresses = by (is_among a addresses) refl
  where
    or_same : (p q : Bool) → (q ≡ true → p ≡ true) → p ≡ p || q
    or_same true q h = refl
    or_same false true h = h refl
    or_same false false h = refl

    by : (here : Bool) → is_among a addresses ≡ here
        → is_among b (cond here addresses (addresses ++ a ∷ [])) ≡ is_among b addresses || is_unit_at b a.0 a.1
    by true e =
        or_same (is_among b addresses) (is_unit_at b a.0 a.1)
        (λ is. ap (λ (x : ℕ × ℕ). is_among x addresses) (is_unit_at-is b a is) ∙ e)
    by false e = among-push b a addresses

noted-among : (b : ℕ × ℕ) (addresses : List (ℕ × ℕ)) (found : Option (ℕ × ℕ))
    → is_among b (noted_one addresses found) ≡ is_among b addresses || is_address b found
noted-among b addresses None = or_nil (is_among b addresses)
  where
    or_nil : (p : Bool) → p ≡ p || false
    or_nil true = refl
    or_nil false = refl
noted-among b addresses (Some a) = with-among b a addresses

noted-distinct : (addresses : List (ℕ × ℕ)) (found : Option (ℕ × ℕ)) → AreDistinct addresses
    → AreDistinct (noted_one addresses found)
noted-distinct addresses None distinct = distinct
noted-distinct addresses (Some a) distinct = with-distinct a addresses distinct

-- ---- all of them

pub none_named : AreAddresses [] []
none_named = record {
  distinct = tt;
  named = λ a h. absurd (h refl);
  only = λ a e. absurd (true≢false (sym e));
}

longer : (l m : List UnitEntry) → l ≢ [] → l ++ m ≢ []
longer [] m h e = h refl
longer (x ∷ l) m h e = absurd cc

longer_right : (l m : List UnitEntry) → m ≢ [] → l ++ m ≢ []
longer_right [] m h e = h e
longer_right (x ∷ l) m h e = absurd cc

pub one_noted : (records : List RecordData) (addresses : List (ℕ × ℕ)) (r : RecordData) → AreAddresses records addresses
    → AreAddresses (records ++ r ∷ []) (noted addresses r)
one_noted records addresses r are = record {
  distinct = noted-distinct addresses (address_named r) are.distinct;
  named = λ a h.
      noted-among a addresses (address_named r) ∙ named_by a (own_of a records) refl (λ e. h (own_more a ∙ e));
  only = λ a e f.
      only_by a (is_among a addresses) refl (sym (noted-among a addresses (address_named r)) ∙ e)
      (sym (own_more a) ∙ f);
}
  where
    own_more : (a : ℕ × ℕ) → own_of a (records ++ r ∷ []) ≡ own_of a records ++ own_in a r
    own_more a =
        own_of-append a records (r ∷ [])
        ∙ ap (λ (l : List UnitEntry). own_of a records ++ l) (append-nil (own_in a r))

    or_second : (p q : Bool) → q ≡ true → p || q ≡ true
    or_second true q e = refl
    or_second false q e = e

    named_by : (a : ℕ × ℕ) (l : List UnitEntry) → own_of a records ≡ l → l ++ own_in a r ≢ []
        → is_among a addresses || is_address a (address_named r) ≡ true
    named_by a [] is h = or_second (is_among a addresses) (names a r) (own_names a r h)
    named_by a (x ∷ l) is h =
        or_left (is_among a addresses) (names a r) (are.named a (λ e. cc))

    only_by : (a : ℕ × ℕ) (here : Bool) → is_among a addresses ≡ here → here || is_address a (address_named r) ≡ true
        → own_of a records ++ own_in a r ≡ [] → ⊥
    only_by a true here e f = longer (own_of a records) (own_in a r) (are.only a here) f
    only_by a false here e f = longer_right (own_of a records) (own_in a r) (named_own a r e) f

-- ---- distinct addresses

not_at : (a : ℕ × ℕ) (addresses : List (ℕ × ℕ)) (i : ℕ) (d : ℕ × ℕ) → i < length addresses
    → is_among a addresses ≡ false → is_unit_at a (get_or addresses i d).0 (get_or addresses i d).1 ≡ false
not_at a [] i d lt fresh = absurd (omega (arith, lt))
not_at a (b ∷ addresses) zero d lt fresh = (or_parts (is_unit_at a b.0 b.1) (is_among a addresses) fresh).0
not_at a (b ∷ addresses) (suc i) d lt fresh =
    not_at a addresses i d (omega (arith, lt)) (or_parts (is_unit_at a b.0 b.1) (is_among a addresses) fresh).1

-- an address is not among those before it
pub distinct_at : (addresses : List (ℕ × ℕ)) (i : ℕ) (d : ℕ × ℕ) → i < length addresses → AreDistinct addresses
    → is_among (get_or addresses i d) (take i addresses) ≡ false
distinct_at [] i d lt distinct = absurd (omega (arith, lt))
distinct_at (b ∷ addresses) zero d lt distinct = refl
distinct_at (b ∷ addresses) (suc i) d lt distinct =
    let near : i < length addresses = omega (arith, lt) in
    or_from (is_unit_at (get_or addresses i d) b.0 b.1) (is_among (get_or addresses i d) (take i addresses))
    (other_way b (get_or addresses i d) (not_at b addresses i d near distinct.0))
    (distinct_at addresses i d near distinct.1)

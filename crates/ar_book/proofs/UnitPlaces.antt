-- A unit's place in order of making.
use Rattle.std.proofs.Common.{◌≡◌, ℕ, ◌<◌, false, not, Some, IsSome, List, length, get_or, slice_get, sym, ap, ◌∙◌}
use Rattle.std.proofs.Common.{arith}
use Rattle.std.specs.List.{IsDistinct, position_or_len}
use Rattle.std.specs.Map.{lookup, keys_of}
use Rattle.std.specs.Option.{option_map}
use Rattle.std.proofs.lemmas.Option.{slice_get-map, slice_get_within, get_or_from_slice_get}
use Rattle.std.proofs.lemmas.List.Sums.{prefix_len_is}
use Rattle.std.proofs.lemmas.Map.Keys.{apart_from_distinct}
use Rattle.std.proofs.lemmas.Map.Entries.{place_from_lookup, length-keys_of}
use Rattle.ar_disks.specs.declared.address.Addr.{Addr}
use Rattle.ar_disks.specs.Addresses.{same_addr}
use Rattle.ar_book.specs.Tables.{UnitTableState, unit_in}
use Rattle.ar_disks.proofs.Addresses.{addr_same, same_addr_self, same_addr_flips}
use Rattle.ar_book.proofs.UnitLemmas.{found_in}

-- a unit's place is the one that its entry has
own_place : (us : List (Addr × UnitTableState)) (place : ℕ) (b : Addr) (u : UnitTableState)
    → IsDistinct same_addr (keys_of us) → slice_get us place ≡ Some (b, u)
    → position_or_len (same_addr b) (keys_of us) ≡ place
own_place us place b u distinct at =
    let inside : place < length us = slice_get_within us place (b, u) at in
    let size : length (keys_of us) ≡ length us = length-keys_of us in
    let key : slice_get (keys_of us) place ≡ Some b =
    slice_get-map (λ (e : Addr × UnitTableState). e.0) us place
    ∙ ap (λ o. option_map (λ (e : Addr × UnitTableState). e.0) o) at in
    let here : get_or (keys_of us) place b ≡ b = get_or_from_slice_get (keys_of us) place b b key in
    prefix_len_is (λ x. not (same_addr b x)) (keys_of us) place b (omega arith)
    (λ k h.
    let apart : same_addr (get_or (keys_of us) k b) (get_or (keys_of us) place b) ≡ false =
    apart_from_distinct same_addr (keys_of us) k place b distinct h (omega arith) in
    ap not (same_addr_flips b (get_or (keys_of us) k b) ∙ ap (λ x. same_addr (get_or (keys_of us) k b) x) (sym here)
    ∙ apart))
    (λ h. ap not (ap (λ x. same_addr b x) here ∙ same_addr_self b))

-- a unit that is there has a place
pub some_place : (us : List (Addr × UnitTableState)) (a : Addr) → IsDistinct same_addr (keys_of us)
    → IsSome (lookup (same_addr a) us) → (u : UnitTableState)
    × (slice_get us (position_or_len (same_addr a) (keys_of us)) ≡ Some (a, u))
some_place us a distinct there =
    let p = place_from_lookup (same_addr a) us (unit_in us a) (found_in us a there) in
    let same : a ≡ p.1 = addr_same a p.1 p.3 in
    let at : slice_get us p.0 ≡ Some (a, unit_in us a) = p.2 ∙ ap (λ b. Some (b, unit_in us a)) (sym same) in
    (unit_in us a, ap (λ i. slice_get us i) (own_place us p.0 a (unit_in us a) distinct at) ∙ at)

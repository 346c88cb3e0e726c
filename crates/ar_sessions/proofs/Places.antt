-- Seats in their places.
use Rattle.std.proofs.Common.{◌≡◌, ◌<◌, ℕ, get_or, subst, [], ◌∷◌, length, set, Option, Some, None, IfSome, refl, sym}
use Rattle.std.proofs.Common.{ap, ◌∙◌, arith}
use Rattle.std.proofs.lemmas.List.{get_or_default, length-set}
use Rattle.ar_served.specs.Seat.{SeatState}
use Rattle.ar_sessions.specs.Desk.{Places, seat_at, AreOwn}

-- what lies in a place is its own host's seat
pub own_in : (places : Places) (number i : ℕ) (other found : Option SeatState) → AreOwn places → number < 4 → i ≡ number
    → found ≡ get_or places i other → IfSome found (λ seat. seat.host.number ≡ number)
own_in places number i other None own few same is = tt
own_in places number i other (Some seat) own few same is =
    own.own number seat
    (get_or_default places number None other (omega (arith, few, own.four))
    ∙ ap (λ (k : ℕ). get_or places k other) (sym same) ∙ sym is)

-- four places from which four seats were taken, one after the other
four_taken : (p : Places) (a b c d : SeatState) → length p ≡ 4 → seat_at p 0 ≡ Some a
    → seat_at (set p 0 None) 1 ≡ Some b
    → seat_at (set (set p 0 None) 1 None) 2 ≡ Some c → seat_at (set (set (set p 0 None) 1 None) 2 None) 3 ≡ Some d
    → p ≡ Some a ∷ Some b ∷ Some c ∷ Some d ∷ []
four_taken [] a b c d len first second third fourth = absurd (omega arith)
four_taken (w ∷ []) a b c d len first second third fourth = absurd (omega arith)
four_taken (w ∷ x ∷ []) a b c d len first second third fourth = absurd (omega arith)
four_taken (w ∷ x ∷ y ∷ []) a b c d len first second third fourth = absurd (omega arith)
four_taken (w ∷ x ∷ y ∷ z ∷ []) a b c d len first second third fourth = cc
four_taken (w ∷ x ∷ y ∷ z ∷ v ∷ more) a b c d len first second third fourth = absurd (omega arith)

-- the same, by the places after each
pub four_places : (p q r s t : Places) (a b c d : SeatState) → q ≡ set p 0 None → r ≡ set q 1 None → s ≡ set r 2 None
    → t ≡ set s 3 None
    → length t ≡ 4 → seat_at p 0 ≡ Some a → seat_at q 1 ≡ Some b → seat_at r 2 ≡ Some c → seat_at s 3 ≡ Some d
    → p ≡ Some a ∷ Some b ∷ Some c ∷ Some d ∷ []
four_places p q r s t a b c d q_is r_is s_is t_is len first second third fourth =
    let r_from : r ≡ set (set p 0 None) 1 None = r_is ∙ ap (λ (x : Places). set x 1 None) q_is in
    let s_from : s ≡ set (set (set p 0 None) 1 None) 2 None = s_is ∙ ap (λ (x : Places). set x 2 None) r_from in
    let t_from : t ≡ set (set (set (set p 0 None) 1 None) 2 None) 3 None =
    t_is ∙ ap (λ (x : Places). set x 3 None) s_from in
    let long : length t ≡ length p = ap length t_from ∙ simp length-set refl in
    four_taken p a b c d (sym long ∙ len) first (subst (λ (x : Places). seat_at x 1 ≡ Some b) q_is second)
    (subst (λ (x : Places). seat_at x 2 ≡ Some c) r_from third)
    (subst (λ (x : Places). seat_at x 3 ≡ Some d) s_from fourth)

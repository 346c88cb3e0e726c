-- Slots are equal where their numbers are.
use Rattle.std.proofs.Common.{◌≡◌, ◌≢◌, ◌⊎◌, ap, inl, inr}
use Rattle.std.proofs.lemmas.Bool.Decides.{eqb_tells}
use Rattle.ar_book.specs.declared.class.Slot.{Slot}

pub make_slot : (s r : Slot) → s.group ≡ r.group → s.slot ≡ r.slot → s ≡ r
make_slot s r p q = λ i. record { group = p i; slot = q i }

pub slot_tells : (s r : Slot) → (s ≡ r) ⊎ (s ≢ r)
slot_tells s r =
    elim (eqb_tells s.group r.group) [
      | inl g ↦ elim (eqb_tells s.slot r.slot) [
        | inl e ↦ inl (make_slot s r g.1 e.1)
        | inr n ↦
            inr (λ e. n.1 (ap (λ x. x.slot) e))
      ]
      | inr n ↦ inr (λ e. n.1 (ap (λ x. x.group) e))
    ]

-- Homes and slots stay inverse to each other.
use Rattle.std.proofs.Common.{◌≡◌, ◌≢◌, ◌⊎◌, Option, None, Some, List, sum_by, sym, ap, subst, ◌∙◌, inl, inr}
use Rattle.std.specs.Map.{values_of}
use Rattle.std.proofs.lemmas.Option.{none-some, same_Some}
use Rattle.ar_disks.specs.declared.address.Addr.{Addr}
use Rattle.ar_disks.specs.declared.address.Key.{Key}
use Rattle.ar_book.specs.declared.class.Slot.{Slot}
use Rattle.ar_book.specs.Tables.{GroupState, UnitTableState, key_in, home_in, used, placed}
use Rattle.ar_book.specs.Book.{Agree}
use Rattle.ar_disks.proofs.Addresses.{key_tells}
use Rattle.ar_book.proofs.Keys.{slot_tells}

pub home_tells : (o : Option Slot) (s : Slot) → (o ≡ Some s) ⊎ (o ≢ Some s)
home_tells None s = inr (λ e. none-some s e)
home_tells (Some r) s = elim (slot_tells r s) [ inl e ↦ inl (ap Some e) | inr n ↦ inr (λ e. n (same_Some r s e)) ]

-- where no reading changes
pub agree_same : (gs gs' : List GroupState) (us us' : List (Addr × UnitTableState)) → Agree gs us
    → ((s : Slot) → key_in gs' s ≡ key_in gs s) → ((k : Key) → home_in us' k ≡ home_in us k)
    → sum_by used gs' ≡ sum_by used gs → sum_by placed (values_of us') ≡ sum_by placed (values_of us) → Agree gs' us'
agree_same gs gs' us us' ok keys homes count total = record {
  to_slot = λ k s e. keys s ∙ ok.to_slot k s (sym (homes k) ∙ e);
  to_home = λ k s e. homes k ∙ ok.to_home k s (sym (keys s) ∙ e);
  counted = count ∙ ok.counted ∙ sym total;
}

-- where one block has another home, or none, and leaves the one that it had
module _ (gs gs' : List GroupState) (us us' : List (Addr × UnitTableState)) (k : Key) (o : Option Slot) where
  pub agree_move : Agree gs us
      → ((s : Slot) → o ≡ Some s → key_in gs s ≡ None)
      → home_in us' k ≡ o
      → ((j : Key) → j ≢ k → home_in us' j ≡ home_in us j)
      → ((s : Slot) → o ≡ Some s → key_in gs' s ≡ Some k)
      → ((s : Slot) → home_in us k ≡ Some s → o ≢ Some s → key_in gs' s ≡ None)
      → ((s : Slot) → o ≢ Some s → home_in us k ≢ Some s → key_in gs' s ≡ key_in gs s)
      → sum_by used gs' ≡ sum_by placed (values_of us')
      → Agree gs' us'
  agree_move ok free here others new gone kept counted = record {
    to_slot = λ j r e. elim (key_tells j k) [
      | inl q ↦ subst (λ x. key_in gs' r ≡ Some x) (sym q) (new r (sym here ∙ ap (λ x. home_in us' x) (sym q) ∙ e))
      | inr n ↦
          let f : home_in us j ≡ Some r = sym (others j n) ∙ e in
          let g : key_in gs r ≡ Some j = ok.to_slot j r f in
          kept r (λ h. none-some j (sym (free r h) ∙ g)) (λ h. n (same_Some j k (sym g ∙ ok.to_slot k r h))) ∙ g
    ];
    to_home = λ j r e. elim (home_tells o r) [
      | inl h ↦
          let q : k ≡ j = same_Some k j (sym (new r h) ∙ e) in
          ap (λ x. home_in us' x) (sym q) ∙ here ∙ h
      | inr n ↦ elim (home_tells (home_in us k) r) [
        | inl h ↦ absurd (none-some j (sym (gone r h n) ∙ e))
        | inr m ↦
            let f : home_in us j ≡ Some r = ok.to_home j r (sym (kept r n m) ∙ e) in
            others j (λ q. m (ap (λ x. home_in us x) (sym q) ∙ f)) ∙ f
      ]
    ];
    counted = counted;
  }

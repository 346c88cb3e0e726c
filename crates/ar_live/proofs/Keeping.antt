-- How a history goes on being what the array holds.
use Rattle.std.proofs.Common.{◌≡◌, ◌⊎◌, ℕ, zero, suc, Bool, true, false, cond, ◌<◌, ◌≤◌, Some, List, [], ◌∷◌, ◌++◌}
use Rattle.std.proofs.Common.{take, refl, sym, ap, subst, ◌∙◌, inl, inr}
use Rattle.std.specs.Prelude.{slice_get, max, if◌then◌else◌}
use Rattle.std.proofs.lemmas.Bool.{cases_lt}
use Rattle.ar_unit.specs.Unit.{UnitState, Absent, Present, UnitEntry, Make as UnitMake, Grow as UnitGrow}
use Rattle.ar_unit.specs.Unit.{Remove as UnitRemove, Cmd as UnitCmd, Unmap as UnitUnmap, after, unit_run}
use Rattle.ar_unit.specs.Broken.{Shape, shape_of}
use Rattle.ar_unit.proofs.Laws.{unit_run-append, after-shape}
use Rattle.ar_volume.specs.Sectors.{Address, same_address}
use Rattle.ar_disks.specs.declared.address.Addr.{Addr}
use Rattle.ar_book.specs.Tables.{UnitTableState, has_unit_in}
use Rattle.ar_volume.specs.Image.{ArrayState, image, image_at, at_numbers, at_address}
use Rattle.ar_volume.proofs.Images.{image_absent}
use Rattle.ar_core.specs.Events.{Event, Outcome}
use Rattle.ar_core.specs.Step.{Steps, entry_at}
use Rattle.ar_core.proofs.Causes.{was_sound}
use Rattle.ar_served.specs.declared.entry.Entry.{Entry}
use Rattle.ar_served.specs.History.{address_in, unit_entry, entries_at, replay, Fits, IsLegal}
use Rattle.ar_served.specs.Kept.{SameLength, HistoryAgrees}

-- what one entry is to the unit at an address
abbrev pub one_at : Address → Entry → List UnitEntry
one_at a entry = if same_address (address_in entry) a then unit_entry entry ∷ [] else []

by_test : (b : Bool) (e : UnitEntry) (es more : List UnitEntry)
    → cond b (e ∷ es ++ more) (es ++ more) ≡ cond b (e ∷ es) es ++ more
by_test true e es more = refl
by_test false e es more = refl

-- the entries of a history that is put together
pub entries_at-append : (a : Address) (history more : List Entry)
    → entries_at a (history ++ more) ≡ entries_at a history ++ entries_at a more
entries_at-append a [] more = refl
entries_at-append a (entry ∷ history) more =
    ap (λ (l : List UnitEntry). cond (same_address (address_in entry) a) (unit_entry entry ∷ l) l)
    (entries_at-append a history more)
    ∙ by_test (same_address (address_in entry) a) (unit_entry entry) (entries_at a history) (entries_at a more)

-- the unit after one entry more
pub replay_more : (history : List Entry) (entry : Entry) (a : Address)
    → replay (history ++ entry ∷ []) a ≡ unit_run (replay history a) (one_at a entry)
replay_more history entry a =
    ap (λ (l : List UnitEntry). unit_run Absent l) (entries_at-append a history (entry ∷ []))
    ∙ unit_run-append Absent (entries_at a history) (one_at a entry)

-- an element of a list with one more at its end is that one, or was there before it
pub last_or_before : {X : Type 0} (xs : List X) (y : X) (k : ℕ) (x : X) → slice_get (xs ++ y ∷ []) k ≡ Some x
    → ((slice_get xs k ≡ Some x) × (take k (xs ++ y ∷ []) ≡ take k xs)) ⊎ ((y ≡ x) × (take k (xs ++ y ∷ []) ≡ xs))
last_or_before [] y zero x is = inr (cc is, refl)
last_or_before [] y (suc k) x is = absurd (cc)
last_or_before (z ∷ xs) y zero x is = inl (is, refl)
last_or_before {X} (z ∷ xs) y (suc k) x is =
    elim (last_or_before xs y k x is) [
      | inl before ↦ inl (before.0, ap (λ (l : List X). z ∷ l) before.1)
      | inr last ↦ inr (last.0, ap (λ (l : List X). z ∷ l) last.1)
    ]

-- a legal history with an entry that fits is legal
pub legal_more : (history : List Entry) (entry : Entry) → IsLegal history
    → Fits (replay history (address_in entry)) entry → IsLegal (history ++ entry ∷ [])
legal_more history entry legal fit = record {
  fits = λ k x is.
      elim (last_or_before history entry k x is) [
        | inl before ↦ subst (λ (l : List Entry). Fits (replay l (address_in x)) x) (sym before.1)
            (legal.fits k x before.0)
        | inr last ↦
            subst (λ (l : List Entry). Fits (replay l (address_in x)) x) (sym last.1)
            (subst (λ (e : Entry). Fits (replay history (address_in e)) e) last.0 fit)
      ];
}

pub legal_none : IsLegal []
legal_none = record { fits = λ k entry is. absurd (cc) }

-- units that are alike stay so
pub lengths_after : (u v : UnitState) (entry : UnitEntry) → SameLength u v → SameLength (after u entry) (after v entry)
lengths_after u v (UnitMake n) same = record {
  present = ap (λ (s : Shape). s.present) (after-shape u (UnitMake n))
      ∙ sym (ap (λ (s : Shape). s.present) (after-shape v (UnitMake n)));
  sectors = ap (λ (s : Shape). s.sectors) (after-shape u (UnitMake n))
      ∙ sym (ap (λ (s : Shape). s.sectors) (after-shape v (UnitMake n)));
}
lengths_after u v UnitRemove same = record { present = refl; sectors = refl }
lengths_after u v (UnitCmd cdb bytes) same = record {
  present =
      ap (λ (s : Shape). s.present) (after-shape u (UnitCmd cdb bytes)) ∙ same.present
      ∙ sym (ap (λ (s : Shape). s.present) (after-shape v (UnitCmd cdb bytes)));
  sectors =
      ap (λ (s : Shape). s.sectors) (after-shape u (UnitCmd cdb bytes)) ∙ same.sectors
      ∙ sym (ap (λ (s : Shape). s.sectors) (after-shape v (UnitCmd cdb bytes)));
}
lengths_after u v (UnitUnmap lba count) same = record {
  present =
      ap (λ (s : Shape). s.present) (after-shape u (UnitUnmap lba count)) ∙ same.present
      ∙ sym (ap (λ (s : Shape). s.present) (after-shape v (UnitUnmap lba count)));
  sectors =
      ap (λ (s : Shape). s.sectors) (after-shape u (UnitUnmap lba count)) ∙ same.sectors
      ∙ sym (ap (λ (s : Shape). s.sectors) (after-shape v (UnitUnmap lba count)));
}
lengths_after Absent Absent (UnitGrow n) same = record { present = refl; sectors = refl }
lengths_after Absent (Present t m) (UnitGrow n) same = let p = same.present in absurd (cc)
lengths_after (Present s l) Absent (UnitGrow n) same = let p = same.present in absurd (cc)
lengths_after (Present s l) (Present t m) (UnitGrow n) same = record {
  present = refl;
  sectors =
      ap (λ (x : Shape). x.sectors) (after-shape (Present s l) (UnitGrow n)) ∙ ap (λ k. max k n) same.sectors
      ∙ sym (ap (λ (x : Shape). x.sectors) (after-shape (Present t m) (UnitGrow n)));
}

lengths_trans : (u v w : UnitState) → SameLength u v → SameLength v w → SameLength u w
lengths_trans u v w one two = record { present = one.present ∙ two.present; sectors = one.sectors ∙ two.sectors }

lengths_by : (u v : UnitState) → shape_of u ≡ shape_of v → SameLength u v
lengths_by u v same =
    record { present = ap (λ (s : Shape). s.present) same; sectors = ap (λ (s : Shape). s.sectors) same }

lengths_one : (b : Bool) (u v : UnitState) (entry : UnitEntry) → SameLength u v
    → SameLength (unit_run u (cond b (entry ∷ []) [])) (unit_run v (cond b (entry ∷ []) []))
lengths_one true u v entry same = lengths_after u v entry same
lengths_one false u v entry same = same

-- the history stays what the array holds where a step is nothing to any unit
pub kept_same : (old new : ArrayState) (event : Event) (outcome : Outcome) (history : List Entry)
    → HistoryAgrees old history → Steps old event outcome new
    → ((a : Address) → entry_at a event outcome ≡ []) → HistoryAgrees new history
kept_same old new event outcome history kept steps none = record {
  legal = kept.legal;
  images = λ now a.
      steps.images now a ∙ ap (λ (l : List UnitEntry). unit_run (image old a) l) (none a)
      ∙ kept.images (was_sound event old new steps.disks now) a;
  lengths = λ a.
      lengths_trans (image new a) (image old a) (replay history a)
      (lengths_by (image new a) (image old a) (steps.shapes a
      ∙ ap (λ (l : List UnitEntry). shape_of (unit_run (image old a) l)) (none a)))
      (kept.lengths a);
}

-- and with one entry more, where the step was that
pub kept_more : (old new : ArrayState) (event : Event) (outcome : Outcome) (history : List Entry) (entry : Entry)
    → HistoryAgrees old history → Steps old event outcome new
    → ((a : Address) → entry_at a event outcome ≡ one_at a entry) → Fits (replay history (address_in entry)) entry
    → HistoryAgrees new (history ++ entry ∷ [])
kept_more old new event outcome history entry kept steps one fit = record {
  legal = legal_more history entry kept.legal fit;
  images = λ now a.
      steps.images now a ∙ ap (λ (l : List UnitEntry). unit_run (image old a) l) (one a)
      ∙ ap (λ (u : UnitState). unit_run u (one_at a entry)) (kept.images (was_sound event old new steps.disks now) a)
      ∙ sym (replay_more history entry a);
  lengths = λ a.
      lengths_trans (image new a) (unit_run (image old a) (one_at a entry)) (replay (history ++ entry ∷ []) a)
      (lengths_by (image new a) (unit_run (image old a) (one_at a entry))
      (steps.shapes a ∙ ap (λ (l : List UnitEntry). shape_of (unit_run (image old a) l)) (one a)))
      (subst (λ (u : UnitState). SameLength (unit_run (image old a) (one_at a entry)) u)
      (sym (replay_more history entry a))
      (lengths_one (same_address (address_in entry) a) (image old a) (replay history a) (unit_entry entry)
      (kept.lengths a)));
}

-- an array without a unit has none at any address
none_at : (units : Addr → UnitState) (number lun : ℕ) (test : (number < 4) ⊎ (4 ≤ number))
    → ((addr : Addr) → units addr ≡ Absent) → at_numbers units number lun test ≡ Absent
none_at units number lun (inl is) none = none (record { host = record { number = number; in_range = is }; lun = lun })
none_at units number lun (inr high) none = refl

image_none : (s : ArrayState) → s.store.book.units ≡ [] → (a : Address) → image s a ≡ Absent
unfolding at_address
image_none s none (number, lun) =
    none_at (image_at s) number lun (cases_lt number 4)
    (λ addr. image_absent s addr (ap (λ (l : List (Addr × UnitTableState)). has_unit_in l addr) none))

-- and is what the empty history makes
pub kept_none : (s : ArrayState) → s.store.book.units ≡ [] → HistoryAgrees s []
kept_none s none = record {
  legal = legal_none;
  images = λ _ a. image_none s none a;
  lengths = λ a. lengths_by (image s a) Absent (ap shape_of (image_none s none a));
}

-- Which log a selector names, whatever a crash left of it.
use Rattle.std.proofs.Common.{◌≡◌, ◌⊎◌, inl, inr, ℕ, ◌≤◌, Bool, true, false, if◌then◌else◌, List, [], ◌∷◌, length}
use Rattle.std.proofs.Common.{refl, sym, ◌∙◌, ap, subst, arith}
use Rattle.ar_media.specs.Media.{Torn}
use Rattle.ar_journal.specs.Journal.{is_odd, chosen, Names, first_of, second_of}

pub chosen_named : (is_second : Bool) (s active other : List ℕ) → Names is_second s
    → chosen s (first_of is_second active other) (second_of is_second active other) ≡ active
chosen_named true s active other named =
    ap (λ (l : List ℕ). chosen l other active) named.1.1 ∙ ap (λ (b : Bool). if b then active else other) named.1.2
chosen_named false s active other named =
    ap (λ (l : List ℕ). chosen l active other) named.1.1 ∙ ap (λ (b : Bool). if b then other else active) named.1.2

-- what holds of the log that is named holds of the journal
pub of_named : (is_second : Bool) (s active other : List ℕ) (P : List ℕ → Type 0) → Names is_second s → P active
    → P (chosen s (first_of is_second active other) (second_of is_second active other))
of_named is_second s active other P named holds = subst P (sym (chosen_named is_second s active other named)) holds

-- a byte names one of the two
pub of_either : (is_second : Bool) (s active other : List ℕ) (P Q : List ℕ → Type 0) → 1 ≤ length s → P active → Q other
    → P (chosen s (first_of is_second active other) (second_of is_second active other)) ⊎ Q
    (chosen s (first_of is_second active other) (second_of is_second active other))
of_either is_second [] active other P Q some p q = absurd (omega (arith, some))
of_either true (byte ∷ rest) active other P Q some p q =
    elim (is_odd byte) as (λ (v : Bool). P (if v then active else other) ⊎ Q (if v then active else other))
    [ true ↦ inl p | false ↦ inr q ]
of_either false (byte ∷ rest) active other P Q some p q =
    elim (is_odd byte) as (λ (v : Bool). P (if v then other else active) ⊎ Q (if v then other else active))
    [ true ↦ inr q | false ↦ inl p ]

-- no byte is none, and any other is one of two logs that both hold P
pub none_or_both : (s first second : List ℕ) (P : List ℕ → Type 0) → P first → P second
    → (s ≡ []) ⊎ P (chosen s first second)
none_or_both [] first second P p q = inl refl
none_or_both (byte ∷ rest) first second P p q =
    inr (elim (is_odd byte) as (λ (v : Bool). P (if v then second else first)) [ true ↦ q | false ↦ p ])

-- a torn name is a name
pub torn_some : (is_second : Bool) (d s : List ℕ) → Names is_second d → Torn 0 1 d s → 1 ≤ length s
torn_some is_second d s named torn = omega (arith, ap length named.1.1, torn.no_shorter)

pub named_some : (is_second : Bool) (s : List ℕ) → Names is_second s → 1 ≤ length s
named_some is_second s named = omega (arith, ap length named.1.1)

-- What an operation that was done leaves of a stored history.
use Rattle.std.proofs.Common.{◌≡◌, Bool, true, cond, List, [], ◌∷◌, ◌++◌, ap, ◌∙◌}
use Rattle.ar_core.specs.Events.{Event, Outcome}
use Rattle.ar_served.specs.declared.entry.Entry.{Entry}
use Rattle.ar_served.specs.Kept.{history_entry}
use Rattle.ar_live.specs.Live.{is_done}

-- so a stored history that is the ghost one stays so
pub grown_done : (event : Event) (outcome : Outcome) (was items now : List Entry) (entry : Entry) → was ≡ items
    → now ≡ was ++ history_entry event outcome
    → history_entry event outcome ≡ cond (is_done outcome) (entry ∷ []) [] → is_done outcome ≡ true
    → now ≡ items ++ entry ∷ []
grown_done event outcome was items now entry same grown one done =
    grown ∙ ap (λ (l : List Entry). l ++ history_entry event outcome) same ∙ ap (λ (l : List Entry). items ++ l) one
    ∙ ap (λ (b : Bool). items ++ cond b (entry ∷ []) []) done

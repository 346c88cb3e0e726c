-- How the connections of a door ended, by what became of them.
use Rattle.std.proofs.Common.{inl, inr, List, [], ◌∷◌, Option, Some, refl, sym, subst}
use Rattle.std.specs.List.{AllZip}
use Rattle.ar_cache.specs.Backing.{InTurn}
use Rattle.ar_frames.specs.declared.end.SessionEnd.{SessionEnd}
use Rattle.ar_sessions.specs.declared.sessions.ConnectionEnd.{ConnectionEnd}
use Rattle.ar_sessions.specs.declared.sessions.ConnectionEnd.TheVariants.{Served, NoThread}
use Rattle.ar_sessions.specs.declared.sessions.Pending.{Pending}
use Rattle.ar_sessions.specs.declared.sessions.Pending.TheVariants as pending
use Rattle.ar_sessions.specs.Ends.{IsBegun, Becomes, ConnectionEnds, EndOf}

module _ {D P H : Type 0} (opens : D → Option P → D → Type 0) (keeps : H → SessionEnd → Type 0) (served : P → SessionEnd
    → Type 0) where
  -- one that was opened, and was begun with a thread that keeps an end of it, or with none
  pub became : (is : H → Type 0) (this : Pending H) (a b : D) (pair : P) → opens a (Some pair) b
      → ((handle : H) → is handle → (end : SessionEnd) → keeps handle end → served pair end) → IsBegun is this
      → Becomes opens keeps served a this b
  became is (pending.Served handle) a b pair opened kept begun =
      record { pair = pair; opened = opened; kept = kept handle begun }
  became is pending.Unopened a b pair opened kept begun = absurd begun
  became is pending.NoThread a b pair opened kept begun = record { pair = pair; opened = opened }

  -- one connection
  ended : (this : Pending H) (end : ConnectionEnd) (a b : D) → Becomes opens keeps served a this b
      → EndOf keeps this end
      → ConnectionEnds opens served a end b
  ended (pending.Served handle) (Served end) a b thread kept =
      inl (record { pair = thread.pair; opened = thread.opened; ended = thread.kept end kept })
  ended (pending.Served handle) NoThread a b thread none = absurd none
  ended pending.Unopened end a b not is = subst (λ e. ConnectionEnds opens served a e b) (sym is) (inr (not, refl))
  ended pending.NoThread end a b opened is = subst (λ e. ConnectionEnds opens served a e b) (sym is) opened

  -- all of them
  pub all_ended : (these : List (Pending H)) (ends : List ConnectionEnd) (a b : D)
      → InTurn (Becomes opens keeps served) these a b
      → AllZip (EndOf keeps) these ends → InTurn (ConnectionEnds opens served) ends a b
  all_ended [] [] a b became are = became
  all_ended [] (end ∷ ends) a b became are = absurd are
  all_ended (this ∷ these) [] a b became are = absurd are
  all_ended (this ∷ these) (end ∷ ends) a b became are =
      (became.0, ended this end a became.0 became.1 are.0, all_ended these ends became.0 b became.2 are.1)

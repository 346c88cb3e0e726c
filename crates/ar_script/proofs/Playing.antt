-- One line after another.
use Rattle.std.proofs.Common.{◌≡◌, ◌≢◌, ◌⊎◌, inl, inr, ℕ, List, [], ◌∷◌, ◌++◌, Option, Some, None, Result, Ok, Err, map}
use Rattle.std.proofs.Common.{codes, append_assoc, append-nil, refl, sym, ap, subst, ◌∙◌}
use Rattle.ar_store.proofs.Fills.{accessed_refl}
use Rattle.ar_volume.specs.Image.{ArrayState, geometry_of}
use Rattle.ar_volume.specs.Laws.{places_refl}
use Rattle.ar_core.specs.Quiet.{LooksAt}
use Rattle.ar_core.specs.Run.{Turn, Did, Looked, last_of, Meets}
use Rattle.ar_core.proofs.Isolation.{run-isolated, run-more, last_of-more}
use Rattle.ar_language.specs.declared.fault.FaultKind.{FaultKind}
use Rattle.ar_language.specs.declared.fault.FaultKind.TheVariants.{WriteFault}
use Rattle.ar_language.specs.declared.order.Action.{Action}
use Rattle.ar_language.specs.declared.order.Order.{Order}
use Rattle.ar_language.specs.declared.order.Order.TheVariants.{Act, Ask}
use Rattle.ar_language.specs.declared.order.Question.{Question}
use Rattle.ar_language.specs.declared.order.Question.TheVariants.{Levels, Home, Groups, Room, Health, Picture, Block}
use Rattle.ar_language.specs.Forms.{ReadsLine}
use Rattle.ar_language.specs.Lines.{IsLine}
use Rattle.std.specs.Fmt.{decimal}
use Rattle.std.specs.Io.KnownBytes.{Appends}
use Rattle.ar_book.specs.Tables.{room}
use Rattle.ar_core.specs.Views.{home_of, use_of}
use Rattle.ar_language.specs.Notations.{notation_in}
use Rattle.ar_answers.specs.Answers.{IsAnswerTo}
use Rattle.ar_answers.specs.Orders.{event_in, Acts, IsOrderFault, Leaves, Looks, TakesMemory}
use Rattle.ar_answers.specs.Texts.{groups_text, health_text, home_text, levels_text, line as line_of, outcome_text}
use Rattle.ar_answers.specs.Texts.{row_text}
use Rattle.ar_script.specs.Answers.{IsAnsweredBy}
use Rattle.ar_script.specs.Orders.{MeetsParsed}
use Rattle.ar_script.proofs.Appending.{appends_none}
use Rattle.ar_script.specs.Plays.{ExecutesLine, HasNoOrder, AreMet, IsLostAt, Plays}

-- no line at all
pub none_played : (s : ArrayState) → Plays [] s s []
none_played s = record {
  turns = [];
  run = record { states = []; run = tt; last = refl; isolated = run-isolated s [] [] tt };
  met = refl;
  geometry = refl;
  extents = refl;
}

-- one more line that asks for nothing
nothing-more : (lines : List (List ℕ)) (old : ArrayState) (turns : List Turn) (states : List ArrayState)
    (text line : List ℕ) → AreMet lines old turns states text
    → HasNoOrder line → AreMet (lines ++ line ∷ []) old turns states text
nothing-more [] old [] [] text line all one = (one, all)
nothing-more [] old [] (s ∷ states) text line all one = absurd all
nothing-more [] old (t ∷ turns) states text line all one = absurd all
nothing-more (l ∷ lines) old [] [] text line all one = (all.0, nothing-more lines old [] [] text line all.1 one)
nothing-more (l ∷ lines) old [] (s ∷ states) text line all one = absurd all
nothing-more (l ∷ lines) old (t ∷ turns) [] text line all one = absurd all
nothing-more (l ∷ lines) old (t ∷ turns) (s ∷ states) text line all one =
    elim all [
      | inl none ↦ inl (none.0, nothing-more lines old (t ∷ turns) (s ∷ states) text line none.1 one)
      | inr some ↦ inr (some.0, some.1, some.2, some.3, nothing-more lines s turns states some.1 line some.4 one)
    ]

-- one more line, its turn and its answer
met-more : (lines : List (List ℕ)) (old : ArrayState) (turns : List Turn) (states : List ArrayState)
    (text line : List ℕ) (turn : Turn) (new : ArrayState) (answer : List ℕ)
    → AreMet lines old turns states text → ExecutesLine line (last_of old states) turn new answer
    → AreMet (lines ++ line ∷ []) old (turns ++ turn ∷ []) (states ++ new ∷ []) (text ++ answer)
met-more [] old [] [] text line turn new answer all one =
    inr (answer, [], ap (λ (t : List ℕ). t ++ answer) all ∙ sym (append-nil answer), one, refl)
met-more [] old [] (s ∷ states) text line turn new answer all one = absurd all
met-more [] old (t ∷ turns) states text line turn new answer all one = absurd all
met-more (l ∷ lines) old [] [] text line turn new answer all one =
    inl (all.0, met-more lines old [] [] text line turn new answer all.1 one)
met-more (l ∷ lines) old [] (s ∷ states) text line turn new answer all one = absurd all
met-more (l ∷ lines) old (t ∷ turns) [] text line turn new answer all one = absurd all
met-more (l ∷ lines) old (t ∷ turns) (s ∷ states) text line turn new answer all one =
    elim all [
      | inl none ↦ inl (none.0, met-more lines old (t ∷ turns) (s ∷ states) text line turn new answer none.1 one)
      | inr some ↦
          inr (
            some.0,
            some.1 ++ answer,
            ap (λ (t : List ℕ). t ++ answer) some.2 ∙ append_assoc some.0 some.1 answer,
            some.3,
            met-more lines s turns states some.1 line turn new answer some.4 one,
          )
    ]

-- lines and one line more
more : (lines : List (List ℕ)) (old mid new : ArrayState) (line : List ℕ) (turn : Turn) (text answer : List ℕ)
    → Plays lines old mid text → ExecutesLine line mid turn new answer
    → Meets mid turn new → geometry_of new ≡ geometry_of mid → new.store.disks.extents ≡ mid.store.disks.extents
    → Plays (lines ++ line ∷ []) old new (text ++ answer)
more lines old mid new line turn text answer before asks meets geometry extents =
    let states = before.run.states in
    let run = run-more before.turns states old turn new before.run.run
    (subst (λ (s : ArrayState). Meets s turn new) (sym before.run.last) meets) in
    record {
      turns = before.turns ++ turn ∷ [];
      run = record {
        states = states ++ new ∷ [];
        run = run;
        last = last_of-more states old new;
        isolated = run-isolated old (before.turns ++ turn ∷ []) (states ++ new ∷ []) run;
      };
      met = met-more lines old before.turns states text line turn new answer before.met
          (subst (λ (s : ArrayState). ExecutesLine line s turn new answer) (sym before.run.last) asks);
      geometry = geometry ∙ before.geometry;
      extents = extents ∙ before.extents;
    }

-- an array that nothing was done to was looked at
looks_refl : (old new : ArrayState) → new ≡ old → LooksAt old new
looks_refl old new same = subst (λ (s : ArrayState). LooksAt old s) (sym same)
    (record {
      places = places_refl old;
      accessed = accessed_refl old.store.disks;
      seen = λ _. record { same = λ k. refl };
    })

looked : (question : Question) (old new : ArrayState) → Looks question old new → LooksAt old new
looked (Levels addr) old new same = looks_refl old new same
looked (Home addr rb) old new same = looks_refl old new same
looked Groups old new same = looks_refl old new same
looked Room old new same = looks_refl old new same
looked Health old new same = looks_refl old new same
looked Picture old new same = looks_refl old new same
looked (Block disk extent row) old new reads = reads.looks

acted : (lines : List (List ℕ)) (old mid new : ArrayState) (line : List ℕ) (action : Action) (text answer : List ℕ)
    → Plays lines old mid text → IsLine line
    → ReadsLine line (Ok (Some (Act action))) → (acts : Acts action mid new)
    → answer ≡ outcome_text acts.outcome (notation_in action) → Plays (lines ++ line ∷ []) old new (text ++ answer)
acted lines old mid new line action text answer before sound reads acts said =
    more lines old mid new line (Did (event_in mid action) acts.outcome) text answer before
    (record { sound = sound; order = Act action; reads = reads; met = (refl, said) }) acts.steps
    acts.steps.disks.geometry acts.steps.disks.extents

asked : (lines : List (List ℕ)) (old mid new : ArrayState) (line : List ℕ) (question : Question) (text answer : List ℕ)
    → Plays lines old mid text → IsLine line
    → ReadsLine line (Ok (Some (Ask question))) → Looks question mid new → IsAnswerTo question mid new answer
    → Plays (lines ++ line ∷ []) old new (text ++ answer)
asked lines old mid new line question text answer before sound reads looks shows =
    let is : LooksAt mid new = looked question mid new looks in
    more lines old mid new line Looked text answer before
    (record { sound = sound; order = Ask question; reads = reads; met = (looks, shows) }) is
    is.accessed.follows.geometry is.accessed.follows.extents

unchanged : (lines : List (List ℕ)) (old mid new : ArrayState) (text : List ℕ) → Plays lines old mid text → new ≡ mid
    → Plays lines old new text
unchanged lines old mid new text before same = subst (λ (s : ArrayState). Plays lines old s text) (sym same) before

-- a line that asks for nothing
passed : (lines : List (List ℕ)) (old mid new : ArrayState) (line text : List ℕ) → Plays lines old mid text
    → HasNoOrder line → new ≡ mid → Plays (lines ++ line ∷ []) old new text
passed lines old mid new line text before nothing same =
    unchanged (lines ++ line ∷ []) old mid new text
    (record {
      turns = before.turns;
      run = before.run;
      met = nothing-more lines old before.turns before.run.states text line before.met nothing;
      geometry = before.geometry;
      extents = before.extents;
    })
    same

-- a line was executed, and its answer appended
pub record OneMore (lines : List (List ℕ)) (old new : ArrayState) (text : List ℕ) (before after : Option (List ℕ))
    : Type 0 where
  pub answer : List ℕ
  pub plays : Plays lines old new (text ++ answer)
  pub appends : Appends before after answer

-- a line that was answered was met
pub met_all : (lines : List (List ℕ)) (old mid new : ArrayState) (line text : List ℕ)
    (read : Result (Option Order) FaultKind) (before after : Option (List ℕ))
    → Plays lines old mid text → IsLine line → ReadsLine line read → IsAnsweredBy read mid new before after
    → OneMore (lines ++ line ∷ []) old new text before after
met_all lines old mid new line text (Ok None) before after plays sound reads answered = record {
  answer = [];
  plays = subst (λ (t : List ℕ). Plays (lines ++ line ∷ []) old new t) (sym (append-nil text))
      (passed lines old mid new line text plays (record { sound = sound; reads = reads }) answered.0);
  appends = subst (λ (o : Option (List ℕ)). Appends before o []) (sym answered.1) (appends_none before);
}
met_all lines old mid new line text (Ok (Some (Ask question))) before after plays sound reads answered = record {
  answer = answered.1.text;
  plays = asked lines old mid new line question text answered.1.text plays sound reads answered.0 answered.1.is;
  appends = answered.1.appends;
}
met_all lines old mid new line text (Ok (Some (Act action))) before after plays sound reads answered = record {
  answer = answered.1.text;
  plays = acted lines old mid new line action text answered.1.text plays sound reads answered.1.is.0 answered.1.is.1;
  appends = answered.1.appends;
}
met_all lines old mid new line text (Err kind) before after plays sound reads answered = absurd answered

-- a query changes nothing, or reads a row, which has a text
shown_for : (question : Question) (old new : ArrayState) → Looks question old new
    → (new ≡ old) ⊎ ((text : List ℕ) × IsAnswerTo question old new text)
shown_for (Levels addr) old new looks = inl looks
shown_for (Home addr rb) old new looks = inl looks
shown_for Groups old new looks = inl looks
shown_for Room old new looks = inl looks
shown_for Health old new looks = inl looks
shown_for Picture old new looks = inl looks
shown_for (Block disk extent row) old new looks = inr (row_text looks.shown looks.bytes, (looks, refl))

-- the array executed these lines, with any answers
pub record IsPlayed (lines : List (List ℕ)) (old new : ArrayState) : Type 0 where
  pub text : List ℕ
  pub plays : Plays lines old new text

acted_too : (lines : List (List ℕ)) (old mid new : ArrayState) (line : List ℕ) (action : Action) (text : List ℕ)
    → Plays lines old mid text → IsLine line
    → ReadsLine line (Ok (Some (Act action))) → Acts action mid new → IsPlayed (lines ++ line ∷ []) old new
acted_too lines old mid new line action text before sound reads acts =
    let answer = outcome_text acts.outcome (notation_in action) in
    record {
      text = text ++ answer;
      plays = acted lines old mid new line action text answer before sound reads acts
          refl;
    }

asked_too : (lines : List (List ℕ)) (old mid new : ArrayState) (line : List ℕ) (question : Question) (text : List ℕ)
    → Plays lines old mid text → IsLine line
    → ReadsLine line (Ok (Some (Ask question))) → Looks question mid new → (answer : List ℕ)
    → IsAnswerTo question mid new answer → IsPlayed (lines ++ line ∷ []) old new
asked_too lines old mid new line question text before sound reads looks answer shows =
    record {
      text = text ++ answer;
      plays = asked lines old mid new line question text answer before sound reads looks
          shows;
    }

-- an action for which memory was refused is none, and one whose answer couldn't be written was done
unacted : (lines : List (List ℕ)) (old mid new : ArrayState) (line : List ℕ) (action : Action) (kind : FaultKind)
    (text : List ℕ) → Plays lines old mid text
    → IsLine line → ReadsLine line (Ok (Some (Act action))) → Leaves (Act action) mid (Err kind) new
    → IsOrderFault (Act action) kind
    → Plays lines old new text ⊎ (IsPlayed (lines ++ line ∷ []) old new × IsLostAt line kind)
unacted lines old mid new line action kind text before sound reads leaves lost =
    let P : FaultKind → Type 0 = λ k. Leaves (Act action) mid (Err k) new in
    elim lost [
      | inl write ↦
          inr (acted_too lines old mid new line action text before sound reads (subst P write leaves), inl write)
      | inr memory ↦ inl (unchanged lines old mid new text before (subst P memory.0 leaves))
    ]

-- the answer to a question is lost where memory for it was refused, or it could not be written
unseen : (line : List ℕ) (question : Question) (kind : FaultKind) → ReadsLine line (Ok (Some (Ask question)))
    → IsOrderFault (Ask question) kind → IsLostAt line kind
unseen line question kind reads lost =
    elim lost [
      | inl write ↦ inl write
      | inr memory ↦
          inr (memory.0, record { question = question; reads = reads; takes = memory.1 })
    ]

-- a line that was answered with a fault was met and its answer lost, or nothing was done
pub met_or_not : (lines : List (List ℕ)) (old mid new : ArrayState) (line : List ℕ)
    (read : Result (Option Order) FaultKind) (kind : FaultKind) (text : List ℕ) → Plays lines old mid text
    → IsLine line → ReadsLine line read → MeetsParsed read mid (Err kind) new
    → Plays lines old new text ⊎ (IsPlayed (lines ++ line ∷ []) old new × IsLostAt line kind)
met_or_not lines old mid new line (Ok None) kind text before sound reads meets = let no = meets.0 in absurd (cc)
met_or_not lines old mid new line (Ok (Some (Ask question))) kind text before sound reads meets =
    elim (shown_for question mid new meets.0) [
      | inl same ↦ inl (unchanged lines old mid new text before same)
      | inr shown ↦
          inr (
            asked_too lines old mid new line question text before sound reads meets.0 shown.0 shown.1,
            unseen line question kind reads meets.1,
          )
    ]
met_or_not lines old mid new line (Ok (Some (Act action))) kind text before sound reads meets =
    unacted lines old mid new line action kind text before sound reads meets.0 meets.1
met_or_not lines old mid new line (Err other) kind text before sound reads meets =
    inl (unchanged lines old mid new text before meets.1)

-- a question for which memory was refused shows nothing
unasked : (question : Question) (old new : ArrayState) → Looks question old new → TakesMemory (Ask question) → new ≡ old
unasked (Levels addr) old new looks takes = looks
unasked (Home addr rb) old new looks takes = looks
unasked Groups old new looks takes = looks
unasked Room old new looks takes = looks
unasked Health old new looks takes = looks
unasked Picture old new looks takes = looks
unasked (Block disk extent row) old new looks takes = absurd takes

-- a line with a fault, but for a write fault, leaves the array as it was
pub unmet : (old new : ArrayState) (read : Result (Option Order) FaultKind) (kind : FaultKind)
    → MeetsParsed read old (Err kind) new → kind ≢ WriteFault → new ≡ old
unmet old new (Ok None) kind meets quiet = let no = meets.0 in absurd (cc)
unmet old new (Ok (Some (Ask question))) kind meets quiet =
    elim meets.1 [ inl write ↦ absurd (quiet write) | inr memory ↦ unasked question old new meets.0 memory.1 ]
unmet old new (Ok (Some (Act action))) kind meets quiet =
    let P : FaultKind → Type 0 = λ k. Leaves (Act action) old (Err k) new in
    elim meets.1 [ inl write ↦ absurd (quiet write) | inr memory ↦ subst P memory.0 meets.0 ]
unmet old new (Err other) kind meets quiet = meets.1

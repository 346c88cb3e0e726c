-- The run of a script on an array, line by line.
use Rattle.std.specs.Prelude.{◌≡◌, ◌⊎◌, ⊤, ℕ, ◌+◌, ◌<◌, ◌≤◌, max, false, List, [], ◌∷◌, ◌++◌, length, take, Option}
use Rattle.std.specs.Prelude.{Some, None, Result, Ok, Err, OnOk, IfErr}
use Rattle.std.specs.Io.KnownBytes.{Appends}
use Rattle.ar_disks.specs.Disk.{DiskState}
use Rattle.ar_volume.specs.Image.{ArrayState, geometry_of}
use Rattle.ar_volume.specs.Start.{IsStarted}
use Rattle.ar_core.specs.Run.{Turn, Did, Looked, IsRun}
use Rattle.ar_language.specs.declared.fault.Fault.{Fault}
use Rattle.ar_language.specs.declared.fault.Fault.TheVariants.{Start, Line}
use Rattle.ar_language.specs.declared.fault.FaultKind.{FaultKind}
use Rattle.ar_language.specs.declared.fault.FaultKind.TheVariants.{TooManyLines, NoMemory, ReadFault, WriteFault}
use Rattle.ar_language.specs.declared.order.Order.{Order}
use Rattle.ar_language.specs.declared.order.Order.TheVariants.{Act, Ask}
use Rattle.ar_language.specs.declared.order.Question.{Question}
use Rattle.std.specs.declared.io.traits.Read.{Ghosts}
use Rattle.ar_language.specs.declared.lines.Lines.{Lines}
use Rattle.ar_language.specs.Forms.{ReadsLine}
use Rattle.ar_language.specs.Left.{EndsReading}
use Rattle.ar_language.specs.Lines.{is_write_fault, line_fault, line_at, IsLine, IsOfStream, Took}
use Rattle.ar_language.specs.Notations.{notation_in}
use Rattle.ar_answers.specs.Answers.{IsAnswerTo}
use Rattle.ar_answers.specs.Orders.{event_in, Looks, TakesMemory}
use Rattle.ar_answers.specs.Texts.{outcome_text}

-- the order is executed in this step of a run, to this state, and answered by this text: an action as its event, a
-- query as a look at what it asks for alone
abbrev pub IsTurn : Order → ArrayState → Turn → ArrayState → List ℕ → Type 0
IsTurn (Act action) old (Did event outcome) new text =
    (event ≡ event_in old action) × (text ≡ outcome_text outcome (notation_in action))
IsTurn (Ask question) old Looked new text = Looks question old new × IsAnswerTo question old new text
IsTurn order old turn new text = ⊥

-- the line has no fault and asks for something, which is executed in this step and answered by this text
pub record ExecutesLine (line : List ℕ) (old : ArrayState) (turn : Turn) (new : ArrayState) (text : List ℕ)
    : Type 0 where
  pub sound : IsLine line
  pub order : Order
  pub reads : ReadsLine line (Ok (Some order))
  pub met : IsTurn order old turn new text

-- the line has no fault and asks for nothing
pub record HasNoOrder (line : List ℕ) : Type 0 where
  pub sound : IsLine line
  pub reads : ReadsLine line (Ok None)

-- the line's bytes have no fault, but its words have this one
pub record SaysWrong (line : List ℕ) (kind : FaultKind) : Type 0 where
  pub sound : IsLine line
  pub reads : ReadsLine line (Err kind)

-- These lines are executed in these steps, in order: each that asks for something in one step, and there is no other
-- step. From its first state the array goes through these states. The text is that of the answers, one after another.
abbrev pub AreMet : List (List ℕ) → ArrayState → List Turn → List ArrayState → List ℕ → Type 0
AreMet [] old [] [] text = text ≡ []
AreMet (line ∷ lines) old [] [] text = HasNoOrder line × AreMet lines old [] [] text
AreMet (line ∷ lines) old (turn ∷ turns) (new ∷ states) text =
    (HasNoOrder line × AreMet lines old (turn ∷ turns) (new ∷ states) text)
    ⊎ ((answer : List ℕ) × (rest : List ℕ) × (text ≡ answer ++ rest) × ExecutesLine line old turn new answer
    × AreMet lines new turns states rest)
AreMet lines old turns states text = ⊥

-- The array executed these lines, one after another, from its old state to its new one, and this text is that of their
-- answers. The isolation theorem holds of their steps (`IsRun`): each unit replied as one plain list of sectors that
-- only its own lines change. The geometry of its disks stays.
pub record Plays (lines : List (List ℕ)) (old new : ArrayState) (text : List ℕ) : Type 0 where
  pub turns : List Turn
  pub run : IsRun old turns new
  pub met : AreMet lines old turns run.states text
  pub geometry : geometry_of new ≡ geometry_of old
  pub extents : new.store.disks.extents ≡ old.store.disks.extents

-- these are the first lines of the script
abbrev pub AreFirst : Option (List (List ℕ)) → List (List ℕ) → Type 0
AreFirst None lines = ⊤
AreFirst (Some script) lines = lines ≡ take (length lines) script

-- these are all lines of the script
abbrev pub AreAll : Option (List (List ℕ)) → List (List ℕ) → Type 0
AreAll None lines = ⊤
AreAll (Some script) lines = lines ≡ script

-- the line's order allocates
pub record NeedsMemory (line : List ℕ) : Type 0 where
  pub order : Order
  pub reads : ReadsLine line (Ok (Some order))
  pub takes : TakesMemory order

-- a fault that isn't in line `n`: a stream faulted, or an allocation failed, before the first line or for the line's
-- order
abbrev pub IsExternalFault : List ℕ → ℕ → FaultKind → Type 0
IsExternalFault line n kind = IsOfStream kind ⊎ ((kind ≡ NoMemory) × ((n ≡ 1) ⊎ NeedsMemory line))

-- What may be reported at a line: that a stream faulted or an allocation failed, otherwise only a fault that the line
-- has, in its bytes or its words, or that there are too many lines.
abbrev pub IsSo : Option (List (List ℕ)) → ℕ → FaultKind → Type 0
IsSo None n kind = ⊤
IsSo (Some script) n kind =
    IsExternalFault (line_at script n) n kind ⊎ (line_fault (line_at script n) ≡ Some kind)
    ⊎ SaysWrong (line_at script n) kind
    ⊎ ((kind ≡ TooManyLines) × (1000000 < length script))

-- the line's order is a query that allocates
pub record AsksToSee (line : List ℕ) : Type 0 where
  pub question : Question
  pub reads : ReadsLine line (Ok (Some (Ask question)))
  pub takes : TakesMemory (Ask question)

-- why the answer to an executed line is lost: it couldn't be written or, for such a query alone, an allocation failed
abbrev pub IsLostAt : List ℕ → FaultKind → Type 0
IsLostAt line kind = (kind ≡ WriteFault) ⊎ ((kind ≡ NoMemory) × AsksToSee line)

-- the line asks for something
pub record AsksSomething (line : List ℕ) : Type 0 where
  pub order : Order
  pub reads : ReadsLine line (Ok (Some order))

-- why a line that asks for something has no answer: that couldn't be written, or an allocation for the order failed
abbrev pub IsUnanswered : List ℕ → FaultKind → Type 0
IsUnanswered line kind = ((kind ≡ WriteFault) × AsksSomething line) ⊎ ((kind ≡ NoMemory) × NeedsMemory line)

-- The fault that ends the loop over the lines: of the next line, which wasn't returned (`EndsReading`), or of the last
-- one that was, which has no answer or whose words have a fault.
abbrev pub IsReportedAt : {R : Type 0} {reads : Ghosts R} → Lines R reads → Fault → Type 0
IsReportedAt lines Start = ⊥
IsReportedAt lines (Line n kind) =
    EndsReading lines (Line n kind)
    ⊎ ((n ≡ lines.given) × (IsUnanswered lines.line.items kind ⊎ SaysWrong lines.line.items kind))

-- the same for the end of a run, which may also be a write fault
abbrev pub IsReportedOf : {R : Type 0} {reads : Ghosts R} → Lines R reads → Fault → Type 0
IsReportedOf lines Start = ⊥
IsReportedOf lines (Line n kind) = (kind ≡ WriteFault) ⊎ IsReportedAt lines (Line n kind)

-- a fault is reported at the line after the last that was executed, or at that one if its answer is lost
abbrev pub IsReportedAfter : Option (List (List ℕ)) → List (List ℕ) → Fault → Type 0
IsReportedAfter script met Start = ⊥
IsReportedAfter script met (Line n kind) =
    ((n ≡ length met + 1) ⊎ ((n ≡ length met) × IsLostAt (line_at met n) kind)) × IsSo script n kind

-- The line at which a fault is reported exists, or is the first. But `ReadFault` may be reported where no line is left,
-- and `TooManyLines` is where there are too many (`IsSo`).
abbrev pub IsLineThere : Option (List (List ℕ)) → Fault → Type 0
IsLineThere script Start = Unit {0}
IsLineThere None (Line n kind) = ⊤
IsLineThere (Some lines) (Line n kind) = (kind ≡ ReadFault) ⊎ (kind ≡ TooManyLines) ⊎ (n ≤ max (length lines) 1)

-- The array executed the first lines of a script, each once and in order: all of them if the script ended without a
-- fault.
pub record PlaysScript (script : Option (List (List ℕ))) (result : Result (Unit {0}) Fault) (old new : ArrayState)
    : Type 0 where
  pub lines : List (List ℕ)
  pub text : List ℕ
  pub plays : Plays lines old new text
  -- no more than a million lines are executed
  pub few : length lines ≤ 1000000
  pub first : AreFirst script lines
  pub whole : OnOk result (AreAll script lines)
  pub reported : IfErr result (IsReportedAfter script lines)

-- the array executed all lines of a script, and the text of their answers was appended
pub record WritesScript (script : Option (List (List ℕ))) (old new : ArrayState) (before after : Option (List ℕ))
    : Type 0 where
  pub lines : List (List ℕ)
  pub text : List ℕ
  pub plays : Plays lines old new text
  pub whole : AreAll script lines
  pub appends : Appends before after text

-- a fault is reported at the line after these
abbrev pub IsAtNext : List (List ℕ) → Fault → Type 0
IsAtNext lines Start = ⊥
IsAtNext lines (Line n kind) = n ≡ length lines + 1

-- the array executed the lines of a script before a fault and nothing else, and the text of their answers was appended
pub record WritesBefore (script : Option (List (List ℕ))) (fault : Fault) (old new : ArrayState)
    (before after : Option (List ℕ)) : Type 0 where
  pub lines : List (List ℕ)
  pub text : List ℕ
  pub plays : Plays lines old new text
  pub first : AreFirst script lines
  pub next : IsAtNext lines fault
  pub appends : Appends before after text

-- what was appended for a script: the answers to all lines or, at a fault other than a write fault, to those before it
abbrev pub AnswersScript : Option (List (List ℕ)) → Result (Unit {0}) Fault → ArrayState → ArrayState → Option (List ℕ)
    → Option (List ℕ) → Type 0
AnswersScript script (Ok done) old new before after = WritesScript script old new before after
AnswersScript script (Err fault) old new before after =
    is_write_fault {T = Unit {0}} (Err fault) ≡ false → WritesBefore script fault old new before after

-- `begun` lines were taken from a script, and the array executed each; `left` are left
pub record PlaysAll (script left : Option (List (List ℕ))) (old new : ArrayState) (begun : ℕ) : Type 0 where
  pub lines : List (List ℕ)
  pub text : List ℕ
  pub plays : Plays lines old new text
  pub all : length lines ≡ begun
  pub took : Took script left lines

-- `begun` lines were begun, and the array executed each, but for the last if a fault came before that.
pub record PlaysTo (script : Option (List (List ℕ))) (result : Result (Unit {0}) Fault) (old new : ArrayState)
    (begun : ℕ) : Type 0 where
  pub plays : PlaysScript script result old new
  pub few : length plays.lines ≤ begun
  pub most : begun ≤ length plays.lines + 1

-- an array that was started on these disks executed the script
pub record HasPlayed (disks : List DiskState) (cache : ℕ) (script : Option (List (List ℕ)))
    (result : Result (Unit {0}) Fault) : Type 0 where
  pub first : ArrayState
  pub last : ArrayState
  pub started : IsStarted disks cache first
  pub plays : PlaysScript script result first last

-- an array that was started on these disks executed the script, and its answers were appended
pub record HasAnswered (disks : List DiskState) (cache : ℕ) (script : Option (List (List ℕ)))
    (result : Result (Unit {0}) Fault) (before after : Option (List ℕ)) : Type 0 where
  pub first : ArrayState
  pub last : ArrayState
  pub started : IsStarted disks cache first
  pub plays : PlaysScript script result first last
  pub answers : AnswersScript script result first last before after

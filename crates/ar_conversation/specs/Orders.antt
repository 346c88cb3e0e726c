-- What an operator's line asks for, by its first word.
use Rattle.std.specs.Prelude.{◌≡◌, ◌⊎◌, ◌==◌, ◌<◌, ℕ, Bool, if◌then◌else◌, List, [], ◌∷◌, length, map, codes}
use Rattle.std.specs.Prelude.{bytes_eq, slice_index_or, Option, Some, None, Result, Ok, Err, MatchBool}
use Rattle.std.specs.List.{list_any, slice_split}
use Rattle.std.specs.Borrow.{Bor}
use Rattle.ar_language.specs.declared.fault.FaultKind.{FaultKind}
use Rattle.ar_language.specs.declared.fault.FaultKind.TheVariants.{BadArgument}
use Rattle.ar_language.specs.declared.order.Action.{Action}
use Rattle.ar_language.specs.declared.order.Action.TheVariants as actions
use Rattle.ar_language.specs.declared.order.Order.{Order}
use Rattle.ar_language.specs.declared.order.Order.TheVariants as orders
use Rattle.ar_language.specs.declared.order.Question.TheVariants as questions
use Rattle.ar_numbers.specs.Numbers.{IsDecimal}
use Rattle.ar_language.specs.Forms.{IsNumberOf, ReadsLine, Words, is_silent, value}
use Rattle.ar_language.specs.Queries.{IsView}
use Rattle.ar_conversation.specs.declared.order.OperatorOrder.{OperatorOrder}
use Rattle.ar_conversation.specs.declared.order.OperatorOrder.TheVariants.{Act, Ask, End, ForceOut, Counts, Fail, Help}
use Rattle.ar_conversation.specs.declared.order.OperatorOrder.TheVariants.{Sessions, Stop, Usage, Units, Disks, Version}
use Rattle.ar_conversation.specs.declared.order.LineFault.{LineFault}
use Rattle.ar_conversation.specs.declared.order.LineFault.TheVariants.{Line, NotOperatorWord}

-- an action that an operator may order: any but a SCSI command and a discard
abbrev pub IsOperatorAction : Action → Type 0
IsOperatorAction (actions.Command addr cdb d notation) = ⊥
IsOperatorAction (actions.Unmap addr lba count) = ⊥
IsOperatorAction action = Unit {0}

-- an order that an operator may give
abbrev pub IsOperatorOrder : OperatorOrder → Type 0
IsOperatorOrder (Act action) = IsOperatorAction action
IsOperatorOrder (Ask question) = IsView question
IsOperatorOrder order = Unit {0}

-- the text of a word
abbrev pub text_of : Bor (List ℕ) → List ℕ
text_of text = text.now

-- whether a word is a host's, or shows the bytes of a row
abbrev pub is_host_word : List ℕ → Bool
is_host_word name =
    list_any (bytes_eq name)
    (codes "tur" ∷ codes "inquiry" ∷ codes "capacity" ∷ codes "read" ∷ codes "write" ∷ codes "read16" ∷ codes "write16"
    ∷ codes "cdb" ∷ codes "unmap"
    ∷ codes "block" ∷ [])

-- a script's order as an operator's
abbrev pub as_operator : Result (Option Order) FaultKind → Result (Option OperatorOrder) LineFault
as_operator (Ok None) = Ok None
as_operator (Ok (Some (orders.Act (actions.Command addr cdb d notation)))) = Err NotOperatorWord
as_operator (Ok (Some (orders.Act (actions.Unmap addr lba count)))) = Err NotOperatorWord
as_operator (Ok (Some (orders.Ask (questions.Block disk extent row)))) = Err NotOperatorWord
as_operator (Ok (Some (orders.Act action))) = Ok (Some (Act action))
as_operator (Ok (Some (orders.Ask question))) = Ok (Some (Ask question))
as_operator (Err kind) = Err (Line kind)

-- a word of scripts, unless it is a host's
abbrev pub ReadsSharedWord : List ℕ → List ℕ → Result (Option OperatorOrder) LineFault → Type 0
ReadsSharedWord line name result =
    MatchBool (is_host_word name) (result ≡ Err NotOperatorWord)
    ((read : Result (Option Order) FaultKind) × ReadsLine line read × (result ≡ as_operator read))

-- the words after a name, counted from 0; empty past the end
abbrev pub argument : List (List ℕ) → ℕ → List ℕ
argument arguments i = slice_index_or arguments i []

-- a number of accesses, or `off`
abbrev pub AreAccesses : List ℕ → Type 0
AreAccesses word = IsDecimal word ⊎ (word ≡ codes "off")

-- the accesses that a disk still passes: all, if there is no number
abbrev pub accesses_in : List ℕ → Option ℕ
accesses_in word = if bytes_eq word (codes "off") then None else Some (value word)

-- a disk, and what it still passes
pub record HasFuse (arguments : List (List ℕ)) : Type 0 where
  pub count : length arguments ≡ 2
  pub disk : IsNumberOf 8 (argument arguments 0)
  pub accesses : AreAccesses (argument arguments 1)

-- the disk and the accesses
abbrev pub IsFuse : List (List ℕ) → ℕ × Option ℕ → Type 0
IsFuse arguments fuse = (fuse.0 ≡ value (argument arguments 0)) × (fuse.1 ≡ accesses_in (argument arguments 1))

-- `fail D N` and `fail D off`
abbrev pub AsksFuse : List (List ℕ) → OperatorOrder → Type 0
AsksFuse arguments order = order ≡ Fail (value (argument arguments 0)) (accesses_in (argument arguments 1))

-- the number of a host
pub record IsHostNumber (digits : List ℕ) : Type 0 where
  pub number : IsDecimal digits
  pub below : value digits < 4

-- a host, whose sessions are all meant
pub record HasHost (arguments : List (List ℕ)) : Type 0 where
  pub count : length arguments ≡ 1
  pub host : IsHostNumber (argument arguments 0)

-- a host, and a session of it
pub record HasSession (arguments : List (List ℕ)) : Type 0 where
  pub count : length arguments ≡ 2
  pub host : IsHostNumber (argument arguments 0)
  pub session : IsDecimal (argument arguments 1)

-- the sessions of a host, or one of them
abbrev pub HasEnd : List (List ℕ) → Type 0
HasEnd arguments = HasHost arguments ⊎ HasSession arguments

-- the session that is meant: all of the host, if there is no second word
abbrev pub session_in : List (List ℕ) → Option ℕ
session_in arguments = if length arguments == 2 then Some (value (argument arguments 1)) else None

-- the host and the session
abbrev pub IsEnd : List (List ℕ) → ℕ × Option ℕ → Type 0
IsEnd arguments ended = (ended.0 ≡ value (argument arguments 0)) × (ended.1 ≡ session_in arguments)

-- `end H` and `end H S`
abbrev pub AsksEnd : List (List ℕ) → OperatorOrder → Type 0
AsksEnd arguments order = order ≡ End (value (argument arguments 0)) (session_in arguments)

-- The result for the words after a name: an order that they ask for if they have this form, otherwise `BadArgument`.
abbrev pub ReadsArguments : Type 0 → (OperatorOrder → Type 0) → Result (Option OperatorOrder) LineFault → Type 0
ReadsArguments Form Asked (Ok (Some order)) = Form × Asked order
ReadsArguments Form Asked (Ok None) = ⊥
ReadsArguments Form Asked (Err fault) = (fault ≡ Line BadArgument) × (¬ Form)

-- the same for an order without arguments
abbrev pub ReadsAlone : List (List ℕ) → OperatorOrder → Result (Option OperatorOrder) LineFault → Type 0
ReadsAlone arguments order result = ReadsArguments (length arguments ≡ 0) (λ given. given ≡ order) result

-- `D force`, a disk that is taken out even if the array fails
pub record HasForce (arguments : List (List ℕ)) : Type 0 where
  pub count : length arguments ≡ 2
  pub disk : IsNumberOf 8 (argument arguments 0)
  pub force : argument arguments 1 ≡ codes "force"

-- `out`: with `force`, or as a script has it
pub record ReadsOut (line : List ℕ) (arguments : List (List ℕ)) (result : Result (Option OperatorOrder) LineFault)
    : Type 0 where
  pub forced : HasForce arguments → result ≡ Ok (Some (ForceOut (value (argument arguments 0))))
  pub shared : (¬ HasForce arguments) → ReadsSharedWord line (codes "out") result

-- the words that show what the array has, and then those that operators share with scripts
abbrev pub ReadsReportWord : List ℕ → List ℕ → List (List ℕ) → Result (Option OperatorOrder) LineFault → Type 0
ReadsReportWord line name arguments result =
    MatchBool (bytes_eq name (codes "sessions")) (ReadsAlone arguments Sessions result) (
    MatchBool (bytes_eq name (codes "usage")) (ReadsAlone arguments Usage result) (
    MatchBool (bytes_eq name (codes "units")) (ReadsAlone arguments Units result) (
    MatchBool (bytes_eq name (codes "disks")) (ReadsAlone arguments Disks result) (
    MatchBool (bytes_eq name (codes "version")) (ReadsAlone arguments Version result) (
    ReadsSharedWord line name result)))))

-- the operator's own words, and then those that it shares with scripts
abbrev pub ReadsOperatorWord : List ℕ → List ℕ → List (List ℕ) → Result (Option OperatorOrder) LineFault → Type 0
ReadsOperatorWord line name arguments result =
    MatchBool (bytes_eq name (codes "counts")) (ReadsAlone arguments Counts result) (
    MatchBool (bytes_eq name (codes "out")) (ReadsOut line arguments result) (
    MatchBool (bytes_eq name (codes "fail")) (ReadsArguments (HasFuse arguments) (AsksFuse arguments) result) (
    MatchBool (bytes_eq name (codes "end")) (ReadsArguments (HasEnd arguments) (AsksEnd arguments) result) (
    MatchBool (bytes_eq name (codes "help")) (ReadsAlone arguments Help result) (
    MatchBool (bytes_eq name (codes "stop")) (ReadsAlone arguments Stop result) (
    ReadsReportWord line name arguments result))))))

-- words, of which the first names the order
abbrev pub ReadsFirstWord : List ℕ → Words → Result (Option OperatorOrder) LineFault → Type 0
ReadsFirstWord line [] result = result ≡ Ok None
ReadsFirstWord line (name ∷ words) result = ReadsOperatorWord line name.now (map text_of words) result

-- the words of a line, of which the first names the order; an empty word is a bad argument
abbrev pub ReadsOperatorWords : List ℕ → List (List ℕ) → Result (Option OperatorOrder) LineFault → Type 0
ReadsOperatorWords line [] result = result ≡ Ok None
ReadsOperatorWords line (name ∷ arguments) result =
    MatchBool (list_any (λ word. length word == 0) (name ∷ arguments)) (result ≡ Err (Line BadArgument))
    (ReadsOperatorWord line name arguments result)

-- What an operator's line asks for: nothing, or what its words do, which are split at each space.
abbrev pub ReadsOperatorLine : List ℕ → Result (Option OperatorOrder) LineFault → Type 0
ReadsOperatorLine line result =
    MatchBool (is_silent line) (result ≡ Ok None)
    (ReadsOperatorWords line (slice_split (λ byte. byte == 32) line) result)

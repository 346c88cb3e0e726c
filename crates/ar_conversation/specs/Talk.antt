-- A conversation, line by line.
use Rattle.std.specs.Prelude.{◌≡◌, ◌⊎◌, ◌≤◌, ℕ, Bool, true, false, List, [], ◌∷◌, ◌++◌, length, codes, Option, Some}
use Rattle.std.specs.Prelude.{None, Result, Ok, Err, alloc_error}
use Rattle.std.specs.Io.KnownBytes.{IsAtEnd}
use Rattle.ar_frames.specs.Stream.{SourceState, SinkState, Reading, Sending}
use Rattle.ar_frames.specs.declared.transfer.Sent.{Sent}
use Rattle.ar_frames.specs.declared.transfer.Sent.TheVariants.{Whole, Part}
use Rattle.ar_language.specs.Lines.{line_fault}
use Rattle.ar_language.specs.declared.fault.FaultKind.{FaultKind}
use Rattle.ar_language.specs.declared.fault.FaultKind.TheVariants.{NoMemory}
use Rattle.ar_conversation.specs.declared.order.OperatorOrder.{OperatorOrder}
use Rattle.ar_conversation.specs.declared.order.OperatorOrder.TheVariants as orders
use Rattle.ar_conversation.specs.declared.order.LineFault.{LineFault}
use Rattle.ar_conversation.specs.declared.order.LineFault.TheVariants.{Line, Cut}
use Rattle.ar_conversation.specs.declared.conversation.OperatorEnd.{OperatorEnd}
use Rattle.ar_conversation.specs.declared.conversation.OperatorEnd.TheVariants as ends
use Rattle.ar_conversation.specs.declared.conversation.Response.{Response}
use Rattle.ar_conversation.specs.declared.conversation.Response.TheVariants as response
use Rattle.ar_conversation.specs.declared.conversation.LineResult.{LineResult}
use Rattle.ar_conversation.specs.declared.conversation.LineResult.TheVariants.{Answered, Ended}
use Rattle.ar_conversation.specs.Controller.{OperatorAnswers}
use Rattle.ar_conversation.specs.Faults.{line_fault_text}
use Rattle.ar_conversation.specs.Lines.{EndsInLine, TakesLine, TakesPart, seen_behind}
use Rattle.ar_conversation.specs.Orders.{ReadsOperatorLine}

-- the answer to a line with a fault
abbrev pub fault_answer : LineFault → List ℕ
fault_answer fault = codes "fault: " ++ line_fault_text fault ++ 10 ∷ []

-- the answer when out of memory for another
abbrev pub no_memory : List ℕ
no_memory = fault_answer (Line NoMemory)

-- whether an order ends the service
abbrev pub is_stop : OperatorOrder → Bool
is_stop orders.Stop = true
is_stop order = false

-- what a line is read as, by the fault of its bytes, if they have one, or by its text
abbrev pub ReadsBytes : Option FaultKind → List ℕ → Result (Option OperatorOrder) LineFault → Type 0
ReadsBytes (Some kind) text read = read ≡ Err (Line kind)
ReadsBytes None text read = ReadsOperatorLine text read

-- the controller executed the order, and there is no memory for its answer
pub record IsForgotten {C : Type 0} (answers : OperatorAnswers C) (old : C) (order : OperatorOrder) (new : C)
    : Type 0 where
  pub lost : List ℕ
  pub answered : answers old order (Err alloc_error) lost new

-- an order was given to the controller once: its answer or, out of memory, that
abbrev pub ExecutesOrder : {C : Type 0} → OperatorAnswers C → C → OperatorOrder → List ℕ → Bool → C → Type 0
ExecutesOrder answers old order answer stop new =
    (answers old order (Ok tt) answer new × (stop ≡ is_stop order))
    ⊎ (IsForgotten answers old order new × (answer ≡ no_memory) × (stop ≡ false))

-- The answer to what a line is read as, and whether the service ends with it. A line without an order leaves the
-- controller as it was.
abbrev pub RespondsToRead : {C : Type 0} → OperatorAnswers C → C → Result (Option OperatorOrder) LineFault → List ℕ
    → Bool → C → Type 0
RespondsToRead answers old (Ok None) answer stop new = (answer ≡ []) × (stop ≡ false) × (new ≡ old)
RespondsToRead answers old (Ok (Some order)) answer stop new = ExecutesOrder answers old order answer stop new
RespondsToRead answers old (Err fault) answer stop new =
    ((answer ≡ fault_answer fault) ⊎ (answer ≡ no_memory)) × (stop ≡ false) × (new ≡ old)

-- the answer to a line, by the fault of its bytes or by its text
pub record RespondsToBytes {C : Type 0} (answers : OperatorAnswers C) (fault : Option FaultKind) (text : List ℕ)
    (old : C) (answer : List ℕ)
    (stop : Bool) (new : C) : Type 0 where
  pub read : Result (Option OperatorOrder) LineFault
  pub reads : ReadsBytes fault text read
  pub responds : RespondsToRead answers old read answer stop new

-- a line was answered, and its answer was written, whole or up to a fault
pub record Replies {C : Type 0} (answers : OperatorAnswers C) (fault : Option FaultKind) (text : List ℕ) (old : C)
    (sink : SinkState)
    (stop : Bool) (sent : Sent) (new : C) (sink' : SinkState) : Type 0 where
  pub answer : List ℕ
  pub responds : RespondsToBytes answers fault text old answer stop new
  pub sending : Sending sink sink' answer sent

-- whether a line isn't text: its bytes have a fault
abbrev pub is_unreadable : Option FaultKind → Bool
is_unreadable None = false
is_unreadable (Some kind) = true

-- after a line that isn't text, the conversation doesn't go on
abbrev pub line_result_after : Bool → LineResult → LineResult
line_result_after true Answered = Ended ends.BadLine
line_result_after unreadable result = result

-- what becomes of the conversation after a line
abbrev pub line_result_by : Bool → Sent → LineResult
line_result_by stop (Part n) = Ended ends.Write
line_result_by true Whole = Ended ends.Stop
line_result_by false Whole = Answered

-- the same, by the result
pub record LineIsAnswered {C : Type 0} (answers : OperatorAnswers C) (fault : Option FaultKind) (text : List ℕ)
    (old : C) (sink : SinkState)
    (result : LineResult) (new : C) (sink' : SinkState) : Type 0 where
  pub stop : Bool
  pub sent : Sent
  pub replies : Replies answers fault text old sink stop sent new sink'
  pub result_is : result ≡ line_result_by stop sent

-- the bytes of an answer: those in the buffer, or that there is no memory for them
abbrev pub response_bytes : Response → List ℕ → List ℕ
response_bytes response.Answer buffer = buffer
response_bytes response.Stop buffer = buffer
response_bytes response.NoMemory buffer = no_memory

-- whether the service ends
abbrev pub ends_service : Response → Bool
ends_service response.Answer = false
ends_service response.Stop = true
ends_service response.NoMemory = false

-- where a conversation is: its streams, and the controller
pub record ConversationState (C : Type 0) : Type 0 where
  pub source : SourceState
  pub sink : SinkState
  pub controller : C

-- a line was read, and answered as its bytes say
pub record RespondsToLine {C : Type 0} (answers : OperatorAnswers C) (old : ConversationState C) (line : List ℕ)
    (stop : Bool) (sent : Sent) (new : ConversationState C)
    : Type 0 where
  pub takes : TakesLine old.source new.source line
  pub replies : Replies answers (line_fault line) line old.controller old.sink stop sent new.controller new.sink

-- a line of text was read and answered whole, and it wasn't `stop`
pub record LeavesOpen {C : Type 0} (answers : OperatorAnswers C) (old : ConversationState C) (line : List ℕ)
    (new : ConversationState C) : Type 0 where
  pub responds : RespondsToLine answers old line false Whole new
  pub is_text : is_unreadable (line_fault line) ≡ false

-- These lines of text were read and answered whole, one after another, none of them with `stop`.
abbrev pub Talks : {C : Type 0} → OperatorAnswers C → ConversationState C → List (List ℕ) → ConversationState C → Type 0
Talks answers old [] new = new ≡ old
Talks {C = C} answers old (line ∷ lines) new =
    (middle : ConversationState C) × LeavesOpen answers old line middle × Talks answers middle lines new

-- this many lines were
pub record HasTalked {C : Type 0} (answers : OperatorAnswers C) (old : ConversationState C) (count : ℕ)
    (new : ConversationState C) : Type 0 where
  pub lines : List (List ℕ)
  pub count_is : length lines ≡ count
  pub talks : Talks answers old lines new

-- nothing was answered
pub record IsSilent {C : Type 0} (old new : ConversationState C) : Type 0 where
  pub sink : new.sink ≡ old.sink
  pub controller : new.controller ≡ old.controller

-- the last line was `stop`, and was accepted
pub record IsStoppedByOrder {C : Type 0} (answers : OperatorAnswers C) (old new : ConversationState C) : Type 0 where
  pub line : List ℕ
  pub responds : RespondsToLine answers old line true Whole new

-- the answer to the last line wasn't written whole
pub record IsAnswerCut {C : Type 0} (answers : OperatorAnswers C) (old new : ConversationState C) : Type 0 where
  pub line : List ℕ
  pub stop : Bool
  pub count : ℕ
  pub responds : RespondsToLine answers old line stop (Part count) new

-- the last line was not text, and was answered by its fault
pub record IsEndedByLine {C : Type 0} (answers : OperatorAnswers C) (old new : ConversationState C) : Type 0 where
  pub line : List ℕ
  pub unreadable : is_unreadable (line_fault line) ≡ true
  pub responds : RespondsToLine answers old line false Whole new

-- how a conversation ends after the answer to a line that was cut
abbrev pub cut_end : Sent → OperatorEnd
cut_end Whole = ends.CutLine
cut_end (Part n) = ends.Write

-- the fault of a cut line was written, whole or up to a fault
pub record SendsCut (sink sink' : SinkState) (sent : Sent) : Type 0 where
  pub answer : List ℕ
  pub answer_is : (answer ≡ fault_answer Cut) ⊎ (answer ≡ no_memory)
  pub sending : Sending sink sink' answer sent

-- the same, by the result
pub record CutIsAnswered (sink : SinkState) (result : LineResult) (sink' : SinkState) : Type 0 where
  pub sent : Sent
  pub sends : SendsCut sink sink' sent
  pub result_is : result ≡ Ended (cut_end sent)

-- the input ended in a line, which was answered by that fault and not given to the controller
pub record RefusesCut {C : Type 0} (old : ConversationState C) (sent : Sent) (new : ConversationState C)
    : Type 0 where
  pub ends : EndsInLine old.source new.source
  pub sends : SendsCut old.sink new.sink sent
  pub controller : new.controller ≡ old.controller

-- how a conversation ends
abbrev pub ClosesTalk : {C : Type 0} → OperatorAnswers C → ConversationState C → OperatorEnd → ConversationState C
    → Type 0
ClosesTalk answers old ends.End new =
    Reading old.source new.source [] false × IsAtEnd new.source.left × IsSilent old new
ClosesTalk answers old ends.Stop new = IsStoppedByOrder answers old new
ClosesTalk answers old ends.BadLine new = IsEndedByLine answers old new
ClosesTalk answers old ends.CutLine new = RefusesCut old Whole new
ClosesTalk answers old ends.Read new = TakesPart old.source new.source true × IsSilent old new
ClosesTalk answers old ends.Write new = IsAnswerCut answers old new ⊎ ((count : ℕ) × RefusesCut old (Part count) new)
ClosesTalk answers old ends.Bound new = TakesPart old.source new.source false × IsSilent old new
ClosesTalk answers old ends.NoMemory new = new ≡ old

-- one more line was answered, or the conversation ended
abbrev pub NextIsAnswered : {C : Type 0} → OperatorAnswers C → ConversationState C → LineResult → ConversationState C
    → Type 0
NextIsAnswered answers old Answered new = (line : List ℕ) × LeavesOpen answers old line new
NextIsAnswered answers old (Ended end) new = ClosesTalk answers old end new

-- A conversation: lines of the input were given to the controller, each once and in order, and their answers written,
-- in order; and then it ended so.
pub record Converses {C : Type 0} (answers : OperatorAnswers C) (old : ConversationState C) (end : OperatorEnd)
    (new : ConversationState C) : Type 0 where
  pub lines : List (List ℕ)
  pub few : length lines ≤ 1000000
  pub middle : ConversationState C
  pub talks : Talks answers old lines middle
  pub closes : ClosesTalk answers middle end new

-- The same over streams. Bytes that were read after the last line are dropped.
pub record OperatorTalk {C : Type 0} (answers : OperatorAnswers C) (source source' : SourceState)
    (sink sink' : SinkState) (old new : C)
    (end : OperatorEnd) : Type 0 where
  pub dropped : List ℕ
  pub converses :
      Converses answers (record { source = source; sink = sink; controller = old }) end
      (record { source = seen_behind dropped source'; sink = sink'; controller = new })

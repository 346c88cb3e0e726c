-- How the PDUs of a phase join, and what becomes of a full feature phase.
use Rattle.std.proofs.Common.{◌≡◌, ℕ, ◌+◌, true, false, List, [], length, refl, subst, sym, take, Option, Some}
use Rattle.std.proofs.Common.{None}
use Rattle.std.proofs.Math.Numerals.{suc-eq-add-one}
use Rattle.ar_frames.specs.Conversation.{Commands}
use Rattle.ar_frames.specs.Port.{CommandRefusals}
use Rattle.ar_frames.specs.Stream.{SourceState, SinkState, Reading, Sending}
use Rattle.ar_iscsi.specs.Digest.{sent_by}
use Rattle.ar_target.specs.ResetPort.{UnitResets}
use Rattle.ar_frames.specs.declared.transfer.Sent.{Sent}
use Rattle.ar_frames.specs.declared.transfer.Sent.TheVariants.{Whole, Part}
use Rattle.ar_iscsi.specs.declared.negotiation.Limits.{Limits}
use Rattle.ar_iscsi.specs.declared.receive.ReceiveEnd.{ReceiveEnd}
use Rattle.ar_iscsi.specs.declared.receive.ReceiveEnd.TheVariants as unread
use Rattle.ar_iscsi.specs.declared.session.FeatureEnd.{FeatureEnd}
use Rattle.ar_iscsi.specs.declared.session.PduResult.{PduResult}
use Rattle.ar_iscsi.specs.declared.turn.TurnEnd.{TurnEnd}
use Rattle.ar_iscsi.specs.declared.turn.TurnEnd.TheVariants.{Next, LoggedOut, BrokenData, Rejected, WrongData}
use Rattle.ar_iscsi.specs.Pdu.{segment_len}
use Rattle.ar_iscsi.specs.declared.digest.Digests.{Digests}
use Rattle.ar_iscsi.specs.Digest.{no_digests, is_plain}
use Rattle.ar_iscsi.specs.Receive.{ReadsDamaged, ReadsPdu, ReadsNoPdu, ReadsSentPdu, ReadsNoSentPdu}
use Rattle.std.specs.Prelude.{Bool, MatchBool, IfNone, IfSome}
use Rattle.ar_iscsi.specs.Task.{MayGive}
use Rattle.ar_iscsi.specs.Turn.{Spot}
use Rattle.ar_iscsi.specs.Waiting.{is_next_waiting, waits}
use Rattle.ar_iscsi.specs.Request.{initiator_pdu}
use Rattle.ar_iscsi.specs.declared.request.InitiatorPdu.{InitiatorPdu}
use Rattle.ar_iscsi.specs.declared.waiting_pdu.WaitingPdu.{WaitingPdu}
use Rattle.ar_iscsi.specs.Arrival.{FeatureSpot, ArrivalFor, ArrivalTurn, MayUse}
use Rattle.ar_iscsi.specs.Phase.{Turns, PhaseSteps, Place, ServesPdu, ServesPdus, HasNoAnswer, AnswersPdu, turned}
use Rattle.ar_iscsi.specs.Phase.{unanswered, most_segment}
use Rattle.ar_iscsi.specs.Session.{NextIsServed, EndsFeature, RunsFeature, FeatureStep, of_waiting, of_arrival}
use Rattle.ar_iscsi.specs.Session.{of_damage, of_silence, damaged_lacks, MayPing, RejectsDamaged, result_of_ping}
use Rattle.ar_iscsi.specs.Session.{TakesWaiting, WaitingTurn}
use Rattle.ar_iscsi.specs.Session.{read_lacks, waiting_lacks, result_of_turn, result_of_answer}

-- what was read without digests
pub plain_reads : (limit : ℕ) (source source' : SourceState) (header buffer : List ℕ)
    → ReadsPdu [] limit source source' header buffer → ReadsSentPdu no_digests limit source source' header buffer
plain_reads limit source source' header buffer reads =
    record { bytes = reads.rest; is_pdu = reads.is_pdu; within = reads.within; read = reads.read }

pub plain_stops : (limit : ℕ) (source source' : SourceState) (reason : ReceiveEnd)
    → ReadsNoPdu [] limit source source' reason → ReadsNoSentPdu no_digests limit source source' reason
plain_stops limit source source' reason reads =
    record { bytes = reads.rest; stops = reads.stops; read = reads.read; ended = reads.ended }

-- with digests or without, between two PDUs none is read
no_bytes : (b : Bool) (bytes : List ℕ) → MatchBool b (bytes ≡ []) (bytes ≡ []) → bytes ≡ []
no_bytes true bytes none = none
no_bytes false bytes none = none

-- a PDU that was read, and what it did: it was served, or has no answer
abbrev pub IsHandled : {S P E : Type 0} → Digests → Turns S P E → (P → P → Type 0) → Place S P → Place S P
    → Option (E × Sent) → Type 0
IsHandled digests turns may old new (Some answered) = ServesPdu digests turns old new answered.0 answered.1
IsHandled digests turns may old new None = HasNoAnswer digests may old new

pub handled : {S P E : Type 0} (digests : Digests) (turns : Turns S P E) (may : P → P
    → Type 0) (source source' : SourceState) (sink sink' : SinkState) (spot spot' : S) (port port' : P)
    (header buffer : List ℕ) (answered : Option (E × Sent))
    → ReadsSentPdu digests most_segment source source' header buffer
    → AnswersPdu digests turns may header (take (segment_len header) buffer) sink spot port answered sink' spot' port'
    → IsHandled digests turns may (record { source = source; sink = sink; spot = spot; port = port })
    (record { source = source'; sink = sink'; spot = spot'; port = port' }) answered
handled digests turns may source source' sink sink' spot spot' port port' header buffer _ reads
    (turned left sent out _ _ _ turn sending) = record {
      header = header;
      carried = take (segment_len header) buffer;
      bytes = reads.bytes;
      out = out;
      is_pdu = reads.is_pdu;
      within = reads.within;
      read = reads.read;
      turn = turn;
      sending = sending;
    }
handled digests turns may source source' sink sink' spot spot' port port' header buffer _ reads
    (unanswered _ _ done) = record {
      header = header;
      carried = take (segment_len header) buffer;
      bytes = reads.bytes;
      is_pdu = reads.is_pdu;
      read = reads.read;
      sink = refl;
      port = done;
    }

-- nothing was written
pub unsent :
    {S P E : Type 0} (digests : Digests) (turns : Turns S P E) (may : P → P → Type 0) (header carried : List ℕ)
    (sink sink' : SinkState) (spot spot' : S) (port port' : P) (answered : Option (E × Sent)) → answered ≡ None
    → sink' ≡ sink → may port port'
    → AnswersPdu digests turns may header carried sink spot port answered sink' spot' port'
unsent digests turns may header carried sink sink' spot spot' port port' answered none same done =
    subst (λ (a : Option _). AnswersPdu digests turns may header carried sink spot port a sink' spot' port') (sym none)
    (subst (λ (s : SinkState). AnswersPdu digests turns may header carried sink spot port None s spot' port') (sym same)
    (unanswered spot' port' done))

-- a turn's answer was sent, though it is known by another name, as the state is that the turn leaves
pub sent_on :
    {S P E : Type 0} (digests : Digests) (turns : Turns S P E) (may : P → P → Type 0) (header carried : List ℕ)
    (sink sink' : SinkState) (spot spot' there : S) (port port' : P) (left : E) (sent : Sent) (out out' : List ℕ)
    → turns header carried spot port out spot' port' left → Sending sink sink' (sent_by digests out') sent
    → out' ≡ out → there ≡ spot'
    → AnswersPdu digests turns may header carried sink spot port (Some (left, sent)) sink' there port'
sent_on {S = S} digests turns may header carried sink sink' spot spot' there port port' left sent out out' turn sending
    same is =
    turned left sent out' sink' there port'
    (subst (λ (o : List ℕ). turns header carried spot port o there port' left) (sym same)
    (subst (λ (s : S). turns header carried spot port out s port' left) (sym is) turn)) sending

-- what a PDU did, by whether it was answered
abbrev pub IsAnswered : {S P E : Type 0} → Digests → Turns S P E → (P → P → Type 0) → List ℕ → List ℕ → SinkState → S
    → P → Option (E × Sent) → SinkState → S → P → Type 0
IsAnswered digests turns may header carried sink spot port (Some answered) sink' spot' port' =
    (out : List ℕ) × turns header carried spot port out spot' port' answered.0
    × Sending sink sink' (sent_by digests out) answered.1
IsAnswered digests turns may header carried sink spot port None sink' spot' port' = (sink' ≡ sink) × may port port'

pub answers_of :
    {S P E : Type 0} (digests : Digests) (turns : Turns S P E) (may : P → P → Type 0) (header carried : List ℕ)
    (sink sink' : SinkState) (spot spot' : S) (port port' : P) (answered : Option (E × Sent))
    → AnswersPdu digests turns may header carried sink spot port answered sink' spot' port'
    → IsAnswered digests turns may header carried sink spot port answered sink' spot' port'
answers_of digests turns may header carried sink sink' spot spot' port port' _
    (turned left sent out _ _ _ turn sending) = (out, turn, sending)
answers_of digests turns may header carried sink sink' spot spot' port port' _ (unanswered _ _ done) = (refl, done)

-- one more PDU
pub served_more :
    {S P E : Type 0} (steps : PhaseSteps S P E) (next : E) (count : ℕ) (old between new : Place S P)
    → ServesPdus steps next count old between → steps between new next Whole
    → ServesPdus steps next (count + 1) old new
served_more steps next count old between new served serves =
    subst (λ (n : ℕ). ServesPdus steps next n old new) (suc-eq-add-one count) (between, served, serves)

module _ {P : Type 0} (commands : Commands P) (refuses : CommandRefusals P) (resets : UnitResets P) (address : List ℕ)
    (limits : Limits) where
  -- by how the turn left the session, and how far its answer was written
  by_step :
      (old new : Place FeatureSpot P) (left : TurnEnd) (sent : Sent)
      → FeatureStep commands refuses resets address limits old new left sent
      → NextIsServed commands refuses resets address limits old (result_of_turn left sent) new
  by_step old new Next Whole step = step
  by_step old new LoggedOut Whole step = λ count. step
  by_step old new BrokenData Whole step = λ count. step
  by_step old new Rejected Whole step = λ count. step
  by_step old new WrongData Whole step = λ count. step
  by_step old new Next (Part n) step = λ count. record { left = Next; count = n; serves = step }
  by_step old new LoggedOut (Part n) step = λ count. record { left = LoggedOut; count = n; serves = step }
  by_step old new BrokenData (Part n) step = λ count. record { left = BrokenData; count = n; serves = step }
  by_step old new Rejected (Part n) step = λ count. record { left = Rejected; count = n; serves = step }
  by_step old new WrongData (Part n) step = λ count. record { left = WrongData; count = n; serves = step }

  -- a PDU that was read, by its fields
  pub arrival_of :
      (fields : InitiatorPdu) (header carried : List ℕ) (old : FeatureSpot) (port : P) (out : List ℕ)
      (new : FeatureSpot) (port' : P) (end : TurnEnd) → fields ≡ initiator_pdu header
      → ArrivalFor commands refuses resets address limits header carried fields
      (waits old.session.flow (length old.waiting) fields) old port out new port' end
      → ArrivalTurn commands refuses resets address limits header carried old port out new port' end
  arrival_of fields header carried old port out new port' end decoded turn =
      subst (λ (f : InitiatorPdu). ArrivalFor commands refuses resets address limits header carried f
      (waits old.session.flow (length old.waiting) f) old port out new port' end) decoded turn

  -- a PDU that was read
  arrival_answered :
      (old new : Place FeatureSpot P) (answered : Option (TurnEnd × Sent))
      → is_next_waiting old.spot.session.flow old.spot.waiting ≡ false
      → IsHandled limits.digests (ArrivalTurn commands refuses resets address limits) (MayUse commands resets) old new
      answered
      → NextIsServed commands refuses resets address limits old (result_of_answer answered) new
  arrival_answered old new (Some (left, sent)) none_next serves =
      by_step old new left sent (of_arrival (record { none_next = none_next; serves = serves }))
  arrival_answered old new None none_next none = λ count. read_lacks none

  -- the same in a session that is `old`, by what becomes of it
  pub arrival_served :
      (source source' : SourceState) (sink sink' : SinkState) (old first new : FeatureSpot) (port port' : P)
      (header buffer carried : List ℕ) (answered : Option (TurnEnd × Sent)) (result : PduResult) → first ≡ old
      → is_next_waiting old.session.flow old.waiting ≡ false
      → ReadsSentPdu limits.digests most_segment source source' header buffer
      → carried ≡ take (segment_len header) buffer
      → AnswersPdu limits.digests (ArrivalTurn commands refuses resets address limits) (MayUse commands resets) header
      carried sink first port answered sink' new port'
      → result ≡ result_of_answer answered
      → NextIsServed commands refuses resets address limits
      (record { source = source; sink = sink; spot = old; port = port }) result
      (record { source = source'; sink = sink'; spot = new; port = port' })
  arrival_served source source' sink sink' old first new port port' header buffer carried answered result is none_next
      reads came answers becomes =
      subst (λ (r : PduResult). NextIsServed commands refuses resets address limits
      (record { source = source; sink = sink; spot = old; port = port }) r
      (record { source = source'; sink = sink'; spot = new; port = port' })) (sym becomes)
      (arrival_answered _ _ answered none_next
      (handled limits.digests (ArrivalTurn commands refuses resets address limits) (MayUse commands resets) source
      source' sink sink' old new port port' header buffer answered reads
      (subst (λ (s : FeatureSpot). AnswersPdu limits.digests (ArrivalTurn commands refuses resets address limits)
      (MayUse commands resets) header (take (segment_len header) buffer) sink s port answered sink' new port') is
      (subst (λ (l : List ℕ). AnswersPdu limits.digests (ArrivalTurn commands refuses resets address limits)
      (MayUse commands resets) header l sink first port answered sink' new port') came answers))))

  -- a PDU that was read, and whose data digest is wrong
  damaged_answered :
      (source source' : SourceState) (sink sink' : SinkState) (old new : FeatureSpot) (port : P) (header : List ℕ)
      (answered : Option (TurnEnd × Sent)) → is_next_waiting old.session.flow old.waiting ≡ false
      → ReadsDamaged limits.digests most_segment source source' header
      → IfSome answered (λ a. RejectsDamaged limits.digests header old sink new sink' a.0 a.1)
      → IfNone answered (sink' ≡ sink)
      → NextIsServed commands refuses resets address limits
      (record { source = source; sink = sink; spot = old; port = port }) (result_of_answer answered)
      (record { source = source'; sink = sink'; spot = new; port = port })
  damaged_answered source source' sink sink' old new port header (Some (left, sent)) none_next reads rejects same =
      by_step _ _ left sent
      (of_damage
      (record { header = header; none_next = none_next; reads = reads; rejects = rejects; port = refl }))
  damaged_answered source source' sink sink' old new port header None none_next reads rejects same =
      λ count. damaged_lacks header reads same refl

  -- the same in a session that is `old`, by what becomes of it
  pub damaged_served :
      (source source' : SourceState) (sink sink' : SinkState) (old first new : FeatureSpot) (port : P)
      (header : List ℕ) (answered : Option (TurnEnd × Sent)) (result : PduResult) → first ≡ old
      → is_next_waiting old.session.flow old.waiting ≡ false
      → ReadsDamaged limits.digests most_segment source source' header
      → IfSome answered (λ a. RejectsDamaged limits.digests header first sink new sink' a.0 a.1)
      → IfNone answered (sink' ≡ sink) → result ≡ result_of_answer answered
      → NextIsServed commands refuses resets address limits
      (record { source = source; sink = sink; spot = old; port = port }) result
      (record { source = source'; sink = sink'; spot = new; port = port })
  damaged_served source source' sink sink' old first new port header answered result is none_next reads rejects same
      becomes =
      subst (λ (r : PduResult). NextIsServed commands refuses resets address limits
      (record { source = source; sink = sink; spot = old; port = port }) r
      (record { source = source'; sink = sink'; spot = new; port = port })) (sym becomes)
      (damaged_answered source source' sink sink' old new port header answered none_next reads
      (subst (λ (s : FeatureSpot). IfSome answered
      (λ a. RejectsDamaged limits.digests header s sink new sink' a.0 a.1)) is rejects) same)

  -- no PDU that was read, and perhaps a ping
  pub unread_served :
      (old : Place FeatureSpot P) (source : SourceState) (sink : SinkState) (reason : ReceiveEnd) (pinged : Option Sent)
      → is_next_waiting old.spot.session.flow old.spot.waiting ≡ false
      → ReadsNoSentPdu limits.digests most_segment old.source source reason
      → MayPing limits.digests old.spot.session.flow reason old.sink pinged sink
      → NextIsServed commands refuses resets address limits old (result_of_ping reason pinged)
      (record { source = source; sink = sink; spot = old.spot; port = old.port })
  unread_served old source sink reason None none_next reads same =
      λ count. record { reads = reads; sink = same; spot = refl; port = refl }
  unread_served old source sink reason (Some sent) none_next reads (is_idle, sending) =
      let idle : ReadsNoSentPdu limits.digests most_segment old.source source unread.Idle =
      subst (λ (r : ReceiveEnd). ReadsNoSentPdu limits.digests most_segment old.source source r) is_idle reads in
      by_step old _ Next sent
      (of_silence
      (record {
        none_next = none_next;
        read = subst (λ (l : List ℕ). Reading old.source source l true)
            (no_bytes (is_plain limits.digests) idle.bytes idle.stops) idle.read;
        spot = refl;
        port = refl;
        left_is = refl;
        sending = sending;
      }))

  -- a PDU that waited: it was taken from those of a session that is `old`, and its turn left `new`
  waiting_answered :
      (source : SourceState) (sink sink' : SinkState) (old first taken new : FeatureSpot) (port port' : P)
      (pdu : WaitingPdu) (answered : Option (TurnEnd × Sent))
      → first ≡ old → TakesWaiting first.session.flow first.waiting (Some pdu) taken.waiting
      → taken.session ≡ first.session
      → IsAnswered limits.digests (WaitingTurn commands refuses address limits pdu.state pdu.early pdu.fields)
      (MayGive commands) pdu.header pdu.carried sink taken.session port answered sink' new.session port'
      → new.waiting ≡ taken.waiting
      → NextIsServed commands refuses resets address limits
      (record { source = source; sink = sink; spot = old; port = port }) (result_of_answer answered)
      (record { source = source; sink = sink'; spot = new; port = port' })
  waiting_answered source sink sink' old first taken new port port' pdu (Some (left, sent)) is oldest same
      (out, turn, sending) kept =
      by_step _ _ left sent
      (of_waiting
      (record {
        pdu = pdu;
        out = out;
        oldest = subst (λ (s : FeatureSpot). TakesWaiting s.session.flow s.waiting (Some pdu) new.waiting) is
            (subst (λ (w : List WaitingPdu). TakesWaiting first.session.flow first.waiting (Some pdu) w) (sym kept)
            oldest);
        turn = subst (λ (s : FeatureSpot). WaitingTurn commands refuses address limits pdu.state pdu.early pdu.fields
            pdu.header pdu.carried s.session port out new.session port' left) is
            (subst (λ (s : Spot). WaitingTurn commands refuses address limits pdu.state pdu.early pdu.fields pdu.header
            pdu.carried s port out new.session port' left) same turn);
        source = refl;
        sending = sending;
      }))
  waiting_answered source sink sink' old first taken new port port' pdu None is oldest same (unsent, done) kept =
      λ count. waiting_lacks refl unsent done

  -- the same by what becomes of the session, which is `last` in the end
  pub waiting_served :
      (source : SourceState) (sink sink' : SinkState) (old first taken new last : FeatureSpot) (port port' : P)
      (pdu : WaitingPdu) (answered : Option (TurnEnd × Sent)) (result : PduResult)
      → first ≡ old → TakesWaiting first.session.flow first.waiting (Some pdu) taken.waiting
      → taken.session ≡ first.session
      → IsAnswered limits.digests (WaitingTurn commands refuses address limits pdu.state pdu.early pdu.fields)
      (MayGive commands) pdu.header pdu.carried sink taken.session port answered sink' new.session port'
      → new.waiting ≡ taken.waiting → result ≡ result_of_answer answered → last ≡ new
      → NextIsServed commands refuses resets address limits
      (record { source = source; sink = sink; spot = old; port = port }) result
      (record { source = source; sink = sink'; spot = last; port = port' })
  waiting_served source sink sink' old first taken new last port port' pdu answered result is oldest same answers kept
      becomes ends =
      subst (λ (s : FeatureSpot). NextIsServed commands refuses resets address limits
      (record { source = source; sink = sink; spot = old; port = port }) result
      (record { source = source; sink = sink'; spot = s; port = port' })) (sym ends)
      (subst (λ (r : PduResult). NextIsServed commands refuses resets address limits
      (record { source = source; sink = sink; spot = old; port = port }) r
      (record { source = source; sink = sink'; spot = new; port = port' })) (sym becomes)
      (waiting_answered source sink sink' old first taken new port port' pdu answered is oldest same answers kept))

  -- the end
  pub feature_ended :
      (count : ℕ) (old between new : Place FeatureSpot P) (reason : FeatureEnd)
      → ServesPdus (FeatureStep commands refuses resets address limits) Next count old between
      → EndsFeature commands refuses resets address limits count between reason new
      → RunsFeature commands refuses resets address limits old reason new
  feature_ended count old between new reason served ends =
      record { count = count; between = between; served = served; ends = ends }

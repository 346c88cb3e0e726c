-- A conversation, as its lines come.
use Rattle.std.proofs.Common.{◌≡◌, ◌∙◌, ◌+◌, ◌≤◌, ℕ, Bool, true, false, List, [], ◌∷◌, ◌++◌, Option, Some, None, Result}
use Rattle.std.proofs.Common.{refl, sym, ap, subst, length-append, inl, inr, arith}
use Rattle.ar_frames.specs.Stream.{SourceState, SinkState}
use Rattle.ar_frames.proofs.Streams.{Reading-none}
use Rattle.ar_frames.specs.declared.transfer.Sent.{Sent}
use Rattle.ar_frames.specs.declared.transfer.Sent.TheVariants.{Whole, Part}
use Rattle.ar_language.specs.Lines.{line_fault}
use Rattle.ar_language.specs.declared.fault.FaultKind.{FaultKind}
use Rattle.ar_conversation.specs.declared.order.OperatorOrder.{OperatorOrder}
use Rattle.ar_conversation.specs.declared.order.LineFault.{LineFault}
use Rattle.ar_conversation.specs.declared.conversation.OperatorEnd.{OperatorEnd}
use Rattle.ar_conversation.specs.declared.conversation.OperatorEnd.TheVariants as ends
use Rattle.ar_conversation.specs.declared.conversation.LineResult.{LineResult}
use Rattle.ar_conversation.specs.declared.conversation.LineResult.TheVariants.{Answered}
use Rattle.ar_conversation.specs.Controller.{OperatorAnswers}
use Rattle.ar_conversation.specs.Lines.{EndsInLine, KeepsLine, LineIsRead, seen_behind}
use Rattle.ar_conversation.proofs.Coming.{piece_empty}
use Rattle.ar_conversation.specs.Talk.{ClosesTalk, OperatorTalk, Converses, HasTalked, ReadsBytes, Replies}
use Rattle.ar_conversation.specs.Talk.{LineIsAnswered, line_result_by, ConversationState, LeavesOpen}
use Rattle.ar_conversation.specs.Talk.{RespondsToLine, Talks, NextIsAnswered}
use Rattle.ar_conversation.specs.Talk.{CutIsAnswered, SendsCut, cut_end, is_unreadable, line_result_after}

-- what is kept of a line's bytes says what they are read as
kept : (line text : List ℕ) (fault : Option FaultKind) (read : Result (Option OperatorOrder) LineFault)
    → KeepsLine line text fault
    → ReadsBytes fault text read → ReadsBytes (line_fault line) line read
kept line text (Some kind) read tells reads = subst (λ f. ReadsBytes f line read) (sym tells.fault_is) reads
kept line text None read tells reads =
    subst (λ f. ReadsBytes f line read) (sym tells.fault_is)
    (subst (λ t. ReadsBytes None t read) (tells.text_is refl) reads)

module _ {C : Type 0} (answers : OperatorAnswers C) where
  replies_kept : (line text : List ℕ) (fault : Option FaultKind) (old new : C) (sink sink' : SinkState) (stop : Bool)
      (sent : Sent)
      → KeepsLine line text fault → Replies answers fault text old sink stop sent new sink'
      → Replies answers (line_fault line) line old sink stop sent new sink'
  replies_kept line text fault old new sink sink' stop sent tells replies = record {
    answer = replies.answer;
    responds = record {
      read = replies.responds.read;
      reads = kept line text fault replies.responds.read tells replies.responds.reads;
      responds = replies.responds.responds;
    };
    sending = replies.sending;
  }

  -- a line that was read and answered, and whether the conversation goes on
  next_is_answered : (source source' : SourceState) (sink sink' : SinkState) (old new : C) (text : List ℕ)
      (fault : Option FaultKind) (result : LineResult)
      → LineIsRead source text fault source' → LineIsAnswered answers fault text old sink result new sink'
      → NextIsAnswered answers (record { source = source; sink = sink; controller = old })
      (line_result_after (is_unreadable fault) result)
      (record { source = source'; sink = sink'; controller = new })
  next_is_answered source source' sink sink' old new text fault result comes answered =
      subst (λ t. NextIsAnswered answers before (line_result_after (is_unreadable fault) t) after)
      (sym answered.result_is)
      (at (is_unreadable fault) (ap is_unreadable comes.tells.fault_is) answered.stop answered.sent
      (line_is answered.stop answered.sent answered.replies))
    where
      before : ConversationState C
      before = record { source = source; sink = sink; controller = old }

      after : ConversationState C
      after = record { source = source'; sink = sink'; controller = new }

      line_is : (stop : Bool) (sent : Sent) → Replies answers fault text old sink stop sent new sink'
          → RespondsToLine answers before comes.line stop sent after
      line_is stop sent replies = record {
        takes = comes.takes;
        replies = replies_kept comes.line text fault old new sink sink' stop sent comes.tells replies;
      }

      at : (unreadable : Bool) → is_unreadable (line_fault comes.line) ≡ unreadable → (stop : Bool) (sent : Sent)
          → RespondsToLine answers before comes.line stop sent after
          → NextIsAnswered answers before (line_result_after unreadable (line_result_by stop sent)) after
      at true is true Whole responds = record { line = comes.line; responds = responds }
      at false is true Whole responds = record { line = comes.line; responds = responds }
      at true is false Whole responds = record { line = comes.line; unreadable = is; responds = responds }
      at false is false Whole responds = (comes.line, record { responds = responds; is_text = is })
      at true is true (Part n) responds =
          inl (record { line = comes.line; stop = true; count = n; responds = responds })
      at false is true (Part n) responds =
          inl (record { line = comes.line; stop = true; count = n; responds = responds })
      at true is false (Part n) responds =
          inl (record { line = comes.line; stop = false; count = n; responds = responds })
      at false is false (Part n) responds =
          inl (record { line = comes.line; stop = false; count = n; responds = responds })

  -- the same, with the result by its equation
  pub next_after : (source source' : SourceState) (sink sink' : SinkState) (old new : C) (text : List ℕ)
      (fault : Option FaultKind) (result ended : LineResult)
      → LineIsRead source text fault source' → LineIsAnswered answers fault text old sink result new sink'
      → ended ≡ line_result_after (is_unreadable fault) result
      → NextIsAnswered answers (record { source = source; sink = sink; controller = old }) ended
      (record { source = source'; sink = sink'; controller = new })
  next_after source source' sink sink' old new text fault result ended comes answered is =
      let before : ConversationState C = record { source = source; sink = sink; controller = old } in
      let after : ConversationState C = record { source = source'; sink = sink'; controller = new } in
      subst (λ r. NextIsAnswered answers before r after) (sym is)
      (next_is_answered source source' sink sink' old new text fault result comes answered)

  -- a line that was cut
  cut_closes : (source source' : SourceState) (sink sink' : SinkState) (held : C) (sent : Sent)
      → EndsInLine source source' → SendsCut sink sink' sent
      → ClosesTalk answers (record { source = source; sink = sink; controller = held }) (cut_end sent)
      (record { source = source'; sink = sink'; controller = held })
  cut_closes source source' sink sink' held Whole ends sends =
      record { ends = ends; sends = sends; controller = refl }
  cut_closes source source' sink sink' held (Part n) ends sends =
      inr (n, record { ends = ends; sends = sends; controller = refl })

  pub next_cut : (source source' : SourceState) (sink sink' : SinkState) (held : C) (result : LineResult)
      → EndsInLine source source' → CutIsAnswered sink result sink'
      → NextIsAnswered answers (record { source = source; sink = sink; controller = held }) result
      (record { source = source'; sink = sink'; controller = held })
  next_cut source source' sink sink' held result ends answered =
      let before : ConversationState C = record { source = source; sink = sink; controller = held } in
      let after : ConversationState C = record { source = source'; sink = sink'; controller = held } in
      subst (λ r. NextIsAnswered answers before r after) (sym answered.result_is)
      (cut_closes source source' sink sink' held answered.sent ends answered.sends)

  -- one more line
  talks_more : (lines : List (List ℕ)) (line : List ℕ) (old middle new : ConversationState C)
      → Talks answers old lines middle
      → LeavesOpen answers middle line new → Talks answers old (lines ++ line ∷ []) new
  talks_more [] line old middle new talks responds =
      (new, subst (λ p. LeavesOpen answers p line new) talks responds, refl)
  talks_more (first ∷ lines) line old middle new talks responds =
      (talks.0, talks.1, talks_more lines line talks.0 middle new talks.2 responds)

  pub talked_none : (place : ConversationState C) → HasTalked answers place 0 place
  talked_none place = record { lines = []; count_is = refl; talks = refl }

  pub talked_more : (old middle new : ConversationState C) (count : ℕ) → HasTalked answers old count middle
      → NextIsAnswered answers middle Answered new
      → HasTalked answers old (count + 1) new
  talked_more old middle new count talked responds = record {
    lines = talked.lines ++ responds.0 ∷ [];
    count_is = omega (arith, length-append talked.lines (responds.0 ∷ []), talked.count_is);
    talks = talks_more talked.lines responds.0 old middle new talked.talks responds.1;
  }

  pub talked_end : (old middle new : ConversationState C) (count : ℕ) (end : OperatorEnd)
      → HasTalked answers old count middle → count ≤ 1000000
      → ClosesTalk answers middle end new → Converses answers old end new
  talked_end old middle new count end talked few closes = record {
    lines = talked.lines;
    few = omega (arith, talked.count_is);
    middle = middle;
    talks = talked.talks;
    closes = closes;
  }

  pub talked_full : (old new : ConversationState C) (count : ℕ) → HasTalked answers old count new → count ≤ 1000000
      → Converses answers old ends.Bound new
  talked_full old new count talked few =
      talked_end old new new count ends.Bound talked few (
        record { part = []; one = λ k d within. absurd (omega arith); read = Reading-none new.source },
        record { sink = refl; controller = refl },
      )

  -- what was read is dropped
  pub heard : (piece dropped : List ℕ) (source source' : SourceState) (sink sink' : SinkState) (old new : C)
      (end : OperatorEnd) → piece ≡ []
      → Converses answers (record { source = seen_behind piece source; sink = sink; controller = old }) end
      (record { source = seen_behind dropped source'; sink = sink'; controller = new })
      → OperatorTalk answers source source' sink sink' old new end
  heard piece dropped source source' sink sink' old new end none converses =
      let f : SourceState → ConversationState C = λ s. record { source = s; sink = sink; controller = old } in
      let after : ConversationState C =
      record { source = seen_behind dropped source'; sink = sink'; controller = new } in
      record {
        dropped = dropped;
        converses = subst (λ p. Converses answers p end after) (ap (λ l. f (seen_behind l source)) none
            ∙ ap f (piece_empty source)) converses;
      }

  -- nothing was read
  pub unheard : (source : SourceState) (sink : SinkState) (old : C)
      → OperatorTalk answers source source sink sink old old ends.NoMemory
  unheard source sink old =
      let f : SourceState → ConversationState C = λ s. record { source = s; sink = sink; controller = old } in
      let place : ConversationState C = f source in
      record {
        dropped = [];
        converses = record {
          lines = [];
          few = omega arith;
          middle = place;
          talks = refl;
          closes = ap f (piece_empty source);
        };
      }

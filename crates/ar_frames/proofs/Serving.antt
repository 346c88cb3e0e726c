-- How the frames of a session join: one more at the end of those served so far.
use Rattle.std.proofs.Common.{◌≡◌, ℕ, ◌+◌, ◌<◌, ◌≤◌, true, false, List, [], ◌∷◌, ◌++◌, refl, sym, ap, subst, ◌∙◌}
use Rattle.std.proofs.Common.{append_assoc, append-nil, length, length-append, take, arith, le_refl}
use Rattle.std.proofs.Math.Numerals.{suc-eq-add-one}
use Rattle.ar_scsi.specs.declared.reply.Reply.{Reply}
use Rattle.ar_frames.specs.declared.frame.Request.{Request}
use Rattle.ar_frames.specs.declared.frame_step.FrameResult.TheVariants.{Answered, Unsent, Ended as ResultEnded}
use Rattle.ar_frames.specs.declared.end.EndReason.{EndReason}
use Rattle.ar_frames.specs.declared.end.EndReason.TheVariants as reason
use Rattle.ar_frames.specs.declared.end.SessionEnd.{SessionEnd}
use Rattle.ar_frames.specs.Stream.{SourceState, SinkState, Writing}
use Rattle.ar_frames.specs.Frame.{IsFrame, IsReplyFrame, status_byte, sense_bytes}
use Rattle.ar_frames.specs.Conversation.{Commands, RepliesTo, RepliesToAll, AreFrames, AreReplyFrames, Conversation}
use Rattle.ar_frames.specs.Conversation.{reply_len, last_len}
use Rattle.ar_frames.specs.Observer.{Announces, Reports}
use Rattle.ar_frames.specs.Port.{CommandRefusals, Logins}
use Rattle.ar_frames.specs.Session.{admitted, most_frames, is_read_fault, WritesAnswers, WritesPart, WritesAllButLast}
use Rattle.ar_frames.specs.Session.{Session}
use Rattle.ar_frames.specs.FrameStep.{ServesFrame, EndsStep, Served, ServesAll, Moment, StepsTo}
use Rattle.ar_frames.specs.FrameStep.{HasStepped, RunsInSteps, full, unsent, stopped}
use Rattle.ar_disks.specs.declared.address.Host.{Host}
use Rattle.ar_frames.specs.Login.{IsAdmitted}
use Rattle.ar_frames.proofs.Streams.{Reading-trans, Reading-same, Reading-none, Writing-trans, Writing-same}
use Rattle.ar_frames.proofs.Streams.{Writing-none, take-append_more}
use Rattle.ar_frames.proofs.Entering.{no_frames}

-- replies to requests, and one more reply
replies_to_more : {P : Type 0} (commands : Commands P) (old mid new : P) (requests : List Request)
    (replies : List Reply) (request : Request) (reply : Reply)
    → RepliesToAll commands old requests replies mid → RepliesTo commands mid request reply new
    → RepliesToAll commands old (requests ++ request ∷ []) (replies ++ reply ∷ []) new
replies_to_more commands old mid new [] [] request reply replied answer =
    (new, subst (λ p. RepliesTo commands p request reply new) replied answer, refl)
replies_to_more commands old mid new [] (r ∷ rs) request reply replied answer = absurd replied
replies_to_more commands old mid new (q ∷ qs) [] request reply replied answer = absurd replied
replies_to_more commands old mid new (q ∷ qs) (r ∷ rs) request reply replied answer =
    (replied.0, replied.1, replies_to_more commands replied.0 mid new qs rs request reply replied.2 answer)

-- frames and one more
frames_more : (requests : List Request) (read : List ℕ) (request : Request) (frame : List ℕ) → AreFrames requests read
    → IsFrame request frame
    → AreFrames (requests ++ request ∷ []) (read ++ frame)
frames_more [] read request frame are is =
    (frame, [], ap (λ (l : List ℕ). l ++ frame) are ∙ sym (append-nil frame), is, refl)
frames_more (q ∷ qs) read request frame are is = (
  are.0,
  are.1 ++ frame,
  ap (λ (l : List ℕ). l ++ frame) are.2 ∙ append_assoc are.0 are.1 frame,
  are.3,
  frames_more qs are.1 request frame are.4 is,
)

-- reply frames and one more
replies_more : (requests : List Request) (replies : List Reply) (answers : List ℕ) (request : Request) (reply : Reply)
    (frame : List ℕ)
    → AreReplyFrames requests replies answers → IsReplyFrame request.tag reply frame
    → AreReplyFrames (requests ++ request ∷ []) (replies ++ reply ∷ []) (answers ++ frame)
replies_more [] [] answers request reply frame are is =
    (frame, [], ap (λ (l : List ℕ). l ++ frame) are ∙ sym (append-nil frame), is, refl)
replies_more [] (r ∷ rs) answers request reply frame are is = absurd are
replies_more (q ∷ qs) [] answers request reply frame are is = absurd are
replies_more (q ∷ qs) (r ∷ rs) answers request reply frame are is = (
  are.0,
  are.1 ++ frame,
  ap (λ (l : List ℕ). l ++ frame) are.2 ∙ append_assoc are.0 are.1 frame,
  are.3,
  replies_more qs rs are.1 request reply frame are.4 is,
)

-- a conversation and one more frame
conversation_more : {P : Type 0} (commands : Commands P) (old mid new : P) (read answers frame reply_frame : List ℕ)
    (count : ℕ) (request : Request) (reply : Reply)
    → Conversation commands old mid read answers count → IsFrame request frame
    → RepliesTo commands mid request reply new → IsReplyFrame request.tag reply reply_frame
    → Conversation commands old new (read ++ frame) (answers ++ reply_frame) (count + 1)
conversation_more commands old mid new read answers frame reply_frame count request reply conversation is_frame answer
    is_reply = record {
      requests = conversation.requests ++ request ∷ [];
      replies = conversation.replies ++ reply ∷ [];
      replied = replies_to_more commands old mid new conversation.requests conversation.replies request reply
          conversation.replied answer;
      read_is = frames_more conversation.requests read request frame conversation.read_is is_frame;
      answers_are =
          replies_more conversation.requests conversation.replies answers request reply reply_frame
          conversation.answers_are
          is_reply;
      frames_is =
          ap (λ (n : ℕ). n + 1) conversation.frames_is ∙ sym (length-append conversation.requests (request ∷ []));
    }

-- nothing was served yet
pub served_none : {P : Type 0} (commands : Commands P) (source : SourceState) (sink : SinkState) (port : P)
    → Served commands source source sink sink port port 0
served_none commands source sink port = record {
  frames = [];
  answers = [];
  conversation = no_frames commands port;
  read = Reading-none source;
  written = Writing-none sink;
}

-- one more frame was served
pub served_more : {P O : Type 0} {n0 n1 : ℕ} {refuses : CommandRefusals P} {announces : Announces O}
    {reports : Reports O} {host : Host} {o0 o1 : O} (commands : Commands P) (s0 s1 s2 : SourceState)
    (w0 w1 w2 : SinkState) (p0 p1 p2 : P) (count : ℕ)
    → Served commands s0 s1 w0 w1 p0 p1 count
    → ServesFrame commands refuses announces reports host s1 s2 w1 w2 p1 p2 o0 o1 n0 n1 Answered
    → Served commands s0 s2 w0 w2 p0 p2 (count + 1)
served_more commands s0 s1 s2 w0 w1 w2 p0 p1 p2 count served step = record {
  frames = served.frames ++ step.reads.body;
  answers = served.answers ++ step.answers.frame;
  conversation =
      conversation_more commands p0 p1 p2 served.frames served.answers step.reads.body step.answers.frame count
      step.request step.answers.reply
      served.conversation step.reads.is_frame step.answers.answers step.answers.is_frame;
  read = Reading-trans s0 s1 s2 served.frames step.reads.body false served.read step.reads.read;
  written = Writing-trans w0 w1 w2 served.answers step.answers.frame false served.written step.answers.written;
}

-- what was written whole, and then a proper prefix
part_after : (a b c : SinkState) (xs ys : List ℕ) → Writing a b xs false → WritesPart b c ys → WritesPart a c (xs ++ ys)
part_after a b c xs ys first part = record {
  n = length xs + part.n;
  proper = omega (arith, length-append xs ys, part.proper);
  written = Writing-same a c (xs ++ take part.n ys) (take (length xs + part.n) (xs ++ ys)) true
      (sym (take-append_more xs ys part.n))
      (Writing-trans a b c xs (take part.n ys) true first part.written);
}

-- and then answers of which the last has this length
but_last_after : (a b c : SinkState) (xs ys : List ℕ) (last least : ℕ) → last ≤ least → Writing a b xs false
    → WritesAllButLast b c ys last
    → WritesAllButLast a c (xs ++ ys) least
unfolding part_after
but_last_after a b c xs ys last least fits first rest =
    let whole : length (xs ++ ys) ≤ (length xs + rest.part.n) + least =
    omega (arith, length-append xs ys, rest.whole, fits) in
    record { part = part_after a b c xs ys first rest.part; whole = whole }

-- what was written whole, and then answers as far as the end says
pub answers_after : (end : EndReason) (a b c : SinkState) (xs ys : List ℕ) (last least : ℕ) → last ≤ least
    → Writing a b xs false
    → WritesAnswers end b c ys last → WritesAnswers end a c (xs ++ ys) least
answers_after reason.End a b c xs ys last least fits first rest = Writing-trans a b c xs ys false first rest
answers_after reason.BadLogin a b c xs ys last least fits first rest = Writing-trans a b c xs ys false first rest
answers_after reason.HostInUse a b c xs ys last least fits first rest = Writing-trans a b c xs ys false first rest
answers_after (reason.TooShort n) a b c xs ys last least fits first rest = Writing-trans a b c xs ys false first rest
answers_after (reason.TooLong n) a b c xs ys last least fits first rest = Writing-trans a b c xs ys false first rest
answers_after reason.Cut a b c xs ys last least fits first rest = Writing-trans a b c xs ys false first rest
answers_after reason.Read a b c xs ys last least fits first rest = Writing-trans a b c xs ys false first rest
answers_after reason.Write a b c xs ys last least fits first rest =
    but_last_after a b c xs ys last least fits first rest
answers_after reason.Bound a b c xs ys last least fits first rest = Writing-trans a b c xs ys false first rest

-- the last frame of replies and one more
last_len_more : (len : ℕ) (replies : List Reply) (reply : Reply)
    → last_len len (replies ++ reply ∷ []) ≡ reply_len reply
last_len_more len [] reply = refl
last_len_more len (r ∷ rs) reply = last_len_more (reply_len r) rs reply

-- the frame of a reply has its length
pub frame_len : (tag : ℕ) (reply : Reply) (frame : List ℕ) → IsReplyFrame tag reply frame
    → length frame ≡ reply_len reply
frame_len tag reply frame is =
    let sense = sense_bytes reply.sense in
    let tail = status_byte reply.status ∷ (length sense ∷ (sense ++ reply.payload)) in
    omega (
      arith,
      ap length is.layout,
      length-append is.count (is.name ++ tail),
      length-append is.name tail,
      length-append sense reply.payload,
      is.count_len,
      is.name_len,
    )

-- an answer before the frames may be longer than none
last_len_grows : (len : ℕ) (replies : List Reply) → last_len 0 replies ≤ last_len len replies
last_len_grows len [] = omega arith
last_len_grows len (r ∷ rs) = le_refl (last_len (reply_len r) rs)

-- the reply to the last frame wasn't written whole
pub serves_unsent : {P O : Type 0} {n0 n1 : ℕ} {refuses : CommandRefusals P} {announces : Announces O}
    {reports : Reports O} {host : Host} {o0 o1 : O} (commands : Commands P) (s0 s1 s2 : SourceState)
    (w0 w1 w2 : SinkState) (p0 p1 p2 : P) (count : ℕ)
    → Served commands s0 s1 w0 w1 p0 p1 count → count < most_frames
    → ServesFrame commands refuses announces reports host s1 s2 w1 w2 p1 p2 o0 o1 n0 n1 Unsent
    → ServesAll commands s0 s2 w0 w2 p0 p2 (record { frames = count + 1; reason = reason.Write })
unfolding part_after conversation_more
serves_unsent commands s0 s1 s2 w0 w1 w2 p0 p1 p2 count served below step = record {
  frames = served.frames ++ step.reads.body;
  answers = served.answers ++ step.answers.frame;
  rest = [];
  conversation =
      conversation_more commands p0 p1 p2 served.frames served.answers step.reads.body step.answers.frame count
      step.request step.answers.reply
      served.conversation step.reads.is_frame step.answers.answers step.answers.is_frame;
  closes = (omega (arith, below), refl);
  read = Reading-same s0 s2 _ _ false (sym (append-nil (served.frames ++ step.reads.body)))
      (Reading-trans s0 s1 s2 served.frames step.reads.body false served.read step.reads.read);
  ended = tt;
  written =
      let part = step.answers.written in
      let whole : length (served.answers ++ step.answers.frame) ≤ (length served.answers + part.n)
      + last_len 0 (served.conversation.replies ++ step.answers.reply ∷ []) =
      omega (
        arith,
        length-append served.answers step.answers.frame,
        frame_len step.request.tag step.answers.reply step.answers.frame step.answers.is_frame,
        last_len_more 0 served.conversation.replies step.answers.reply,
      ) in
      record { part = part_after w0 w1 w2 served.answers step.answers.frame served.written part; whole = whole };
}

-- no whole frame came after those served
pub serves_ended : {P O : Type 0} {n0 n1 : ℕ} {o0 o1 : O} (commands : Commands P) (s0 s1 s2 : SourceState)
    (w0 w1 w2 : SinkState) (p0 p1 p2 : P) (count : ℕ) (end : EndReason)
    → Served commands s0 s1 w0 w1 p0 p1 count → count < most_frames → EndsStep s1 s2 w1 w2 p1 p2 o0 o1 n0 n1 end
    → ServesAll commands s0 s2 w0 w2 p0 p2 (record { frames = count; reason = end })
serves_ended commands s0 s1 s2 w0 w1 w2 p0 p1 p2 count end served below step =
    let conversation =
    subst (λ p. Conversation commands p0 p served.frames served.answers count) (sym step.same_port)
    served.conversation in
    record {
      frames = served.frames;
      answers = served.answers;
      rest = step.stops.body;
      conversation = conversation;
      closes = step.stops.closes count below;
      read = Reading-trans s0 s1 s2 served.frames step.stops.body (is_read_fault end) served.read step.stops.read;
      ended = step.stops.ended;
      written = subst (λ (l : List ℕ). WritesAnswers end w0 w2 l (last_len 0 conversation.replies))
          (append-nil served.answers)
          (answers_after end w0 w1 w2 served.answers [] 0 (last_len 0 conversation.replies) (omega arith) served.written
          (subst (λ (w : SinkState). WritesAnswers end w1 w [] 0) (sym step.same_sink) (step.stops.unwritten w1 0)));
    }

-- as many frames as may come were served
pub serves_bound : {P : Type 0} (commands : Commands P) (s0 s1 : SourceState) (w0 w1 : SinkState) (p0 p1 : P)
    (count : ℕ)
    → Served commands s0 s1 w0 w1 p0 p1 count → count ≡ most_frames
    → ServesAll commands s0 s1 w0 w1 p0 p1 (record { frames = most_frames; reason = reason.Bound })
serves_bound commands s0 s1 w0 w1 p0 p1 count served all = record {
  frames = served.frames;
  answers = served.answers;
  rest = [];
  conversation = subst (λ (n : ℕ). Conversation commands p0 p1 served.frames served.answers n) all served.conversation;
  closes = (refl, refl, refl);
  read = Reading-same s0 s1 _ _ false (sym (append-nil served.frames)) served.read;
  ended = tt;
  written = served.written;
}

-- one more frame was answered
pub stepped_more : {P O : Type 0} (commands : Commands P) (refuses : CommandRefusals P) (announces : Announces O)
    (reports : Reports O) (host : Host) (count : ℕ) (first between last : Moment P O)
    → HasStepped commands refuses announces reports host count first between
    → StepsTo commands refuses announces reports host between last Answered
    → HasStepped commands refuses announces reports host (count + 1) first last
stepped_more commands refuses announces reports host count first between last stepped step =
    subst (λ n. HasStepped commands refuses announces reports host n first last) (suc-eq-add-one count)
    (between, stepped, step)

-- as many frames as may come were answered in turn
pub steps_full : {P O : Type 0} (commands : Commands P) (refuses : CommandRefusals P) (announces : Announces O)
    (reports : Reports O) (host : Host) (count : ℕ) (first last : Moment P O)
    → HasStepped commands refuses announces reports host count first last → count ≡ most_frames
    → RunsInSteps commands refuses announces reports host first last
    (record { frames = most_frames; reason = reason.Bound })
steps_full commands refuses announces reports host count first last stepped all =
    subst (λ (n : ℕ). RunsInSteps commands refuses announces reports host first last
    (record { frames = n; reason = reason.Bound })) all
    (record { count = count; between = last; answered = stepped; finish = full all refl })

-- the reply to the last frame wasn't written whole
pub steps_unsent : {P O : Type 0} (commands : Commands P) (refuses : CommandRefusals P) (announces : Announces O)
    (reports : Reports O) (host : Host) (count : ℕ) (first between last : Moment P O)
    → HasStepped commands refuses announces reports host count first between
    → StepsTo commands refuses announces reports host between last Unsent
    → RunsInSteps commands refuses announces reports host first last
    (record { frames = count + 1; reason = reason.Write })
steps_unsent commands refuses announces reports host count first between last stepped step =
    record { count = count; between = between; answered = stepped; finish = unsent step }

-- no whole frame came after those answered
pub steps_stopped : {P O : Type 0} (commands : Commands P) (refuses : CommandRefusals P) (announces : Announces O)
    (reports : Reports O) (host : Host) (count : ℕ) (end : EndReason) (first between last : Moment P O)
    → HasStepped commands refuses announces reports host count first between
    → StepsTo commands refuses announces reports host between last (ResultEnded end)
    → RunsInSteps commands refuses announces reports host first last (record { frames = count; reason = end })
steps_stopped commands refuses announces reports host count end first between last stepped step =
    record { count = count; between = between; answered = stepped; finish = stopped end step }

-- a login after which the reader's limit was lifted
pub admitted_at : {P : Type 0} (host : Host) (logins : Logins P) (s0 s1 s2 : SourceState) (w0 w1 : SinkState)
    (p0 p1 : P)
    → s2 ≡ s1 → IsAdmitted host logins s0 s1 w0 w1 p0 p1 → IsAdmitted host logins s0 s2 w0 w1 p0 p1
admitted_at host logins s0 s1 s2 w0 w1 p0 p1 same entry =
    subst (λ (s : SourceState). IsAdmitted host logins s0 s w0 w1 p0 p1) (sym same) entry

-- a login, and then frames
pub session_of : {P : Type 0} (logins : Logins P) (commands : Commands P) (s0 s1 s2 : SourceState)
    (w0 w1 w2 : SinkState) (p0 p1 p2 : P) (end : SessionEnd) (host : Host)
    → IsAdmitted host logins s0 s1 w0 w1 p0 p1 → ServesAll commands s1 s2 w1 w2 p1 p2 end
    → Session logins commands s0 s2 w0 w2 p0 p2 end
session_of logins commands s0 s1 s2 w0 w1 w2 p0 p1 p2 end host entry all = record {
  stage = admitted;
  login = entry.login;
  greeting = 0x00 ∷ [];
  mid = p1;
  frames = all.frames;
  answers = all.answers;
  rest = all.rest;
  opening = entry.opening;
  conversation = all.conversation;
  closes = all.closes;
  read = Reading-trans s0 s1 s2 entry.login (all.frames ++ all.rest) (is_read_fault end.reason) entry.read all.read;
  ended = all.ended;
  written = answers_after end.reason w0 w1 w2 (0x00 ∷ []) all.answers (last_len 0 all.conversation.replies)
      (last_len 1 all.conversation.replies)
      (last_len_grows 1 all.conversation.replies) entry.written all.written;
}

-- How the parts of a request that were read one after the other join, and how a session ends where none came whole.
use Rattle.std.proofs.Common.{ℕ, ◌<◌, true, false, List, ◌++◌, subst, append_assoc, length}
use Rattle.ar_frames.specs.declared.frame.Request.{Request}
use Rattle.ar_frames.specs.declared.receive.Incoming.{Incoming}
use Rattle.ar_frames.specs.declared.receive.Incoming.TheVariants.{Whole, Lost, Ended}
use Rattle.ar_frames.specs.declared.end.EndReason.TheVariants as reason
use Rattle.ar_frames.specs.Stream.{SourceState, Reading}
use Rattle.std.specs.Io.KnownBytes.{IsAtEnd}
use Rattle.ar_frames.specs.Frame.{IsFrame, IsCutRequest}
use Rattle.ar_frames.specs.Session.{Closes, admitted, is_read_fault}
use Rattle.ar_frames.specs.FrameStep.{ReadsFrame, StopsAfter, Receives}
use Rattle.ar_frames.proofs.Streams.{Reading-trans, Writing-none}

-- first bytes of a frame and then others
reads_frame_front : (a b c : SourceState) (base front : List ℕ) (request : Request) → Reading a b front false
    → ReadsFrame (base ++ front) b c request → ReadsFrame base a c request
reads_frame_front a b c base front request first rest = record {
  body = front ++ rest.body;
  is_frame = subst (IsFrame request) (append_assoc base front rest.body) rest.is_frame;
  read = Reading-trans a b c front rest.body false first rest.read;
}

-- the same for whatever came of a frame
pub receives_front : (a b c : SourceState) (base front : List ℕ) (incoming : Incoming) → Reading a b front false
    → Receives (base ++ front) b c incoming → Receives base a c incoming
receives_front a b c base front (Whole request) first rest = reads_frame_front a b c base front request first rest
receives_front a b c base front (Lost tag cdb) first rest = record {
  request = rest.request;
  tag_is = rest.tag_is;
  cdb_is = rest.cdb_is;
  some = rest.some;
  reads = reads_frame_front a b c base front rest.request first rest.reads;
}
receives_front a b c base front (Ended end) first rest = record {
  body = front ++ rest.body;
  closes = λ frames below. subst (Closes end admitted frames) (append_assoc base front rest.body)
      (rest.closes frames below);
  read = Reading-trans a b c front rest.body (is_read_fault end) first rest.read;
  ended = rest.ended;
  unwritten = rest.unwritten;
}

-- input ended inside a frame
pub stops_cut : (a b : SourceState) (front body : List ℕ) → IsCutRequest (front ++ body) → 0 < length (front ++ body)
    → Reading a b body false → IsAtEnd b.left
    → StopsAfter front a b reason.Cut
stops_cut a b front body cut some read end = record {
  body = body;
  closes = λ frames below. ((below, cut), λ _. some);
  read = read;
  ended = end;
  unwritten = λ sink last. Writing-none sink;
}

-- a read faulted inside a frame, or before it
pub stops_read : (a b : SourceState) (front body : List ℕ) → IsCutRequest (front ++ body) → Reading a b body true
    → StopsAfter front a b reason.Read
stops_read a b front body cut read = record {
  body = body;
  closes = λ frames below. (below, cut);
  read = read;
  ended = tt;
  unwritten = λ sink last. Writing-none sink;
}

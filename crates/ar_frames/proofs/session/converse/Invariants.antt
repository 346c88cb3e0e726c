-- `frames` frames were answered, one step each, and at most as many commands were given
use Rattle.std.proofs.Common.{◌≡◌, ◌≤◌, true}
use Rattle.ar_frames.specs.FrameStep.{Served, HasStepped}
use Rattle.ar_frames.proofs.session.converse.Given as goal

abbrev pub invariant-loop-frames : goal.invariant-loop-frames
invariant-loop-frames g l = record {
  served : Served g.P.Port.commands (g.R.Source.state l.initial.reader) (g.R.Source.state l.reader)
      (g.W.Sink.state l.initial.writer) (g.W.Sink.state l.writer) l.initial.port l.port l.frames;
  stepped : HasStepped g.P.Port.commands g.P.Port.refuses g.O.Observer.announces g.O.Observer.reports l.host l.frames
      (record {
        source = g.R.Source.state l.initial.reader;
        sink = g.W.Sink.state l.initial.writer;
        port = l.initial.port;
        observer = l.initial.observer;
        given = l.initial.state.given;
      })
      (record {
        source = g.R.Source.state l.reader;
        sink = g.W.Sink.state l.writer;
        port = l.port;
        observer = l.observer;
        given = l.state.given;
      });
  logged : g.P.Port.has_login l.port ≡ true;
  given : l.state.given ≤ l.frames;
}

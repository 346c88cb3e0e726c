-- this many PDUs were served
use Rattle.std.proofs.Common.{◌≡◌, true}
use Rattle.ar_iscsi.specs.declared.turn.TurnEnd.TheVariants.{Next}
use Rattle.ar_iscsi.specs.Phase.{ServesPdus}
use Rattle.ar_iscsi.specs.Session.{FeatureStep}
use Rattle.ar_iscsi.proofs.session.Session.serve.Given as goal

abbrev pub invariant-loop : goal.invariant-loop
invariant-loop g l = record {
  served : ServesPdus (FeatureStep g.P.Port.commands g.P.Port.refuses g.P.ResetPort.resets l.terms.address.now
      l.terms.limits) Next
      l.counter
      (record {
        source = g.R.Source.state l.initial.reader;
        sink = g.W.Sink.state l.initial.writer;
        spot = l.initial.self;
        port = l.initial.port;
      })
      (record {
        source = g.R.Source.state l.reader;
        sink = g.W.Sink.state l.writer;
        spot = l.self;
        port = l.port;
      });
  logged : g.P.Port.has_login l.port ≡ true;
}

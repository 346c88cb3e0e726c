-- this many requests were answered
use Rattle.std.proofs.Common.{◌≡◌, false, [], length}
use Rattle.ar_iscsi.specs.declared.login.LoginResult.TheVariants.{Next}
use Rattle.ar_iscsi.specs.Digest.{no_digests}
use Rattle.ar_iscsi.specs.Phase.{ServesPdu, ServesPdus, most_segment}
use Rattle.ar_iscsi.specs.LoginTurn.{LoginTurn}
use Rattle.ar_iscsi.proofs.login_phase.log_in.Given as goal

abbrev pub invariant-loop : goal.invariant-loop
invariant-loop g l = record {
  served : ServesPdus (ServesPdu no_digests (LoginTurn g.P.Port.logins)) Next l.counter
      (record {
        source = g.R.Source.state l.initial.reader;
        sink = g.W.Sink.state l.initial.writer;
        spot = record { state = l.initial.work.state; text = l.initial.work.text.items };
        port = l.initial.port;
      })
      (record {
        source = g.R.Source.state l.reader;
        sink = g.W.Sink.state l.writer;
        spot = record { state = l.work.state; text = l.work.text.items };
        port = l.port;
      });
  room : length l.buffer ≡ most_segment;
  empty : l.work.out.items ≡ [];
  unlogged : g.P.Port.has_login l.port ≡ false;
}

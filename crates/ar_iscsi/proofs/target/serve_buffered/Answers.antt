use Rattle.ar_iscsi.proofs.Beginning.{login_from, feature_after}
use Rattle.ar_iscsi.proofs.target.serve_buffered.Goals as goal

pub returns-in-Entered : goal.returns-in-Entered
returns-in-Entered g c = record {
  middle = record {
    source = g.R.Source.state c.log_in.new.reader;
    sink = g.W.Sink.state c.log_in.new.writer;
    spot = record { state = c.log_in.new.work.state; text = c.log_in.new.work.text.items };
    port = c.log_in.new.port;
  };
  login = login_from g.P.Port.logins _ _ c.new.result c.new-2.result.items _ _ _ c.new.ensures c.new-2.ensures.items
      c.in-Entered.ensures.runs;
  feature = feature_after g.P.Port.commands g.P.Port.refuses g.P.ResetPort.resets _ _ _ _ _ _ _ _ _ _
      c.lift_limit.ensures
      c.serve_entered-reason.ensures;
}

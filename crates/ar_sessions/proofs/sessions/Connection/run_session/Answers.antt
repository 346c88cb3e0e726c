use Rattle.std.proofs.Common.{rules, Option, subst, ◌∙◌}
use Rattle.ar_served.specs.Seat.{SeatState}
use Rattle.ar_frames.specs.Session.{Session}
use Rattle.ar_sessions.specs.Desk.{IsFound}
use Rattle.ar_sessions.specs.Port.{TakesSeat, AsksArray, AsksSeat}
use Rattle.ar_sessions.proofs.sessions.Connection.run_session.Goals as goal

pub returns : goal.returns
returns g c = record {
  port = c.serve_gated-end.new.port;
  session =
      subst
      (λ (port : Option SeatState).
      Session (TakesSeat IsFound) (AsksSeat (AsksArray g.A.ServedArray.stores g.A.ServedArray.persists))
      (g.S.Source.state c.args.self.reader)
      (g.S.Source.state c.serve_gated-end.new.reader)
      (g.W.Sink.state c.args.self.writer) (g.W.Sink.state c.serve_gated-end.new.writer) port c.serve_gated-end.new.port
      c.serve_gated-end.result)
      (c.coming_from-port.ensures ∙ c.new-port.ensures) c.serve_gated-end.ensures.session;
  receipt_is = search rules;
}

use Rattle.std.proofs.Common.{rules, refl}
use Rattle.ar_sessions.proofs.port.LockPortPort.command.Goals as goal

pub returns-clause-command : goal.returns-clause-command
returns-clause-command g c = record {
  before = c.in-Some.seat;
  after = c.ask_counted.new.seat;
  held = search rules;
  kept = refl;
  asked = c.ask_counted.ensures.asks;
}

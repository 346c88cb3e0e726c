use Rattle.std.proofs.Common.{◌∙◌}
use Rattle.test_history.proofs.Seats.{order_kept}
use Rattle.test_history.proofs.rig.Rig.host.Goals as goal

pub invariant_of-self : goal.invariant_of-self
invariant_of-self g c = record {
  order = order_kept c.args.self.now.seats c.from.result c.host.new.seat c.index-self-from.result c.host.ensures.host
      ∙ c.args.self.now.order;
}

use Rattle.std.proofs.Common.{◌∙◌, List, set, take, ap}
use Rattle.ar_status.specs.declared.events.RecentEvent.{RecentEvent}
use Rattle.ar_status.proofs.Shifting.{shifted}
use Rattle.ar_status.proofs.events.RecentEvents.add.Goals as goal

pub returns : goal.returns
returns c =
    ap (λ (xs : List RecentEvent). take c.min-self.result (set xs 0 c.args.event)) c.copy_within.ensures.after
    ∙ shifted 49 c.args.event c.args.self.now.list c.args.self.now.count c.min-self.result c.args.self.now.places
    c.args.self.now.within c.min-self.ensures

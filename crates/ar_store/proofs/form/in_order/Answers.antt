use Rattle.ar_store.proofs.Picking.{picked_in_order}
use Rattle.ar_store.proofs.form.in_order.Goals as goal

pub returns-clause-picked : goal.returns-clause-picked
returns-clause-picked c = λ counts.
    picked_in_order counts c.args.first c.args.second c.args.third c.args.fourth c.sort_unstable.new.self
    c.sort_unstable.ensures.len c.sort_unstable.ensures.permutation

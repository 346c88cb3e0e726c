use Rattle.std.proofs.Common.{rules, length, if◌then◌else◌, subst, sym}
use Rattle.ar_status.specs.declared.events.RecentEvents.{RecentEvents}
use Rattle.ar_shown.specs.Shown.{IsStatusOf}
use Rattle.ar_watching.proofs.watching.copy_moment.Goals as goal

-- the status that the array gives, with the picture of the same moment
pub returns : goal.returns
returns g c =
    let S = g.A.ServedArray.state c.args.array.now in
    let is = c.status-status.ensures in
    let P : RecentEvents → Type 0 =
    λ latest. IsStatusOf S.array S.counts
    (if g.A.ServedArray.stores then length S.history else 0) c.store.result latest c.args.beside.now
    c.status-status.result in
    record {
      state = S;
      stored = if g.A.ServedArray.stores then length S.history else 0;
      store = c.store.result;
      absent = search rules;
      beside = c.args.beside.now;
      is = subst P (sym is.events) is;
      picture = search rules;
    }

use Rattle.std.proofs.Common.{rules, arith, ◌≡◌, ◌<◌, length, get_or}
use Rattle.ar_journal.proofs.Copies.{same_more}
use Rattle.ar_journal.proofs.copying.is_same.Goals as goal

pub loop-index-preserved : goal.loop-index-preserved
loop-index-preserved c =
    let vs = c.args.one.now in
    let ws = c.args.other.now in
    let i = c.loop-index.index in
    let v = c.index-one-index.result in
    let w = c.index-other-index.result in
    let in_vs : i < length vs = search (rules, arith) in
    let in_ws : i < length ws = search (rules, arith) in
    let v_is : v ≡ get_or vs i v = search rules in
    let w_is : w ≡ get_or ws i w = search rules in
    let same : v.items ≡ w.items = search rules in
    same_more vs ws i v w in_vs in_ws v_is w_is c.loop-index.invariant same

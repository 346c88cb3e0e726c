use Rattle.std.proofs.Common.{◌≡◌, ◌≤◌, min, max, length, sym, subst, rules}
use Rattle.ar_media.specs.Media.{Cut}
use Rattle.ar_media.specs.Calls.{padded}
use Rattle.ar_media.proofs.Kept.{Cut-between}
use Rattle.ar_media.proofs.memory.between.Goals as goal

pub returns : goal.returns
returns c =
    let file = c.args.file.now in
    let len = c.args.len in
    let is : c.in_ok-next.next.items ≡ padded file c.max.result = search rules in
    let low : min len (length file) ≤ c.max.result = search rules in
    let high : c.max.result ≤ max len (length file) = search rules in
    subst (Cut len file) (sym is) (Cut-between file len c.max.result low high)

use Rattle.std.proofs.Common.{◌≡◌, length, take, sym, subst, arith, length-take, rules}
use Rattle.ar_media.specs.Media.{Torn}
use Rattle.ar_media.specs.Calls.{overlaid}
use Rattle.ar_media.specs.CallLaws.{Torn-overlaid}
use Rattle.ar_media.proofs.memory.torn.Goals as goal

pub returns : goal.returns
returns c =
    let file = c.args.file.now in
    let bytes = c.args.bytes.now in
    let count = c.match-fate.count in
    let is : c.in_ok-next.next.items ≡ overlaid file c.args.at (take count bytes) = search rules in
    subst (Torn c.args.at (length bytes) file) (sym is) (Torn-overlaid file c.args.at (length bytes)
    (take count bytes) (omega (arith, length-take count bytes)))

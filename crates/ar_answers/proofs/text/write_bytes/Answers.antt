use Rattle.std.proofs.Common.{rules, ◌+◌, ◌++◌, get_or, map, take}
use Rattle.std.specs.Io.KnownBytes.{Appends}
use Rattle.ar_answers.specs.Texts.{gap, hex_byte, words}
use Rattle.ar_answers.proofs.Appending.{appends_as, appends_none, appends_then}
use Rattle.ar_answers.proofs.Printing.{bytes-more}
use Rattle.ar_answers.proofs.text.write_bytes.Goals as goal

pub loop-place-init : goal.loop-place-init
loop-place-init g c = appends_none (g.W.Write.contents c.args.out.now)

pub loop-place-preserved : goal.loop-place-preserved
loop-place-preserved g c =
    let old = g.W.Write.contents c.args.out.now in
    let before = g.W.Write.contents c.loop-place.out in
    let gapped = g.W.Write.contents c.write_gap.new.out in
    let new = g.W.Write.contents c.write_all.new.self in
    let bytes = c.args.bytes.now in
    let place = c.loop-place.place in
    let text = words (map hex_byte (take place bytes)) in
    let pair = hex_byte (get_or bytes place 0) in
    let byte : Appends gapped new pair = search rules in
    appends_as old new (text ++ (gap place ++ pair)) (words (map hex_byte (take (place + 1) bytes)))
    (bytes-more bytes place (search rules))
    (appends_then old before new text (gap place ++ pair) c.loop-place.invariant
    (appends_then before gapped new (gap place) pair c.in_ok-write_gap.ensures.text byte))

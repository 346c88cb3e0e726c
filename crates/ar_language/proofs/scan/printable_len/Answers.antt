use Rattle.std.proofs.Common.{◌∙◌, ◌+◌, ◌-◌, ◌≤◌, length, ap, take, drop, length-drop, arith, rules}
use Rattle.std.proofs.lemmas.List.Sums.{prefix_len-le-length}
use Rattle.std.specs.List.{prefix_len}
use Rattle.ar_language.specs.Lines.{is_printable}
use Rattle.ar_language.proofs.ScanLemmas.{printable_more, printable_rest, rest_of_piece}
use Rattle.ar_language.proofs.scan.printable_len.Goals as goal

pub loop-len-preserved : goal.loop-len-preserved
loop-len-preserved c =
    let bytes = c.args.bytes.now in
    let len = c.loop-len.len in
    let fits : len + 8 ≤ length bytes = omega (arith, c.loop-len-test.true) in (
      fits,
      printable_more bytes len 8 (len + 8 - len) (omega arith) fits c.loop-len.invariant.1
          (search rules),
    )

pub overflow_add-result : goal.overflow_add-result
overflow_add-result c =
    let bytes = c.args.bytes.now in
    let piece = take (length bytes - c.loop-len.len) (drop c.loop-len.len bytes) in
    omega (arith, prefix_len-le-length is_printable piece, length-drop c.loop-len.len bytes)

pub returns : goal.returns
returns c =
    printable_rest c.args.bytes.now c.loop-len.len c.near_len.result c.loop-len.invariant.0 c.loop-len.invariant.1
    (c.near_len.ensures ∙ ap (prefix_len is_printable) (rest_of_piece c.args.bytes.now c.loop-len.len))

use Rattle.std.proofs.Common.{◌≡◌, ◌∙◌, ◌+◌, ◌-◌, ◌≤◌, ◌==◌, length, take, drop, ap, arith}
use Rattle.std.specs.List.{count_by}
use Rattle.ar_language.proofs.ScanLemmas.{feeds_more, feeds_rest, rest_of_piece}
use Rattle.ar_language.proofs.scan.line_feeds.Goals as goal

pub loop-at-preserved : goal.loop-at-preserved
loop-at-preserved c =
    let bytes = c.args.bytes.now in
    let at = c.loop-at.at in
    let fits : at + 255 ≤ length bytes = omega (arith, c.loop-at-test.true) in
    let room : at + 255 - at ≡ 255 = omega arith in (
      fits,
      feeds_more bytes at 255 c.loop-at.count c.from-count.result c.loop-at.invariant.1
          (c.from-count.ensures ∙ c.few_line_feeds.ensures
          ∙ ap (λ n. count_by (λ byte. byte == 10) (take n (drop at bytes))) room),
    )

pub returns : goal.returns
returns c =
    let bytes = c.args.bytes.now in
    feeds_rest bytes c.loop-at.at c.loop-at.count c.from.result c.loop-at.invariant.1
    (c.from.ensures ∙ c.few_line_feeds-2.ensures
    ∙ ap (count_by (λ byte. byte == 10)) (rest_of_piece bytes c.loop-at.at))

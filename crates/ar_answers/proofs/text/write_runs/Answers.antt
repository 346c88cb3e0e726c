use Rattle.std.proofs.Common.{get_or}
use Rattle.ar_answers.proofs.RunLengths.{behind, written_more}
use Rattle.ar_answers.proofs.text.write_runs.Goals as goal

pub loop-place-preserved : goal.loop-place-preserved
loop-place-preserved g c =
    let bytes = c.args.bytes.now in
    let rest = c.loop-place.rest.now in
    let count = c.run_len-count.result in
    let is = c.run_len-count.ensures in
    written_more bytes rest _ c.loop-place.place count _ _ _ c.loop-place.invariant is.some is.few is.equal is.longest
    (behind rest count) c.in_ok-write_run.ensures.text

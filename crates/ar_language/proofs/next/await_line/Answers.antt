use Rattle.std.proofs.Common.{rules, ◌≡◌, ◌∙◌, [], Err, true, false}
use Rattle.std.specs.Io.Buffered.{reader_buffer}
use Rattle.ar_language.specs.Lines.{front_of, is_given, is_lacking}
use Rattle.ar_language.specs.Left.{lines_left}
use Rattle.ar_language.proofs.Going.{goes_reported, goes_refused, goes_later, grows, kept_lines, took_later}
use Rattle.ar_language.proofs.next.await_line.Goals as goal

pub returns-in_err-is_given-clause-goes_on : goal.returns-in_err-is_given-clause-goes_on
returns-in_err-is_given-clause-goes_on g c =
    let old = c.args.lines.now in
    let mid = c.wait.new.lines in
    let new = c.advance.new.self in
    let fault = c.in_err-is_given.field-0.0 in
    let result = c.from_residual-in_err-is_given.result in
    let none : is_given c.advance.result ≡ false = search rules in
    let reported : result ≡ Err fault = search rules in
    let kept = took_later (lines_left old) (lines_left c.loop.lines) (lines_left mid) [] c.loop.invariant.kept
    c.wait.ensures.kept in
    goes_later old mid new result kept (c.wait.ensures.same.2 ∙ c.loop.invariant.count)
    (goes_refused mid new fault result reported c.advance.ensures.unasked c.advance.ensures.counts.ended
    (c.advance.ensures.counts.kept none) (search rules) c.in_err-is_given.ensures.refused)

pub returns-then-not-is_awaited-clause-goes_on : goal.returns-then-not-is_awaited-clause-goes_on
returns-then-not-is_awaited-clause-goes_on g c =
    let old = c.args.lines.now in
    let mid = c.wait.new.lines in
    let new = c.advance.new.self in
    let kept = took_later (lines_left old) (lines_left c.loop.lines) (lines_left mid) [] c.loop.invariant.kept
    c.wait.ensures.kept in
    goes_later old mid new _ kept (c.wait.ensures.same.2 ∙ c.loop.invariant.count)
    (goes_reported mid new _ c.advance.ensures.unasked c.advance.ensures.counts.ended (search rules) (search rules)
    (search rules) (search rules) (search rules) (search rules) (search rules))

pub loop-preserved : goal.loop-preserved
loop-preserved g c =
    let old = c.args.lines.now in
    let mid = c.wait.new.lines in
    let new = c.advance.new.self in
    let lacking : is_lacking c.advance.result ≡ true = search rules in
    let none : is_given c.advance.result ≡ false = search rules in
    let kept = took_later (lines_left old) (lines_left c.loop.lines) (lines_left mid) [] c.loop.invariant.kept
    c.wait.ensures.kept in
    record {
      awaited = search rules;
      answers = search rules;
      kept = took_later (lines_left old) (lines_left mid) (lines_left new) [] kept
          (kept_lines mid new c.advance.ensures.unasked c.advance.ensures.counts.ended
          (c.advance.ensures.counts.kept none));
      begun = search rules;
      count = search rules;
      grown = grows (front_of mid.is_begun mid.line.items) (reader_buffer mid.source) _ (reader_buffer new.source)
          c.loop.counter (search rules) (search rules)
          (c.advance.ensures.counts.kept none) (c.advance.ensures.counts.drained lacking);
    }

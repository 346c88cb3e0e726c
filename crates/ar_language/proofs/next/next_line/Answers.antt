use Rattle.std.proofs.Common.{rules, ◌≡◌, Err, false}
use Rattle.std.specs.Io.Buffered.{reader_buffer}
use Rattle.ar_language.specs.Lines.{front_of, is_given}
use Rattle.ar_language.specs.Left.{bytes_read}
use Rattle.ar_language.proofs.Going.{goes_reported, goes_refused, goes_later, kept_lines, no_end_there, not_settled}
use Rattle.ar_language.proofs.next.next_line.Goals as goal

pub returns-in_err-is_given-clause-goes_on : goal.returns-in_err-is_given-clause-goes_on
returns-in_err-is_given-clause-goes_on g c =
    let old = c.args.lines.now in
    let new = c.advance.new.self in
    let fault = c.in_err-is_given.field-0.0 in
    let none : is_given c.advance.result ≡ false = search rules in
    let reported : c.from_residual.result ≡ Err fault = search rules in
    goes_refused old new fault c.from_residual.result reported c.advance.ensures.unasked c.advance.ensures.counts.ended
    (c.advance.ensures.counts.kept none) (search rules)
    c.in_err-is_given.ensures.refused

pub returns-then-not-is_awaited-clause-goes_on : goal.returns-then-not-is_awaited-clause-goes_on
returns-then-not-is_awaited-clause-goes_on g c =
    goes_reported c.args.lines.now c.advance.new.self _ c.advance.ensures.unasked c.advance.ensures.counts.ended
    (search rules) (search rules) (search rules) (search rules) (search rules)
    (search rules) (search rules)

pub returns-clause-goes_on : goal.returns-clause-goes_on
returns-clause-goes_on g c =
    let old = c.args.lines.now in
    let mid = c.advance.new.self in
    goes_later old mid c.await_line.new.lines c.await_line.result
    (kept_lines old mid c.advance.ensures.unasked c.advance.ensures.counts.ended (search rules)) (search rules)
    c.await_line.ensures.goes_on

pub returns-clause-buffered : goal.returns-clause-buffered
returns-clause-buffered g c =
    let old = c.args.lines.now in
    λ some. absurd (no_end_there (front_of old.is_begun old.line.items) (reader_buffer old.source) (search rules) some)

pub returns-clause-settled : goal.returns-clause-settled
returns-clause-settled g c =
    λ settled. absurd
    (not_settled c.args.lines.now c.advance.new.self (search rules) (search rules) (search rules) (search rules)
    (search rules) settled)

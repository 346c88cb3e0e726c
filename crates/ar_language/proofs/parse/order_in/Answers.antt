use Rattle.std.proofs.Common.{rules, ◌≡◌, ◌∙◌, false, take, sym}
use Rattle.std.proofs.lemmas.List.{take-map}
use Rattle.ar_language.specs.Forms.{is_silent}
use Rattle.ar_language.proofs.Tails.{line_read, gap_read}
use Rattle.ar_language.proofs.parse.order_in.Goals as goal

pub returns-in_default-clause-reads : goal.returns-in_default-clause-reads
returns-in_default-clause-reads c =
    let loud : is_silent c.args.line.now ≡ false = search rules in
    gap_read c.args.line.now loud c.in_default.ensures.none

pub returns-clause-reads : goal.returns-clause-reads
returns-clause-reads c =
    let loud : is_silent c.args.line.now ≡ false = search rules in
    let count = c.in-Some.count in
    let words = c.first_words.new.words in
    line_read c.args.line.now (take count words) c.order_in_words.result loud c.in-Some.ensures.some
    (sym (take-map (λ text. text.now) count words) ∙ c.in-Some.ensures.words)
    c.order_in_words.ensures.reads

use Rattle.std.proofs.Common.{rules, ◌≡◌, ◌∙◌, false, take, sym}
use Rattle.std.proofs.lemmas.List.{take-map}
use Rattle.ar_language.specs.Forms.{is_silent}
use Rattle.ar_conversation.proofs.Cutting.{line_read}
use Rattle.ar_conversation.proofs.order.operator_order_in.Goals as goal

pub returns-clause-reads : goal.returns-clause-reads
returns-clause-reads c =
    let loud : is_silent c.args.line.now ≡ false = search rules in
    let count = c.in-Some.count in
    let words = c.first_words.new.words in
    line_read c.args.line.now (take count words) c.order_in_words.result loud c.in-Some.ensures.some
    (sym (take-map (λ text. text.now) count words) ∙ c.in-Some.ensures.words)
    c.order_in_words.ensures.reads

use Rattle.ar_language.proofs.LineLemmas.{printable_is_text}
use Rattle.ar_conversation.proofs.input.Line.text.Goals as goal

pub unreachable-requires : goal.unreachable-requires
unreachable-requires c =
    let whole = c.args.self.now.whole in
    let text = printable_is_text c.args.self.now.text.items whole.printable in
    c.in-Err.ensures.cases.0 (rw c.as_slice.ensures.value text)

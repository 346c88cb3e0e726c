use Rattle.ar_language.proofs.LineLemmas.{printable_is_text}
use Rattle.ar_language.proofs.lines.Lines.line.Goals as goal

pub from_utf8_unchecked-requires : goal.from_utf8_unchecked-requires
from_utf8_unchecked-requires g c =
    let whole = c.args.self.now.whole in
    let text = printable_is_text c.args.self.now.line.items whole.printable in
    rw c.as_slice.ensures.value text

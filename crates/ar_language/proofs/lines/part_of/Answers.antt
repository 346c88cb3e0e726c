use Rattle.std.proofs.Common.{take, sym, subst}
use Rattle.ar_language.specs.Lines.{IsPart}
use Rattle.ar_language.proofs.Parting.{parted}
use Rattle.ar_language.proofs.lines.part_of.Goals as goal

pub returns-clause-parts : goal.returns-clause-parts
returns-clause-parts c =
    let bytes = c.args.bytes.now in
    let len = c.printable_len-len.result in
    let found = c.get.ensures.lookup in
    subst (IsPart bytes (take len bytes)) (sym c.copied.ensures)
    (parted bytes len c.get.result c.printable_len-len.ensures found.0 found.1)

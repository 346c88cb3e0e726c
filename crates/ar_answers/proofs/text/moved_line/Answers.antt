use Rattle.std.proofs.Common.{◌∙◌, ◌++◌, codes, ap}
use Rattle.std.specs.Fmt.{decimal}
use Rattle.ar_answers.proofs.Appending.{moved-line}
use Rattle.ar_answers.proofs.text.moved_line.Goals as goal

pub returns : goal.returns
returns c =
    let key = c.args.key in
    let to = c.args.to in
    moved-line (decimal key.addr.host.number) (decimal key.addr.lun) (decimal key.rb) (decimal to.group)
    (decimal to.slot) _ _ _ _
    (c.push_str.ensures.bytes ∙ ap (λ l. l ++ codes "moved") c.new-line.ensures) c.push_key.ensures.bytes
    c.push_slot.ensures.bytes c.push_str-2.ensures.bytes

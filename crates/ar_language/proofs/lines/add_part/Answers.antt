use Rattle.std.proofs.Common.{◌∙◌, ◌-◌, Some, ap, cond, length, ltb, rules, sym, vec_len}
use Rattle.ar_language.specs.declared.fault.FaultKind.TheVariants.{BadCharacter, LineTooLong}
use Rattle.ar_language.proofs.Parting.{bad_part, too_long}
use Rattle.ar_language.proofs.lines.add_part.Goals as goal

pub returns-then-is_bad-clause-refused : goal.returns-then-is_bad-clause-refused
returns-then-is_bad-clause-refused c =
    let reported = bad_part (4096 - vec_len c.args.line.now) c.args.part.now c.args.next c.requires.printable
    c.requires.stop (search rules) in
    let same = ap (λ n. cond (ltb (length c.args.part.now) (4096 - n)) BadCharacter LineTooLong) c.len-room.ensures in
    reported ∙ ap Some (sym (c.bad_fault.ensures ∙ same))

pub returns-then-part-room-clause-refused : goal.returns-then-part-room-clause-refused
returns-then-part-room-clause-refused c =
    too_long (4096 - vec_len c.args.line.now) c.args.part.now c.args.next c.requires.printable (search rules)
    (search rules)

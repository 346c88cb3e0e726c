use Rattle.std.proofs.Common.{rules, ◌+◌, ◌++◌, get_or, take}
use Rattle.ar_book.specs.declared.class.Class.TheVariants.{Free}
use Rattle.ar_core.specs.declared.views.GroupUse.{GroupUse}
use Rattle.ar_answers.specs.Texts.{group_text, groups_text}
use Rattle.ar_answers.proofs.Appending.{appends_as, appends_none, appends_then}
use Rattle.ar_answers.proofs.Printing.{groups-more}
use Rattle.ar_answers.proofs.text.write_groups.Goals as goal

pub loop-number-init : goal.loop-number-init
loop-number-init g c = appends_none (g.W.Write.contents c.args.out.now)

pub loop-number-preserved : goal.loop-number-preserved
loop-number-preserved g c =
    let old = g.W.Write.contents c.args.out.now in
    let before = g.W.Write.contents c.loop-number.out in
    let new = g.W.Write.contents c.write_group.new.out in
    let groups = c.args.groups.now in
    let number = c.loop-number.number in
    let none : GroupUse = record { class = Free; blocks = 0 } in
    let text = groups_text 0 (take number groups) in
    let more = group_text number (get_or groups number none) in
    appends_as old new (text ++ more) (groups_text 0 (take (number + 1) groups))
    (groups-more groups number none (search rules))
    (appends_then old before new text more c.loop-number.invariant c.in_ok-write_group.ensures.text)

use Rattle.std.proofs.Common.{None, Some, ◌/◌, ◌+◌, arith}
use Rattle.ar_index.proofs.Sets.{first_under, none_above, none_near, topped, word_there}
use Rattle.ar_index.proofs.bits.word_after.Goals as goal

pub first_in-requires : goal.first_in-requires
first_in-requires c =
    let some = topped _ _ c.requires.tops _ c.in-Some-top_after.ensures.inside in
    record { there = word_there _ _ some; few = c.requires.tops.few; some = some }

pub returns-in-Some-top_after : goal.returns-in-Some-top_after
returns-in-Some-top_after c =
    none_near _ _ (Some c.first_in.result) c.in-None.ensures.none
    (first_under _ _ c.requires.tops (c.args.word / 64 + 1) _ _ c.in-Some-top_after.ensures c.first_in.ensures)

pub returns-in-None-top_after : goal.returns-in-None-top_after
returns-in-None-top_after c =
    none_near _ _ None c.in-None.ensures.none
    (none_above _ _ c.requires.tops (c.args.word / 64 + 1) c.in-None-top_after.ensures)

pub after_in-requires-clause-few : goal.after_in-requires-clause-few
after_in-requires-clause-few c = c.requires.tops.few

pub top_after-requires-clause-there : goal.top_after-requires-clause-there
top_after-requires-clause-there c = omega (arith, c.requires.there, c.requires.tops.covered)

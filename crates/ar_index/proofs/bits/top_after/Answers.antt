use Rattle.std.proofs.Common.{None, Some, ◌/◌, ◌+◌, ◌≤◌, length, arith}
use Rattle.ar_index.proofs.Sets.{first_under, none_above, none_near, topped, word_there}
use Rattle.ar_index.proofs.bits.top_after.Goals as goal

pub first_in-requires : goal.first_in-requires
first_in-requires c =
    let some = topped _ _ c.requires.topped _ c.in-Some-peak_after.ensures.inside in
    record { there = word_there _ _ some; few = c.requires.topped.few; some = some }

pub returns-in-Some-peak_after : goal.returns-in-Some-peak_after
returns-in-Some-peak_after c =
    none_near _ _ (Some c.first_in.result) c.in-None.ensures.none
    (first_under _ _ c.requires.topped (c.args.top / 64 + 1) _ _ c.in-Some-peak_after.ensures c.first_in.ensures)

pub returns-in-None-peak_after : goal.returns-in-None-peak_after
returns-in-None-peak_after c =
    none_near _ _ None c.in-None.ensures.none
    (none_above _ _ c.requires.topped (c.args.top / 64 + 1) c.in-None-peak_after.ensures)

pub after_in-requires-clause-few : goal.after_in-requires-clause-few
after_in-requires-clause-few c = c.requires.topped.few

pub peak_after-requires : goal.peak_after-requires
peak_after-requires c =
    let room : length c.args.peaks.now ≤ 64 = c.requires.topped.covered in
    omega (arith, c.requires.there)

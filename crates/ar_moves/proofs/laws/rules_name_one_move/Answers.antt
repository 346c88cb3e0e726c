use Rattle.ar_moves.proofs.Single.{oldest_single, demoted_single, cleaned_single}
use Rattle.ar_moves.proofs.laws.rules_name_one_move.Goals as goal

pub returns-clause-demotion : goal.returns-clause-demotion
returns-clause-demotion c = λ t ready tables key other to at ok one two.
    let slots = demoted_single t ready tables to at one.slot two.slot in
    (oldest_single t key other ok one.oldest two.oldest, slots.slots, slots.tables)

pub returns-clause-cleaning : goal.returns-clause-cleaning
returns-clause-cleaning c = λ t key other to at one two.
    let same = cleaned_single t key other to at one two in
    (same.keys, same.slots)

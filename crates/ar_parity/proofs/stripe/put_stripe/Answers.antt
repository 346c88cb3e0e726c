use Rattle.std.proofs.Common.{◌+◌, ◌*◌, sym, refl, ◌∙◌, ap}
use Rattle.ar_disks.specs.Geometry.{block_len_of}
use Rattle.ar_extents.proofs.Plans.{carries_broken}
use Rattle.ar_parity.specs.Plans.{write_two}
use Rattle.ar_parity.specs.Row.{data_position, parity_position}
use Rattle.ar_parity.proofs.Stripes.{stripe_written, broken_stripe_held, stripe_carried_out}
use Rattle.ar_parity.proofs.stripe.put_stripe.Goals as goal

pub returns-clause-slots : goal.returns-clause-slots
returns-clause-slots g c =
    let later = c.write_both-2.ensures.follows in
    let same = ap block_len_of (sym (later.geometry ∙ c.write_both.ensures.follows.geometry)) in
    stripe_written c.write_both.new.set c.write_both-2.new.set c.args.members.now c.args.row c.data_at.result
    c.data_at-2.result c.data_at-3.result c.parity_at.result c.args.first.now c.args.second.now c.args.third.now
    c.add_both_into.new.target (c.requires.first ∙ same) (c.requires.second ∙ same) (c.requires.third ∙ same)
    c.data_at.ensures.position c.data_at-2.ensures.position c.data_at-3.ensures.position c.parity_at.ensures.position
    later c.write_both-2.ensures.others c.in-Done.ensures.block c.in-Done.ensures.parity c.write_both-2.ensures.block
    c.write_both-2.ensures.parity c.add_both_into.ensures

pub returns-in-Broken-clause-slots : goal.returns-in-Broken-clause-slots
returns-in-Broken-clause-slots g c =
    let same = ap block_len_of (sym c.write_both.ensures.follows.geometry) in
    broken_stripe_held c.write_both.new.set c.args.members.now c.args.row c.args.first.now c.args.second.now
    c.args.third.now (c.requires.first ∙ same) (c.requires.second ∙ same) (c.requires.third ∙ same)
    c.in-Broken.ensures.answer

pub returns-clause-plan : goal.returns-clause-plan
returns-clause-plan g c =
    stripe_carried_out c.args.members.now c.args.row _ _ _ _ _ _ _ c.data_at.ensures.position
    c.data_at-2.ensures.position c.data_at-3.ensures.position c.parity_at.ensures.position c.write_both.ensures.plan
    c.write_both-2.ensures.plan

pub returns-in-Broken-clause-plan : goal.returns-in-Broken-clause-plan
returns-in-Broken-clause-plan g c =
    let m = c.args.members.now in
    let row = c.args.row in
    let k = data_position (3 * row + 2) in
    let l = parity_position row in
    stripe_carried_out m row _ _ k l _ _ _ c.data_at.ensures.position c.data_at-2.ensures.position refl refl
    c.write_both.ensures.plan (carries_broken (write_two m k l row) _ c.in-Broken.ensures.answer)

use Rattle.std.proofs.Common.{arith, ◌∙◌}
use Rattle.ar_parity.specs.Row.{parity_position}
use Rattle.ar_parity.proofs.Updates.{both_changed, alone_changed, broken_part}
use Rattle.ar_disks.specs.Members.{member}
use Rattle.ar_extents.proofs.Asking.{attempt_follows, read_changes_none}
use Rattle.ar_extents.specs.Plans.{read_at, goes_on, falls_back}
use Rattle.ar_extents.proofs.Plans.{carries_broken}
use Rattle.ar_parity.specs.Plans.{write_two, write_member, write_known}
use Rattle.ar_parity.proofs.Plans.{attempt_at, carried_to}
use Rattle.ar_parity.proofs.update.update.Goals as goal

pub returns-in-Read-clause-agrees : goal.returns-in-Read-clause-agrees
returns-in-Read-clause-agrees g c =
    both_changed c.args.set.now c.get_part.new.self c.write_both.new.set c.args.members.now c.args.row c.args.position
    c.parity_at-parity.result
    (parity_position c.args.row) c.args.first c.at.result c.args.from.now c.args.before.now c.get_part.new.into
    c.add_both_into.new.target
    c.at.ensures c.parity_at-parity.ensures.position c.requires.below c.parity_at-parity.ensures.below c.requires.apart
    c.requires.within
    (attempt_follows _ _ _ _ c.get_part.ensures.made) (read_changes_none _ _ _ _ _ c.get_part.ensures.made)
    c.in-Read.ensures.answer (c.get_part.auto.into ∙ c.requires.sum_len) c.add_both_into.ensures
    c.write_both.ensures.follows c.write_both.ensures.block c.write_both.ensures.parity
    c.write_both.ensures.others

pub returns-in-Missing-clause-agrees : goal.returns-in-Missing-clause-agrees
returns-in-Missing-clause-agrees g c = λ blocks agrees before.
    alone_changed c.args.set.now c.get_part.new.self c.write_part.new.set c.args.members.now c.args.row c.args.position
    c.parity_at-parity.result
    (parity_position c.args.row) c.args.first c.at.result c.args.from.now c.requires.group.apart c.at.ensures
    c.parity_at-parity.ensures.position c.requires.below
    c.parity_at-parity.ensures.below c.requires.apart c.requires.within
    (attempt_follows _ _ _ _ c.get_part.ensures.made)
    (read_changes_none _ _ _ _ _ c.get_part.ensures.made) c.in-Missing.ensures.answer.block
    c.write_part.ensures.works.follows c.write_part.ensures.keeps c.write_part.ensures.here blocks agrees

pub returns-in-Broken-clause-agrees : goal.returns-in-Broken-clause-agrees
returns-in-Broken-clause-agrees g c = λ blocks agrees before.
    broken_part c.args.set.now c.get_part.new.self c.args.members.now c.args.row c.args.position
    (parity_position c.args.row) c.args.first c.args.from.now
    (attempt_follows _ _ _ _ c.get_part.ensures.made) c.in-Broken.ensures.answer.block c.requires.below (omega arith)
    c.requires.apart c.requires.within blocks agrees

pub returns-in-Read-clause-plan : goal.returns-in-Read-clause-plan
returns-in-Read-clause-plan g c =
    let m = c.args.members.now in
    let i = c.args.position in
    let row = c.args.row in
    carried_to (λ j. write_known m i j row) _ _ _ _ c.parity_at-parity.ensures.position
    (goes_on (read_at (member m c.parity_at-parity.result) row) (write_two m i c.parity_at-parity.result row)
    (write_member m i row) _ _ _
    (attempt_at (λ p. read_at p row) _ _ (member m c.parity_at-parity.result) _ _ c.at.ensures c.in-Read.ensures.made)
    c.write_both.ensures.plan)

pub returns-in-Missing-clause-plan : goal.returns-in-Missing-clause-plan
returns-in-Missing-clause-plan g c =
    let m = c.args.members.now in
    let i = c.args.position in
    let row = c.args.row in
    carried_to (λ j. write_known m i j row) _ _ _ _ c.parity_at-parity.ensures.position
    (falls_back (read_at (member m c.parity_at-parity.result) row) (write_two m i c.parity_at-parity.result row)
    (write_member m i row) _ _ _
    (attempt_at (λ p. read_at p row) _ _ (member m c.parity_at-parity.result) _ _ c.at.ensures
    c.in-Missing.ensures.made) c.write_part.ensures.plan)

pub returns-in-Broken-clause-plan : goal.returns-in-Broken-clause-plan
returns-in-Broken-clause-plan g c =
    let m = c.args.members.now in
    let i = c.args.position in
    let row = c.args.row in
    carried_to (λ j. write_known m i j row) _ _ _ _ c.parity_at-parity.ensures.position
    (falls_back (read_at (member m c.parity_at-parity.result) row) (write_two m i c.parity_at-parity.result row)
    (write_member m i row) _ _ _
    (attempt_at (λ p. read_at p row) _ _ (member m c.parity_at-parity.result) _ _ c.at.ensures c.in-Broken.ensures.made)
    (carries_broken (write_member m i row) _ c.in-Broken.ensures.answer.block))

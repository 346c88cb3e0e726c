use Rattle.std.proofs.Common.{◌≤◌, length, arith, ◌∙◌}
use Rattle.std.proofs.lemmas.List.{length-take-le}
use Rattle.ar_parity.proofs.Updates.{changes_known, changes_lost, changes_broken}
use Rattle.ar_disks.specs.Members.{member}
use Rattle.ar_parity.specs.Row.{parity_position}
use Rattle.ar_extents.proofs.Asking.{attempt_follows, read_changes_none}
use Rattle.ar_extents.specs.Plans.{read_at, goes_on, falls_back}
use Rattle.ar_extents.proofs.Plans.{carries_broken}
use Rattle.ar_parity.specs.Plans.{write_lost}
use Rattle.ar_parity.proofs.Plans.{attempt_at}
use Rattle.ar_parity.proofs.update.change_by_reading.Goals as goal

pub returns-in-Read-clause-changes : goal.returns-in-Read-clause-changes
returns-in-Read-clause-changes g c =
    let room : length c.args.from.now ≤ length c.args.old.now =
    omega (arith, c.requires.within, c.requires.old_whole) in
    changes_known c.args.set.now c.get_part.new.self c.update.new.set c.args.members.now c.args.row c.args.position
    c.args.first c.at.result c.args.from.now c.get_part.new.into
    c.at.ensures c.requires.below (attempt_follows _ _ _ _ c.get_part.ensures.made)
    (read_changes_none _ _ _ _ _ c.get_part.ensures.made) c.in-Read.ensures.answer
    (c.get_part.auto.into ∙ length-take-le (length c.args.from.now) c.args.old.now room)
    c.update.ensures.agrees

pub returns-in-Missing-clause-changes : goal.returns-in-Missing-clause-changes
returns-in-Missing-clause-changes g c =
    changes_lost c.args.set.now c.get_part.new.self c.put_lost.new.set c.args.members.now c.args.row c.args.position
    c.args.first c.args.from.now
    (attempt_follows _ _ _ _ c.get_part.ensures.made) (read_changes_none _ _ _ _ _ c.get_part.ensures.made)
    c.put_lost.ensures.changes

pub returns-in-Broken-clause-changes : goal.returns-in-Broken-clause-changes
returns-in-Broken-clause-changes g c =
    changes_broken c.args.set.now c.get_part.new.self c.args.members.now c.args.row c.args.position c.args.first
    c.args.from.now
    (attempt_follows _ _ _ _ c.get_part.ensures.made) c.in-Broken.ensures.answer.block c.requires.below (omega arith)
    c.requires.apart c.requires.within

pub returns-in-Read-clause-plan : goal.returns-in-Read-clause-plan
returns-in-Read-clause-plan g c =
    goes_on _ _ _ _ _ _
    (attempt_at (λ p. read_at p c.args.row) _ _ (member c.args.members.now c.args.position) _ _ c.at.ensures
    c.in-Read.ensures.made)
    c.update.ensures.plan

pub returns-in-Missing-clause-plan : goal.returns-in-Missing-clause-plan
returns-in-Missing-clause-plan g c =
    falls_back _ _ _ _ _ _
    (attempt_at (λ p. read_at p c.args.row) _ _ (member c.args.members.now c.args.position) _ _ c.at.ensures
    c.in-Missing.ensures.made)
    c.put_lost.ensures.plan

pub returns-in-Broken-clause-plan : goal.returns-in-Broken-clause-plan
returns-in-Broken-clause-plan g c =
    falls_back _ _ _ _ _ _
    (attempt_at (λ p. read_at p c.args.row) _ _ (member c.args.members.now c.args.position) _ _ c.at.ensures
    c.in-Broken.ensures.made)
    (carries_broken (write_lost c.args.members.now c.args.position (parity_position c.args.row) c.args.row) _
    c.in-Broken.ensures.answer.block)

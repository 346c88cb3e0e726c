use Rattle.std.proofs.Common.{rules}
use Rattle.ar_disks.specs.Members.{member}
use Rattle.ar_extents.specs.Plans.{write_at}
use Rattle.ar_extents.proofs.Asking.{attempt_keeps, write_works}
use Rattle.ar_extents.proofs.Plans.{carries_one}
use Rattle.ar_parity.proofs.Plans.{attempt_at}
use Rattle.ar_parity.proofs.Updates.{part_stands}
use Rattle.ar_parity.proofs.steps.write_part.Goals as goal

pub returns-in-Written : goal.returns-in-Written
returns-in-Written g c =
    let m = c.args.members.now in
    let i = c.args.position in
    let row = c.args.row in
    let tried = attempt_at (λ p. write_at p row) _ _ (member m i) _ _ c.at.ensures c.put_part.ensures.made in
    record {
      answer = search rules;
      here = λ b stands.
          part_stands c.args.set.now c.put_part.new.self m row i c.args.first c.at.result c.args.from.now
          c.put_part.result c.at.ensures c.put_part.ensures.answer b stands;
      keeps = attempt_keeps (write_at (member m i) row) _ _ _ tried;
      works = write_works (member m i) row _ _ _ tried;
      plan = carries_one _ _ _ _ tried;
    }

pub returns-in-Broken-clause-works : goal.returns-in-Broken-clause-works
returns-in-Broken-clause-works g c =
    write_works _ _ _ _ _
    (attempt_at (λ p. write_at p c.args.row) _ _ (member c.args.members.now c.args.position) _ _ c.at.ensures
    c.put_part.ensures.made)

pub returns-in-Broken-clause-plan : goal.returns-in-Broken-clause-plan
returns-in-Broken-clause-plan g c =
    carries_one _ _ _ _
    (attempt_at (λ p. write_at p c.args.row) _ _ (member c.args.members.now c.args.position) _ _ c.at.ensures
    c.put_part.ensures.made)

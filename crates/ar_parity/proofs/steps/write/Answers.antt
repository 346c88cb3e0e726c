use Rattle.std.proofs.Common.{rules}
use Rattle.ar_disks.specs.Members.{member}
use Rattle.ar_extents.specs.Plans.{write_at}
use Rattle.ar_extents.proofs.Asking.{write_works}
use Rattle.ar_extents.proofs.Plans.{carries_one}
use Rattle.ar_parity.proofs.Plans.{attempt_at}
use Rattle.ar_parity.proofs.steps.write.Goals as goal

pub returns-in-Written : goal.returns-in-Written
returns-in-Written g c = record {
  answer = search rules;
  here = search rules;
  keeps = search rules;
  works = search rules;
  plan = carries_one _ _ _ _
      (attempt_at (λ p. write_at p c.args.row) _ _ (member c.args.members.now c.args.position) _ _ c.at.ensures
      c.put.ensures.made);
}

pub returns-in-Broken-clause-works : goal.returns-in-Broken-clause-works
returns-in-Broken-clause-works g c =
    write_works _ _ _ _ _
    (attempt_at (λ p. write_at p c.args.row) _ _ (member c.args.members.now c.args.position) _ _ c.at.ensures
    c.put.ensures.made)

pub returns-in-Broken-clause-plan : goal.returns-in-Broken-clause-plan
returns-in-Broken-clause-plan g c =
    carries_one _ _ _ _
    (attempt_at (λ p. write_at p c.args.row) _ _ (member c.args.members.now c.args.position) _ _ c.at.ensures
    c.put.ensures.made)

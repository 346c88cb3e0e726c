use Rattle.std.proofs.Common.{sym, ◌∙◌}
use Rattle.ar_extents.specs.Follows.{Anywhere}
use Rattle.ar_extents.proofs.Follows.{follows_refl, keeps_refl}
use Rattle.ar_parity.specs.Row.{parity_position}
use Rattle.ar_parity.proofs.Updates.{alone_changed}
use Rattle.ar_parity.proofs.Plans.{stripe_carried}
use Rattle.ar_parity.proofs.update.change.Goals as goal

pub returns-then-missing-clause-changes : goal.returns-then-missing-clause-changes
returns-then-missing-clause-changes g c = record {
  agrees = alone_changed c.args.set.now c.args.set.now c.write_part.new.set c.args.members.now c.args.row
      c.args.position c.parity_at.result
      (parity_position c.args.row) c.args.first c.at.result c.args.from.now c.requires.group.apart c.at.ensures
      c.parity_at.ensures.position c.requires.below
      c.parity_at.ensures.below c.requires.apart c.requires.within (follows_refl c.args.set.now)
      (keeps_refl Anywhere c.args.set.now)
      (sym c.missing.ensures ∙ c.if-missing.true) c.write_part.ensures.works.follows c.write_part.ensures.keeps
      c.write_part.ensures.here;
}

pub returns-then-missing-clause-plan : goal.returns-then-missing-clause-plan
returns-then-missing-clause-plan g c =
    stripe_carried c.args.members.now c.args.position (parity_position c.args.row) _ c.args.row _ _ _ _
    c.parity_at.ensures.position c.at.ensures
    (sym c.missing.ensures ∙ c.if-missing.true) c.write_part.ensures.plan

pub returns-clause-plan : goal.returns-clause-plan
returns-clause-plan g c =
    stripe_carried c.args.members.now c.args.position (parity_position c.args.row) _ c.args.row _ _ _ _
    c.parity_at.ensures.position c.at.ensures
    (sym c.missing.ensures ∙ c.if-missing.false) c.change_by_reading.ensures.plan

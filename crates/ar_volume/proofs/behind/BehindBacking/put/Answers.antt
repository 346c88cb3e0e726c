use Rattle.std.proofs.Common.{sym, ◌∙◌}
use Rattle.ar_extents.specs.Changes.{is_broken_set}
use Rattle.ar_volume.proofs.Breaking.{broken_is}
use Rattle.ar_volume.specs.declared.behind.Behind.{Behind}
use Rattle.ar_volume.proofs.Seeing.{heard, lost_reported, keeps_store}
use Rattle.ar_volume.proofs.behind.BehindBacking.put.Goals as goal

pub returns-clause-breaks : goal.returns-clause-breaks
returns-clause-breaks g c = λ lost.
    let put = c.put.ensures.done in
    let new = c.put.new.self in
    record {
      breaks = put.breaks lost;
      plan = put.plan;
      broken = broken_is new.disks.health
          (lost_reported (is_broken_set new.disks.health) (sym lost ∙ put.outcome ∙ heard new.disks.health));
    }

pub returns-clause-keeps : goal.returns-clause-keeps
returns-clause-keeps g c =
    keeps_store (λ (b : Behind g.row.D.Denot). b.store) c.args.self.now _ c.put.ensures.done.follows

use Rattle.std.proofs.Common.{◌≡◌, false, sym, ◌∙◌}
use Rattle.ar_extents.specs.Changes.{is_broken_set}
use Rattle.ar_volume.proofs.Breaking.{accessed_sound, broken_is, not_broken}
use Rattle.ar_volume.specs.declared.behind.Behind.{Behind}
use Rattle.ar_volume.proofs.Seeing.{done_reported, heard, lost_reported, keeps_store}
use Rattle.ar_volume.proofs.behind.BehindBacking.put_part.Goals as goal

pub returns-clause-whole : goal.returns-clause-whole
returns-clause-whole g c = λ done.
    let put = c.put_part.ensures.done in
    let old = c.args.self.now.store in
    let new = c.put_part.new.self in
    let now : is_broken_set new.disks.health ≡ false =
    done_reported (is_broken_set new.disks.health) (sym done ∙ put.outcome ∙ heard new.disks.health) in
    let was : is_broken_set old.disks.health ≡ false =
    accessed_sound old.disks new.disks put.follows.accessed now in
    c.health-health.ensures.whole
    (λ lost. not_broken old.disks.health was (sym c.health-health.ensures.health ∙ lost)) c.args.key

pub returns-clause-breaks : goal.returns-clause-breaks
returns-clause-breaks g c = λ lost.
    let put = c.put_part.ensures.done in
    let new = c.put_part.new.self in
    record {
      breaks = put.breaks lost;
      plan = put.plan;
      broken = broken_is new.disks.health
          (lost_reported (is_broken_set new.disks.health) (sym lost ∙ put.outcome ∙ heard new.disks.health));
    }

pub returns-clause-keeps : goal.returns-clause-keeps
returns-clause-keeps g c =
    keeps_store (λ (b : Behind g.row.D.Denot). b.store) c.args.self.now _ c.put_part.ensures.done.follows

use Rattle.std.proofs.Common.{refl, subst}
use Rattle.ar_volume.specs.Image.{ArrayState}
use Rattle.ar_volume.specs.Seen.{SameSeen}
use Rattle.ar_volume.proofs.Breaking.{not_broken}
use Rattle.ar_volume.proofs.Seeing.{all_seen}
use Rattle.ar_volume.proofs.blocks.Blocks.add.Goals as goal

pub returns-clause-seen : goal.returns-clause-seen
returns-clause-seen g c = λ sound.
    let old : ArrayState = record { store = c.self.inside.behind.store; cache = c.self.inside.cache } in
    let new : ArrayState = record { store = c.add.new.self; cache = c.self.inside.cache } in
    subst (λ (s : ArrayState). SameSeen s new) c.self.view_is
    (all_seen old new refl (c.add.ensures.keeps.stands.blocks (not_broken new.store.disks.health sound)))

use Rattle.std.proofs.Common.{refl, subst}
use Rattle.ar_volume.specs.Image.{ArrayState}
use Rattle.ar_volume.specs.Seen.{SameSeen}
use Rattle.ar_volume.proofs.Seeing.{joined_grown, all_seen}
use Rattle.ar_volume.proofs.blocks.Blocks.grow.Goals as goal

pub invariant_of-self : goal.invariant_of-self
invariant_of-self g c =
    let call = c.grow.ensures in
    joined_grown c.grow.result c.self.inside.behind.store c.grow.new.self c.self.inside.cache c.args.addr c.args.sectors
    call.disks call.granted call.grown call.unchanged c.self.invariant

pub returns-clause-seen : goal.returns-clause-seen
returns-clause-seen g c =
    let old : ArrayState = record { store = c.self.inside.behind.store; cache = c.self.inside.cache } in
    let new : ArrayState = record { store = c.grow.new.self; cache = c.self.inside.cache } in
    subst (λ (s : ArrayState). SameSeen s new) c.self.view_is (all_seen old new refl c.grow.ensures.stands)

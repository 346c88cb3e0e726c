use Rattle.std.proofs.Common.{refl, subst}
use Rattle.ar_volume.specs.Image.{ArrayState}
use Rattle.ar_volume.specs.Seen.{SameSeen}
use Rattle.ar_volume.proofs.Seeing.{joined_made, all_seen}
use Rattle.ar_volume.proofs.blocks.Blocks.make.Goals as goal

pub invariant_of-self : goal.invariant_of-self
invariant_of-self g c =
    let call = c.make.ensures in
    joined_made c.make.result c.self.inside.behind.store c.make.new.self c.self.inside.cache c.args.addr c.args.sectors
    call.disks call.granted call.made call.unchanged c.self.invariant

pub returns-clause-seen : goal.returns-clause-seen
returns-clause-seen g c =
    let old : ArrayState = record { store = c.self.inside.behind.store; cache = c.self.inside.cache } in
    let new : ArrayState = record { store = c.make.new.self; cache = c.self.inside.cache } in
    subst (λ (s : ArrayState). SameSeen s new) c.self.view_is (all_seen old new refl c.make.ensures.stands)

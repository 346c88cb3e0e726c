use Rattle.std.proofs.Common.{subst}
use Rattle.ar_volume.specs.Image.{ArrayState}
use Rattle.ar_volume.specs.Seen.{SameSeen}
use Rattle.ar_volume.specs.Storing.{BreaksForced}
use Rattle.ar_volume.proofs.Putting.{breaks_forced}
use Rattle.ar_volume.proofs.Seeing.{seen_kept}
use Rattle.ar_volume.proofs.blocks.Blocks.flush_key.Goals as goal

pub returns-clause-seen : goal.returns-clause-seen
returns-clause-seen g c = λ done.
    let old : ArrayState = record { store = c.self.inside.behind.store; cache = c.self.inside.cache } in
    let new : ArrayState = record { store = c.flush_key.new.backing.store; cache = c.flush_key.new.self } in
    subst (λ (s : ArrayState). SameSeen s new) c.self.view_is (seen_kept old new (c.flush_key.ensures.rest.seen done))

pub returns-clause-breaks : goal.returns-clause-breaks
returns-clause-breaks g c = λ lost.
    let call = c.flush_key.ensures in
    let new : ArrayState = record { store = c.flush_key.new.backing.store; cache = c.flush_key.new.self } in
    subst (λ (s : ArrayState). BreaksForced s c.args.key new) c.self.view_is
    (breaks_forced c.self.inside.behind.store c.flush_key.new.backing.store c.self.inside.cache c.flush_key.new.self
    c.args.key c.flush_key.result lost
    (call.broken lost) (λ none. (call.behind.absent none).0) (call.behind.broke lost))

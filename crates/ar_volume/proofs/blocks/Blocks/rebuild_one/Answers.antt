use Rattle.std.proofs.Common.{refl, subst}
use Rattle.ar_volume.specs.Image.{ArrayState}
use Rattle.ar_volume.specs.Rebuild.{RebuildsOne}
use Rattle.ar_volume.specs.Seen.{SameSeen}
use Rattle.ar_volume.proofs.Rebuilding.{rebuild_seen, rebuild_joined}
use Rattle.ar_volume.proofs.blocks.Blocks.rebuild_one.Goals as goal

pub invariant_of-self : goal.invariant_of-self
invariant_of-self g c =
    rebuild_joined c.self.inside.behind.store c.rebuild_one.new.store c.self.inside.cache c.rebuild_one.ensures.book
    c.rebuild_one.ensures.advances c.self.invariant

pub returns-clause-rebuilds : goal.returns-clause-rebuilds
returns-clause-rebuilds g c =
    let call = c.rebuild_one.ensures in
    let new : ArrayState = record { store = c.rebuild_one.new.store; cache = c.self.inside.cache } in
    subst (λ (s : ArrayState). RebuildsOne s c.rebuild_one.result new) c.self.view_is
    (record {
      answers = call.answer;
      plan = call.plan;
      stops = call.stops;
      tables = call.book;
      stands = call.stands;
      slots = call.slots;
      advances = call.advances;
      cache = refl;
    })

pub returns-clause-seen : goal.returns-clause-seen
returns-clause-seen g c = λ sound.
    let new : ArrayState = record { store = c.rebuild_one.new.store; cache = c.self.inside.cache } in
    subst (λ (s : ArrayState). SameSeen s new) c.self.view_is
    (rebuild_seen c.self.inside.behind.store c.rebuild_one.new.store c.self.inside.cache c.rebuild_one.ensures.stands
    sound)

use Rattle.std.proofs.Common.{subst}
use Rattle.ar_volume.specs.Following.{ArrayFollows}
use Rattle.ar_volume.specs.Image.{ArrayState}
use Rattle.ar_volume.specs.Moves.{CleansOne}
use Rattle.ar_volume.specs.Seen.{SameSeen}
use Rattle.ar_volume.proofs.Moving.{moves_block, moves_seen, moves_follow, moves_joined}
use Rattle.ar_volume.proofs.blocks.Blocks.clean_one.Goals as goal

pub invariant_of-self : goal.invariant_of-self
invariant_of-self g c =
    moves_joined c.self.inside.behind.store c.clean_one.new.store c.self.inside.cache c.clean_one.ensures.leaves
    c.self.invariant

pub returns-clause-cleans : goal.returns-clause-cleans
returns-clause-cleans g c =
    let call = c.clean_one.ensures in
    let new : ArrayState = record { store = c.clean_one.new.store; cache = c.self.inside.cache } in
    subst (λ (s : ArrayState). CleansOne s c.clean_one.result new) c.self.view_is
    (record {
      moves = moves_block c.self.inside.behind.store c.clean_one.new.store c.self.inside.cache
          c.clean_one.result call.leaves call.broken;
      moved = call.moved;
      idle = call.idle;
      nothing =
          call.nothing;
      unmoved = call.unmoved;
      free = call.free;
      plan = call.plan;
    })

pub returns-clause-seen : goal.returns-clause-seen
returns-clause-seen g c = λ sound.
    let new : ArrayState = record { store = c.clean_one.new.store; cache = c.self.inside.cache } in
    subst (λ (s : ArrayState). SameSeen s new) c.self.view_is
    (moves_seen c.self.inside.behind.store c.clean_one.new.store c.self.inside.cache c.clean_one.ensures.leaves sound)

pub returns-clause-follows : goal.returns-clause-follows
returns-clause-follows g c =
    let new : ArrayState = record { store = c.clean_one.new.store; cache = c.self.inside.cache } in
    subst (λ (s : ArrayState). ArrayFollows s new) c.self.view_is
    (moves_follow c.self.inside.behind.store c.clean_one.new.store c.self.inside.cache c.clean_one.ensures.leaves)

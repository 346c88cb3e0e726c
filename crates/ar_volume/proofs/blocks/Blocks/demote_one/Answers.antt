use Rattle.std.proofs.Common.{subst}
use Rattle.ar_volume.specs.Following.{ArrayFollows}
use Rattle.ar_volume.specs.Image.{ArrayState}
use Rattle.ar_volume.specs.Moves.{DemotesOne}
use Rattle.ar_volume.specs.Seen.{SameSeen}
use Rattle.ar_volume.proofs.Moving.{moves_block, moves_seen, moves_follow, moves_joined}
use Rattle.ar_volume.proofs.blocks.Blocks.demote_one.Goals as goal

pub invariant_of-self : goal.invariant_of-self
invariant_of-self g c =
    moves_joined c.self.inside.behind.store c.demote_one.new.store c.self.inside.cache c.demote_one.ensures.done.leaves
    c.self.invariant

pub returns-clause-demotes : goal.returns-clause-demotes
returns-clause-demotes g c =
    let call = c.demote_one.ensures in
    let new : ArrayState = record { store = c.demote_one.new.store; cache = c.self.inside.cache } in
    subst (λ (s : ArrayState). DemotesOne s c.demote_one.result new) c.self.view_is
    (record {
      moves = moves_block c.self.inside.behind.store c.demote_one.new.store c.self.inside.cache
          c.demote_one.result call.done.leaves call.done.broken;
      moved = call.moved;
      idle = call.idle;
      nothing =
          call.nothing;
      opened = call.done.opened;
      ready = call.done.ready;
      plan = call.done.plan;
    })

pub returns-clause-seen : goal.returns-clause-seen
returns-clause-seen g c = λ sound.
    let new : ArrayState = record { store = c.demote_one.new.store; cache = c.self.inside.cache } in
    subst (λ (s : ArrayState). SameSeen s new) c.self.view_is
    (moves_seen c.self.inside.behind.store c.demote_one.new.store c.self.inside.cache
    c.demote_one.ensures.done.leaves sound)

pub returns-clause-follows : goal.returns-clause-follows
returns-clause-follows g c =
    let new : ArrayState = record { store = c.demote_one.new.store; cache = c.self.inside.cache } in
    subst (λ (s : ArrayState). ArrayFollows s new) c.self.view_is
    (moves_follow c.self.inside.behind.store c.demote_one.new.store c.self.inside.cache
    c.demote_one.ensures.done.leaves)

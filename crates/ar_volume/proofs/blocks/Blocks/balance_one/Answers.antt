use Rattle.std.proofs.Common.{refl, ap, subst}
use Rattle.ar_extents.specs.Changes.{is_broken_set}
use Rattle.ar_volume.specs.Image.{ArrayState}
use Rattle.ar_volume.specs.Balance.{BalancesOne}
use Rattle.ar_volume.specs.Seen.{SameSeen}
use Rattle.ar_volume.proofs.Balancing.{balance_seen, balance_joined}
use Rattle.ar_volume.proofs.Breaking.{broken_is}
use Rattle.ar_volume.proofs.blocks.Blocks.balance_one.Goals as goal

pub invariant_of-self : goal.invariant_of-self
invariant_of-self g c =
    balance_joined c.self.inside.behind.store c.balance_one.new.store c.self.inside.cache
    c.balance_one.ensures.done.leaves c.self.invariant

pub returns-clause-balances : goal.returns-clause-balances
returns-clause-balances g c =
    let call = c.balance_one.ensures in
    let new : ArrayState = record { store = c.balance_one.new.store; cache = c.self.inside.cache } in
    subst (λ (s : ArrayState). BalancesOne s c.balance_one.result new) c.self.view_is
    (record {
      does = call.done.does;
      leaves = call.done.leaves;
      more_room = call.room;
      less = call.done.less;
      broken = (
        λ is. ap is_broken_set (call.broken.0 is),
        λ lost. call.broken.1 (broken_is new.store.disks.health lost),
      );
      cache = refl;
    })

pub returns-clause-seen : goal.returns-clause-seen
returns-clause-seen g c = λ sound.
    let new : ArrayState = record { store = c.balance_one.new.store; cache = c.self.inside.cache } in
    subst (λ (s : ArrayState). SameSeen s new) c.self.view_is
    (balance_seen c.self.inside.behind.store c.balance_one.new.store c.self.inside.cache
    c.balance_one.ensures.done.leaves sound)

use Rattle.std.proofs.Common.{sym}
use Rattle.ar_cache.proofs.Closing.{kept_without_key, state_of}
use Rattle.ar_cache.proofs.Sound.{cached_whole}
use Rattle.ar_cache.proofs.cache.Cache.remove.Goals as goal

pub invariant_of-self : goal.invariant_of-self
invariant_of-self c =
    let i = c.self.inside in
    let kept = kept_without_key i.geometry i.capacity i.entries c.pop.new.self c.args.key
    (c.self.invariant.0, c.self.invariant.1) c.pop.ensures.entries in (
      kept.0,
      kept.1,
      cached_whole (state_of i.geometry i.capacity i.entries) c.args.key c.in-Some.block
          c.self.invariant.0 (sym c.in-Some.ensures.value),
    )

pub invariant_of-self-in-Some-2 : goal.invariant_of-self-in-Some-2
invariant_of-self-in-Some-2 c =
    let i = c.self.inside in
    let kept = kept_without_key i.geometry i.capacity i.entries c.pop.new.self c.args.key
    (c.self.invariant.0, c.self.invariant.1) c.pop.ensures.entries in (
      kept.0,
      kept.1,
      cached_whole (state_of i.geometry i.capacity i.entries) c.args.key c.in-Some.block
          c.self.invariant.0 (sym c.in-Some.ensures.value),
    )

pub invariant_of-self-in_default : goal.invariant_of-self-in_default
invariant_of-self-in_default c =
    let i = c.self.inside in
    let kept = kept_without_key i.geometry i.capacity i.entries c.pop.new.self c.args.key
    (c.self.invariant.0, c.self.invariant.1) c.pop.ensures.entries in
    (kept.0, kept.1, c.self.invariant.2)

use Rattle.std.proofs.Common.{length, drop, reverse}
use Rattle.std.specs.Map.{keys_of}
use Rattle.ar_cache.specs.Backing.{InTurn}
use Rattle.ar_cache.proofs.Emptying.{IsEmptying}
use Rattle.ar_cache.proofs.cache.Cache.flush_all.Given as goal

abbrev pub invariant-loop-self : goal.invariant-loop-self
invariant-loop-self g l =
    let b = g.B.Backing in
    IsEmptying b.block_at b.geometry b.knows b.is_broken b.follows l.fn.self l.fn.backing l.self l.backing
    × InTurn b.puts (reverse (keys_of (drop (length l.self.entries) l.fn.self.entries))) l.fn.backing l.backing

abbrev pub decreases-loop-self : goal.decreases-loop-self
decreases-loop-self g l = length l.self.entries

use Rattle.std.proofs.Common.{◌≡◌, ℕ, ◌+◌, ◌-◌, ◌<◌, ◌≤◌, false, None}
use Rattle.ar_cache.specs.Backing.{InTurn}
use Rattle.ar_cache.specs.Cache.{cached}
use Rattle.ar_volume.specs.Sectors.{key_of, keys_from}
use Rattle.ar_volume.specs.Image.{is_broken}
use Rattle.ar_volume.specs.Following.{ArrayFollows}
use Rattle.ar_volume.specs.Storing.{ForcesBlock}
use Rattle.ar_volume.specs.Seen.{SameSeen, KeepsCachedBut}
use Rattle.ar_volume.proofs.blocks.Blocks.force.Given as goal

-- the blocks so far are on the disks, and none is seen to have changed; no other has left the cache
abbrev pub invariant-loop-rb : goal.invariant-loop-rb
invariant-loop-rb g l = record {
  sound : is_broken l.self ≡ false;
  forced : (k : ℕ) → l.first ≤ k → k < l.rb → cached l.self.cache (key_of l.addr k) ≡ None;
  ordered : l.first ≤ l.rb;
  spared : KeepsCachedBut l.fn.self.cache l.self.cache l.addr l.first l.rb;
  in_turn : InTurn ForcesBlock (keys_from l.addr l.first (l.rb - l.first)) l.fn.self l.self;
  within : l.first < l.rb → l.rb ≤ l.last + 1;
  seen : SameSeen l.fn.self l.self;
  follows : ArrayFollows l.fn.self l.self;
}

abbrev pub decreases-loop-rb : goal.decreases-loop-rb
decreases-loop-rb g l = l.last + 1 - l.rb

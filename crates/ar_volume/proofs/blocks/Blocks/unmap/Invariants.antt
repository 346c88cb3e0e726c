use Rattle.std.proofs.Common.{◌≡◌, ◌≢◌, ◌⊎◌, ℕ, ◌*◌, ◌-◌, ◌%◌, ◌<◌, ◌≤◌, false, length}
use Rattle.ar_disks.specs.declared.address.Key.{Key}
use Rattle.ar_disks.specs.Geometry.{sectors_of}
use Rattle.ar_disks.specs.Block.{sectors_at, zeros}
use Rattle.ar_cache.specs.Backing.{InTurn, KeepsBacking}
use Rattle.ar_volume.specs.Following.{ArrayFollows}
use Rattle.ar_volume.specs.Image.{geometry_of, is_broken, knows_in, seen_at}
use Rattle.ar_volume.specs.Sectors.{sector_in, keys_in, unit_block}
use Rattle.ar_volume.specs.Unmap.{DiscardsBlock}
use Rattle.ar_volume.proofs.blocks.Blocks.unmap.Given as goal

abbrev pub invariant-loop-at : goal.invariant-loop-at
invariant-loop-at g l = record {
  from : l.lba ≤ l.at;
  until : l.at ≤ l.end;
  inside : (i : ℕ) → l.lba ≤ i → i < l.at → sector_in l.geometry (unit_block (seen_at l.self) l.addr) i
      ≡ sectors_at (zeros (l.count * 512)) (i - l.lba) 1;
  outside : (i : ℕ) → (i < l.lba) ⊎ (l.at ≤ i)
      → sector_in l.geometry (unit_block (seen_at l.self) l.addr) i
      ≡ sector_in l.geometry (unit_block (seen_at l.fn.self) l.addr) i;
  others : (k : Key) → k.addr ≢ l.addr → seen_at l.self k ≡ seen_at l.fn.self k;
  discard : InTurn (DiscardsBlock l.geometry l.lba l.count) (keys_in l.geometry l.addr l.lba (l.at - l.lba)) l.fn.self
      l.self;
  edge : ((l.at ≡ l.lba) ⊎ (l.at % sectors_of l.geometry ≡ 0)) ⊎ (l.at ≡ l.end);
  sound : is_broken l.self ≡ false;
  keeps : KeepsBacking geometry_of (λ b. knows_in b.store) is_broken ArrayFollows l.fn.self l.self;
  len : length l.block ≡ length l.fn.block;
}

abbrev pub decreases-loop-at : goal.decreases-loop-at
decreases-loop-at g l = l.end - l.at

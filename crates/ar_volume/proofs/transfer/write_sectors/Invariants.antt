use Rattle.std.proofs.Common.{◌≡◌, ◌≢◌, ◌⊎◌, ℕ, ◌-◌, ◌%◌, ◌<◌, ◌≤◌, false, length}
use Rattle.ar_disks.specs.declared.address.Key.{Key}
use Rattle.ar_disks.specs.Geometry.{sectors_of}
use Rattle.ar_disks.specs.Block.{sectors_at}
use Rattle.ar_cache.specs.Backing.{InTurn, KeepsBacking}
use Rattle.ar_volume.specs.Sectors.{sector_in, keys_in, unit_block}
use Rattle.ar_volume.specs.Storing.{Overwrites}
use Rattle.ar_volume.proofs.transfer.write_sectors.Given as goal

abbrev pub invariant-loop-at : goal.invariant-loop-at
invariant-loop-at g l = record {
  from : l.lba ≤ l.at;
  until : l.at ≤ l.end;
  inside : (i : ℕ) → l.lba ≤ i → i < l.at → sector_in l.geometry (unit_block (g.B.Backing.block_at l.blocks) l.addr) i
      ≡ sectors_at l.bytes (i - l.lba) 1;
  outside : (i : ℕ) → (i < l.lba) ⊎ (l.at ≤ i)
      → sector_in l.geometry (unit_block (g.B.Backing.block_at l.blocks) l.addr) i
      ≡ sector_in l.geometry (unit_block (g.B.Backing.block_at l.fn.blocks) l.addr) i;
  others : (k : Key) → k.addr ≢ l.addr → g.B.Backing.block_at l.blocks k ≡ g.B.Backing.block_at l.fn.blocks k;
  put : InTurn (Overwrites g.B.Backing.gets g.B.Backing.puts g.B.Backing.in_place l.geometry l.lba l.count)
      (keys_in l.geometry l.addr l.lba (l.at - l.lba)) l.fn.blocks l.blocks;
  edge : ((l.at ≡ l.lba) ⊎ (l.at % sectors_of l.geometry ≡ 0)) ⊎ (l.at ≡ l.end);
  sound : g.B.Backing.is_broken l.blocks ≡ false;
  keeps : KeepsBacking g.B.Backing.geometry g.B.Backing.knows g.B.Backing.is_broken g.B.Backing.follows l.fn.blocks
      l.blocks;
  len : length l.block ≡ length l.fn.block;
}

abbrev pub decreases-loop-at : goal.decreases-loop-at
decreases-loop-at g l = l.end - l.at

use Rattle.std.proofs.Common.{◌≡◌, ◌⊎◌, ◌*◌, ◌-◌, ◌%◌, ◌≤◌, false, take}
use Rattle.std.specs.List.{concat}
use Rattle.ar_disks.specs.Geometry.{sectors_of}
use Rattle.ar_cache.specs.Backing.{InTurn, KeepsBacking, SameBlocks}
use Rattle.ar_volume.specs.Sectors.{sectors_in, keys_in, unit_block}
use Rattle.ar_volume.proofs.transfer.read_sectors.Given as goal

abbrev pub invariant-loop-at : goal.invariant-loop-at
invariant-loop-at g l = record {
  from : l.lba ≤ l.at;
  until : l.at ≤ l.end;
  begun : take (512 * (l.at - l.lba)) l.out
      ≡ concat (sectors_in l.fn.geometry (unit_block (g.B.Backing.block_at l.fn.blocks) l.addr) l.lba (l.at - l.lba));
  blocks : SameBlocks (g.B.Backing.block_at l.fn.blocks) (g.B.Backing.block_at l.blocks);
  sound : g.B.Backing.is_broken l.blocks ≡ false;
  keeps : KeepsBacking g.B.Backing.geometry g.B.Backing.knows g.B.Backing.is_broken g.B.Backing.follows l.fn.blocks
      l.blocks;
  gets : InTurn g.B.Backing.gets (keys_in l.fn.geometry l.addr l.lba (l.at - l.lba)) l.fn.blocks l.blocks;
  edge : ((l.at ≡ l.lba) ⊎ (l.at % sectors_of l.fn.geometry ≡ 0)) ⊎ (l.at ≡ l.end);
}

abbrev pub decreases-loop-at : goal.decreases-loop-at
decreases-loop-at g l = l.end - l.at

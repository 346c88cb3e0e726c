use Rattle.std.proofs.Common.{◌≡◌, true, refl, sym, subst}
use Rattle.ar_disks.specs.Disk.{DiskState, HasPlace, Reads, block_at}
use Rattle.ar_disks.specs.Memory.{sound_disk, accessed}
use Rattle.ar_disks.proofs.Places.{block_at_row, block_at-accessed}
use Rattle.ar_disks.proofs.memory.MemDiskDisk.read.Goals as goal

pub returns-clause-read : goal.returns-clause-read
returns-clause-read c =
    let old : DiskState =
    accessed (sound_disk c.self.inside.geometry c.self.inside.extents c.self.inside.bytes.items)
    c.self.inside.accesses.count in
    let place = subst (λ (d : DiskState). HasPlace d c.args.ext c.args.row) (sym c.self.view_is) c.requires.place in
    let content : c.copy_from_slice.new.self ≡ block_at old c.args.ext c.args.row =
    rw (block_at_row old c.args.ext c.args.row place.row_exists) (cc) in
    subst (λ (d : DiskState).
    Reads d (accessed old c.tick.new.self.count) c.args.ext c.args.row true c.copy_from_slice.new.self)
    c.self.view_is
    (record {
      answers = record {
        geometry = refl;
        extents = refl;
        gone = refl;
        stays_gone = λ gone. gone;
        faults = refl;
        accesses = c.tick.ensures;
      };
      blocks = λ e r. block_at-accessed old c.tick.new.self.count e r;
      content = λ _. content;
    })

use Rattle.std.proofs.Common.{◌≡◌, ℕ, ◌+◌, ◌*◌, ◌≤◌, true, length, refl, sym, ap, subst, ◌∙◌, arith}
use Rattle.std.specs.Prelude.{slice_range}
use Rattle.ar_disks.specs.Block.{part_at}
use Rattle.ar_disks.specs.Geometry.{block_len_of}
use Rattle.ar_disks.specs.Disk.{DiskState, HasPlace, ReadsPart, block_at, offset_of}
use Rattle.ar_disks.specs.Memory.{sound_disk, accessed}
use Rattle.ar_disks.proofs.Places.{block_at-accessed}
use Rattle.ar_disks.proofs.Parts.{part_at_row}
use Rattle.ar_disks.proofs.memory.MemDiskDisk.read_part.Goals as goal

pub returns-clause-read : goal.returns-clause-read
returns-clause-read c =
    let old : DiskState =
    accessed (sound_disk c.self.inside.geometry c.self.inside.extents c.self.inside.bytes.items)
    c.self.inside.accesses.count in
    let e : ℕ = c.args.ext in
    let r : ℕ = c.args.row in
    let len : ℕ = length c.args.into.now in
    let place = subst (λ (d : DiskState). HasPlace d e r) (sym c.self.view_is) c.requires.place in
    let within =
    subst (λ (d : DiskState). 512 * c.args.first + len ≤ block_len_of d.geometry) (sym c.self.view_is)
    c.requires.within in
    let at : c.offset.result + c.args.first * 512 ≡ offset_of c.self.inside.geometry e r + 512 * c.args.first =
    omega (arith, c.offset.ensures) in
    let read : c.copy_from_slice.new.self
    ≡ slice_range c.self.inside.bytes.items (c.offset.result + c.args.first * 512)
    (c.offset.result + c.args.first * 512 + len) = cc in
    let content : c.copy_from_slice.new.self
    ≡ part_at (block_at old e r) c.args.first (length c.copy_from_slice.new.self) =
    read ∙ ap (λ k. slice_range c.self.inside.bytes.items k (k + len)) at
    ∙ sym (part_at_row old e r c.args.first len place within)
    ∙ ap (λ n. part_at (block_at old e r) c.args.first n) (sym c.copy_from_slice.ensures.len) in
    subst (λ (d : DiskState).
    ReadsPart d (accessed old c.tick.new.self.count) e r c.args.first true c.copy_from_slice.new.self)
    c.self.view_is
    (record {
      block = record {
        answers = record {
          geometry = refl;
          extents = refl;
          gone = refl;
          stays_gone = λ gone. gone;
          faults = refl;
          accesses = c.tick.ensures;
        };
        blocks = λ f s. block_at-accessed old c.tick.new.self.count f s;
        content = λ _. refl;
      };
      part = λ _. content;
    })

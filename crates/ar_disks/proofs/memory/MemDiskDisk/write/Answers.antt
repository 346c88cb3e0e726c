use Rattle.std.proofs.Common.{◌≡◌, ℕ, List, true, length, refl, sym, subst, ◌∙◌, arith}
use Rattle.std.proofs.lemmas.List.{with_items_is}
use Rattle.std.specs.Vec.{with_items}
use Rattle.ar_disks.specs.Geometry.{block_len_of}
use Rattle.ar_disks.specs.Disk.{DiskState, HasPlace, Writes, offset_of}
use Rattle.ar_disks.specs.Memory.{sound_disk, accessed}
use Rattle.ar_disks.proofs.Places.{overwritten, writes_place}
use Rattle.ar_disks.proofs.memory.MemDiskDisk.write.Goals as goal

pub returns-clause-written : goal.returns-clause-written
returns-clause-written c =
    let shown : List ℕ → ℕ → DiskState =
    λ bytes n. accessed (sound_disk c.self.inside.geometry c.self.inside.extents bytes) n in
    let old : DiskState = shown c.self.inside.bytes.items c.self.inside.accesses.count in
    let place = subst (λ (d : DiskState). HasPlace d c.args.ext c.args.row) (sym c.self.view_is) c.requires.place in
    let whole =
    subst (λ (d : DiskState). length c.args.from.now ≡ block_len_of d.geometry) (sym c.self.view_is)
    c.requires.whole in
    let bytes : (with_items c.self.inside.bytes c.overwrite.new.target).items
    ≡ overwritten c.self.inside.bytes.items (offset_of c.self.inside.geometry c.args.ext c.args.row) c.args.from.now =
    with_items_is c.self.inside.bytes c.overwrite.new.target (omega arith) ∙ (cc) in
    let with_block : List ℕ =
    overwritten c.self.inside.bytes.items (offset_of c.self.inside.geometry c.args.ext c.args.row)
    c.args.from.now in
    subst (λ (d : DiskState).
    Writes d (shown (with_items c.self.inside.bytes c.overwrite.new.target).items c.tick.new.self.count)
    c.args.ext c.args.row true c.args.from.now)
    c.self.view_is
    (subst (λ (bs : List ℕ). Writes old (shown bs c.tick.new.self.count) c.args.ext c.args.row true c.args.from.now)
    (sym bytes)
    (subst (λ (n : ℕ). Writes old (shown with_block n) c.args.ext c.args.row true c.args.from.now) (sym c.tick.ensures)
    (writes_place old c.args.ext c.args.row c.args.from.now place c.self.invariant whole refl)))

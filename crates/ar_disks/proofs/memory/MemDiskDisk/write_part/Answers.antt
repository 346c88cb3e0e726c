use Rattle.std.proofs.Common.{◌≡◌, ℕ, ◌+◌, ◌*◌, ◌≤◌, List, true, length, refl, ap, sym, subst, ◌∙◌, arith}
use Rattle.std.proofs.lemmas.List.{with_items_is}
use Rattle.std.specs.Vec.{with_items}
use Rattle.ar_disks.specs.Geometry.{block_len_of}
use Rattle.ar_disks.specs.Block.{with_sectors}
use Rattle.ar_disks.specs.Disk.{DiskState, HasPlace, Writes, block_at, offset_of}
use Rattle.ar_disks.specs.Memory.{sound_disk, accessed}
use Rattle.ar_disks.proofs.Places.{overwritten}
use Rattle.ar_disks.proofs.Parts.{writes_part}
use Rattle.ar_disks.proofs.memory.MemDiskDisk.write_part.Goals as goal

pub returns-clause-written : goal.returns-clause-written
returns-clause-written c =
    let shown : List ℕ → ℕ → DiskState =
    λ bytes n. accessed (sound_disk c.self.inside.geometry c.self.inside.extents bytes) n in
    let old : DiskState = shown c.self.inside.bytes.items c.self.inside.accesses.count in
    let e : ℕ = c.args.ext in
    let r : ℕ = c.args.row in
    let from : List ℕ = c.args.from.now in
    let place = subst (λ (d : DiskState). HasPlace d e r) (sym c.self.view_is) c.requires.place in
    let within =
    subst (λ (d : DiskState). 512 * c.args.first + length from ≤ block_len_of d.geometry) (sym c.self.view_is)
    c.requires.within in
    let at : c.offset.result + c.args.first * 512 ≡ offset_of c.self.inside.geometry e r + 512 * c.args.first =
    omega (arith, c.offset.ensures) in
    let bytes : (with_items c.self.inside.bytes c.overwrite.new.target).items
    ≡ overwritten c.self.inside.bytes.items (c.offset.result + c.args.first * 512) from =
    with_items_is c.self.inside.bytes c.overwrite.new.target (omega arith) ∙ (cc) in
    let with_bytes : List ℕ =
    overwritten c.self.inside.bytes.items (offset_of c.self.inside.geometry e r + 512 * c.args.first) from in
    let after : DiskState → List ℕ = λ d. with_sectors (block_at d e r) c.args.first from in
    subst (λ (d : DiskState).
    Writes d (shown (with_items c.self.inside.bytes c.overwrite.new.target).items c.tick.new.self.count) e r true
    (after d))
    c.self.view_is
    (subst (λ (bs : List ℕ). Writes old (shown bs c.tick.new.self.count) e r true (after old))
    (sym (bytes ∙ ap (λ k. overwritten c.self.inside.bytes.items k from) at))
    (subst (λ (n : ℕ). Writes old (shown with_bytes n) e r true (after old)) (sym c.tick.ensures)
    (writes_part old e r c.args.first from place c.self.invariant within refl)))

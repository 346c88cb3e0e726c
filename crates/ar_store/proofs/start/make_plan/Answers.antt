use Rattle.std.proofs.Common.{◌≡◌, map, length, sym, ap, ◌∙◌, arith}
use Rattle.std.proofs.lemmas.List.{length-map}
use Rattle.ar_disks.specs.Disk.{DiskState}
use Rattle.ar_disks.specs.Geometry.{block_len_of}
use Rattle.ar_extents.specs.Set.{disk_in}
use Rattle.ar_extents.specs.Changes.{started}
use Rattle.ar_extents.proofs.Disks.{disk_in-read}
use Rattle.ar_store.proofs.Starting.{start_some, loose_started}
use Rattle.ar_store.proofs.start.make_plan.Goals as goal

pub bounds-disks-0 : goal.bounds-disks-0
bounds-disks-0 g c =
    let disks = map g.D.Disk.state c.args.disks.now in
    let size : length disks ≡ length c.args.disks.now = length-map c.args.disks.now g.D.Disk.state in
    let some = (start_some disks c.requires).0 in
    omega arith

pub bounds-disks-0-2 : goal.bounds-disks-0-2
bounds-disks-0-2 g c =
    let disks = map g.D.Disk.state c.args.disks.now in
    let size : length disks ≡ length c.args.disks.now = length-map c.args.disks.now g.D.Disk.state in
    let some = (start_some disks c.requires).0 in
    omega arith

pub returns : goal.returns
returns g c =
    let disks = map g.D.Disk.state c.args.disks.now in
    let size : length disks ≡ length c.args.disks.now = length-map c.args.disks.now g.D.Disk.state in
    let some = (start_some disks c.requires).0 in
    let first : disk_in disks 0 ≡ g.D.Disk.state c.index-disks-0.result =
    disk_in-read g.D.Disk.state c.args.disks.now 0 _ (omega arith) c.index-disks-0.is in
    let second : disk_in disks 0 ≡ g.D.Disk.state c.index-disks-0-2.result =
    disk_in-read g.D.Disk.state c.args.disks.now 0 _ (omega arith) c.index-disks-0-2.is in
    let geometry : c.geometry-geometry.result ≡ (started disks).geometry =
    c.geometry-geometry.ensures ∙ ap (λ (s : DiskState). s.geometry) (sym first) in
    record {
      book = c.in_ok-book.ensures (started disks)
          (loose_started disks c.geometry-geometry.result (length c.args.disks.now) c.extents-extents.result
          (sym geometry) size
          (ap (λ (s : DiskState). s.extents) second ∙ sym c.extents-extents.ensures));
      block = c.in_ok-buffers.ensures.block ∙ ap block_len_of geometry;
      scratch = c.in_ok-buffers.ensures.scratch ∙ geometry;
    }

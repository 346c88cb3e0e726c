-- The blocks of a new array are as long as those of its disks.
use Rattle.std.proofs.Common.{◌≡◌, ℕ, List, [], ◌∷◌, None, replicate, zero, suc, ap}
use Rattle.ar_disks.specs.declared.address.Members.{Members}
use Rattle.ar_disks.specs.Disk.{DiskState}
use Rattle.ar_extents.specs.Changes.{start_fault}
use Rattle.ar_store.specs.Store.{StoreState}
use Rattle.ar_store.specs.Forming.{IsFormed, with_group, members_list}
use Rattle.ar_volume.specs.Image.{ArrayState, geometry_of}
use Rattle.ar_volume.specs.Start.{IsStarted}

-- forming groups changes which extents are loose, and no geometry
formed_geometry : (ms : List Members) (s new : StoreState) → IsFormed s ms new → new.disks.geometry ≡ s.disks.geometry
formed_geometry [] s new h = ap (λ (x : StoreState). x.disks.geometry) h.1
formed_geometry (m ∷ ms) s new h = formed_geometry ms (with_group s m) new h.1

pub started_geometry : (n : ℕ) (disk : DiskState) (capacity : ℕ) (s : ArrayState)
    → start_fault (replicate n disk) ≡ None
    → IsStarted (replicate n disk) capacity s → geometry_of s ≡ disk.geometry
started_geometry zero disk capacity s none h = cc none
started_geometry (suc n) disk capacity s none h = formed_geometry (members_list s.store.book) _ s.store h.formed.formed

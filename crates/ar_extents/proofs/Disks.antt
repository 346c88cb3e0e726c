-- One disk of a list, and the others.
use Rattle.std.proofs.Common.{◌≡◌, ℕ, ◌<◌, Bool, List, map, length, get_or, set, sym, ◌∙◌, ap, subst, arith}
use Rattle.std.proofs.lemmas.List.{map-set, length-map, get_or-map, get_or-set_same, get_or-set_other, length-set}
use Rattle.ar_disks.specs.Block.{with_sectors}
use Rattle.ar_disks.specs.Disk.{DiskState, Reads, ReadsPart, Writes, block_at}
use Rattle.ar_extents.specs.Set.{no_disk, disk_in}
use Rattle.ar_extents.specs.Access.{OthersStay}

-- the state of a disk of the list
pub disk_in-map : {D : Type 0} (state : D → DiskState) (disks : List D) (d : ℕ) (x : D) → d < length disks
    → disk_in (map state disks) d ≡ state (get_or disks d x)
disk_in-map state disks d x lt = get_or-map state disks d x no_disk lt

-- the state of a disk that was read
pub disk_in-read : {D : Type 0} (state : D → DiskState) (disks : List D) (d : ℕ) (x : D) → d < length disks
    → x ≡ get_or disks d x
    → disk_in (map state disks) d ≡ state x
disk_in-read state disks d x lt is = disk_in-map state disks d x lt ∙ ap state (sym is)

-- the state of a disk that was put in the place of another
pub disk_in-map_set : {D : Type 0} (state : D → DiskState) (disks : List D) (d : ℕ) (x : D) → d < length disks
    → disk_in (map state (set disks d x)) d ≡ state x
disk_in-map_set state disks d x lt =
    let in_range : d < length (map state disks) = omega (arith, length-map disks state) in
    ap (λ xs. get_or xs d no_disk) (map-set state disks d x)
    ∙ get_or-set_same (map state disks) d (state x) no_disk in_range

-- the other disks stay
pub OthersStay-map_set : {D : Type 0} (state : D → DiskState) (disks : List D) (d : ℕ) (x : D)
    → OthersStay (map state disks) (map state (set disks d x)) d
OthersStay-map_set state disks d x = record {
  others = λ y ne. ap (λ xs. get_or xs y no_disk) (map-set state disks d x)
      ∙ get_or-set_other (map state disks) d y (state x) no_disk ne;
  len = length-map (set disks d x) state ∙ length-set disks d x ∙ sym (length-map disks state);
}

-- what a disk of the list did, in terms of the list
pub Reads-map_set : {D : Type 0} (state : D → DiskState) (disks : List D) (d : ℕ) (x y : D) (extent row : ℕ)
    (answer : Bool) (into : List ℕ)
    → d < length disks → x ≡ get_or disks d x → Reads (state x) (state y) extent row answer into
    → Reads (disk_in (map state disks) d) (disk_in (map state (set disks d y)) d) extent row answer into
Reads-map_set state disks d x y extent row answer into lt is reads =
    let before = sym (disk_in-read state disks d x lt is) in
    let after = sym (disk_in-map_set state disks d y lt) in
    subst (λ (s : DiskState). Reads s (disk_in (map state (set disks d y)) d) extent row answer into) before
    (subst (λ (s : DiskState). Reads (state x) s extent row answer into) after reads)

pub Writes-map_set : {D : Type 0} (state : D → DiskState) (disks : List D) (d : ℕ) (x y : D) (extent row : ℕ)
    (answer : Bool) (from : List ℕ)
    → d < length disks → x ≡ get_or disks d x → Writes (state x) (state y) extent row answer from
    → Writes (disk_in (map state disks) d) (disk_in (map state (set disks d y)) d) extent row answer from
Writes-map_set state disks d x y extent row answer from lt is writes =
    let before = sym (disk_in-read state disks d x lt is) in
    let after = sym (disk_in-map_set state disks d y lt) in
    subst (λ (s : DiskState). Writes s (disk_in (map state (set disks d y)) d) extent row answer from) before
    (subst (λ (s : DiskState). Writes (state x) s extent row answer from) after writes)

-- the same of accesses of a part
pub ReadsPart-map_set : {D : Type 0} (state : D → DiskState) (disks : List D) (d : ℕ) (x y : D) (extent row first : ℕ)
    (answer : Bool) (into : List ℕ)
    → d < length disks → x ≡ get_or disks d x → ReadsPart (state x) (state y) extent row first answer into
    → ReadsPart (disk_in (map state disks) d) (disk_in (map state (set disks d y)) d) extent row first answer into
ReadsPart-map_set state disks d x y extent row first answer into lt is reads =
    let before = sym (disk_in-read state disks d x lt is) in
    let after = sym (disk_in-map_set state disks d y lt) in
    subst (λ (s : DiskState). ReadsPart s (disk_in (map state (set disks d y)) d) extent row first answer into) before
    (subst (λ (s : DiskState). ReadsPart (state x) s extent row first answer into) after reads)

pub WritesPart-map_set : {D : Type 0} (state : D → DiskState) (disks : List D) (d : ℕ) (x y : D)
    (extent row first : ℕ) (answer : Bool) (from : List ℕ)
    → d < length disks → x ≡ get_or disks d x
    → Writes (state x) (state y) extent row answer (with_sectors (block_at (state x) extent row) first from)
    → Writes (disk_in (map state disks) d) (disk_in (map state (set disks d y)) d) extent row answer
    (with_sectors (block_at (disk_in (map state disks) d) extent row) first from)
WritesPart-map_set state disks d x y extent row first answer from lt is writes =
    let before = sym (disk_in-read state disks d x lt is) in
    let after = sym (disk_in-map_set state disks d y lt) in
    subst (λ (s : DiskState). Writes s (disk_in (map state (set disks d y)) d) extent row answer
    (with_sectors (block_at s extent row) first from)) before
    (subst (λ (s : DiskState). Writes (state x) s extent row answer
    (with_sectors (block_at (state x) extent row) first from)) after writes)

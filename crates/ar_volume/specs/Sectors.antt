-- How the sectors of a unit lie in its blocks: block rb has sectors rb * n to rb * n + n - 1, n sectors a block.
use Rattle.std.specs.Prelude.{ℕ, ◌+◌, ◌-◌, ◌/◌, ◌%◌, ◌==◌, ◌&&◌, if◌then◌else◌, Bool, List, [], map}
use Rattle.std.specs.List.{range_with_len}
use Rattle.ar_disks.specs.declared.address.Addr.{Addr}
use Rattle.ar_disks.specs.declared.address.Key.{Key}
use Rattle.ar_disks.specs.declared.geometry.Geometry.{Geometry}
use Rattle.ar_disks.specs.Geometry.{sectors_of}
use Rattle.ar_disks.specs.Block.{sectors_at}

-- an address: the host's number and the LUN
abbrev pub Address : Type 0
Address = ℕ × ℕ

abbrev pub address_of : Addr → Address
address_of addr = (addr.host.number, addr.lun)

abbrev pub same_address : Address → Address → Bool
same_address a b = (a.0 == b.0) && (a.1 == b.1)

-- the key of a unit's block
abbrev pub key_of : Addr → ℕ → Key
key_of addr rb = record { addr = addr; rb = rb }

-- a unit's blocks by number
abbrev pub unit_block : (Key → List ℕ) → Addr → ℕ → List ℕ
unit_block block_at addr rb = block_at (key_of addr rb)

-- the keys of `count` of a unit's blocks from `first` on, in ascending order
abbrev pub keys_from : Addr → ℕ → ℕ → List Key
keys_from addr first count = map (key_of addr) (range_with_len first count)

-- the keys of the blocks that `count` sectors of a unit from `lba` on lie in, in ascending order
abbrev pub keys_in : Geometry → Addr → ℕ → ℕ → List Key
keys_in g addr lba count =
    if count == 0 then [] else keys_from addr (lba / sectors_of g)
    ((lba + count - 1) / sectors_of g + 1 - lba / sectors_of g)

-- sector i of a unit, given its blocks by number
unfoldable pub sector_in : Geometry → (ℕ → List ℕ) → ℕ → List ℕ
sector_in g blocks i = sectors_at (blocks (i / sectors_of g)) (i % sectors_of g) 1

-- its `count` sectors from `first` on
abbrev pub sectors_in : Geometry → (ℕ → List ℕ) → ℕ → ℕ → List (List ℕ)
sectors_in g blocks first count = map (sector_in g blocks) (range_with_len first count)

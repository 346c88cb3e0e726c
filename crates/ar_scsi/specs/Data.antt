-- The data that INQUIRY and READ CAPACITY return.
use Rattle.std.specs.Prelude.{ℕ, ◌-◌, Bool, true, false, List, [], ◌∷◌, ◌++◌}
use Rattle.byteorder.specs.Endian.{big_bytes}

-- PERIPHERAL QUALIFIER and PERIPHERAL DEVICE TYPE: a direct access block device is connected, or the device server
-- can't support one there (SPC-3, Standard INQUIRY data)
abbrev pub peripheral : Bool → ℕ
peripheral true = 0x00
peripheral false = 0x7F

-- Standard INQUIRY data (SPC-3, Standard INQUIRY data): the peripheral, not removable, SPC-3 (05h), response data
-- format 2, 31 bytes after byte 4, no further features; then the vendor AUTORAID, the product TWO LEVEL ARRAY and the
-- revision 0001
abbrev pub inquiry_data : Bool → List ℕ
inquiry_data present =
    peripheral present ∷ 0x00 ∷ 0x05 ∷ 0x02 ∷ 0x1F ∷ 0x00 ∷ 0x00 ∷ 0x00
    ∷ 0x41 ∷ 0x55 ∷ 0x54 ∷ 0x4F ∷ 0x52 ∷ 0x41 ∷ 0x49 ∷ 0x44
    ∷ 0x54 ∷ 0x57 ∷ 0x4F ∷ 0x20 ∷ 0x4C ∷ 0x45 ∷ 0x56 ∷ 0x45 ∷ 0x4C ∷ 0x20 ∷ 0x41 ∷ 0x52 ∷ 0x52 ∷ 0x41 ∷ 0x59 ∷ 0x20
    ∷ 0x30 ∷ 0x30 ∷ 0x30 ∷ 0x31 ∷ []

-- READ CAPACITY (10) data (SBC-2, READ CAPACITY (10) command): the address of the last block of a unit of `sectors`
-- blocks, in four bytes, then the block length, 512
abbrev pub capacity_data : ℕ → List ℕ
capacity_data sectors = big_bytes 4 (sectors - 1) ++ (0x00 ∷ 0x00 ∷ 0x02 ∷ 0x00 ∷ [])

-- The fields of a command descriptor block (CDB). Bytes are numbered from 0; bit 0 of a byte is the lowest.
use Rattle.std.specs.Prelude.{ℕ, ◌/◌, ◌^◌, List, drop, slice_index}
use Rattle.std.specs.Int.{bit_at}
use Rattle.byteorder.specs.Endian.{big_number}

-- byte i
abbrev pub byte : ℕ → List ℕ → ℕ
byte i cdb = slice_index cdb i

-- bit k of byte i
abbrev pub bit : ℕ → ℕ → List ℕ → ℕ
bit i k cdb = bit_at (byte i cdb) k

-- the big-endian number in the n bytes from byte i on
unfoldable pub number : ℕ → ℕ → List ℕ → ℕ
number i n cdb = big_number n (drop i cdb)

-- OPERATION CODE (SPC-3, Operation code)
abbrev pub operation_code : List ℕ → ℕ
operation_code cdb = byte 0 cdb

-- NACA, bit 2 of the CONTROL byte, which is byte i (SAM-3, CONTROL byte)
abbrev pub naca : ℕ → List ℕ → ℕ
naca i cdb = bit i 2 cdb

-- EVPD (SPC-3, INQUIRY command)
abbrev pub evpd : List ℕ → ℕ
evpd cdb = bit 1 0 cdb

-- PAGE CODE (SPC-3, INQUIRY command)
abbrev pub page_code : List ℕ → ℕ
page_code cdb = byte 2 cdb

-- ALLOCATION LENGTH of INQUIRY (SPC-3, INQUIRY command)
abbrev pub allocation_length : List ℕ → ℕ
allocation_length cdb = number 3 2 cdb

-- PMI (SBC-2, READ CAPACITY (10) command)
abbrev pub pmi : List ℕ → ℕ
pmi cdb = bit 8 0 cdb

-- RDPROTECT of a READ, WRPROTECT of a WRITE, bits 7 to 5 of byte 1 (SBC-2, READ (10) and WRITE (10) commands)
abbrev pub protect : List ℕ → ℕ
protect cdb = byte 1 cdb / 2 ^ 5

-- FUA (SBC-2, WRITE (10) command)
abbrev pub fua : List ℕ → ℕ
fua cdb = bit 1 3 cdb

-- LOGICAL BLOCK ADDRESS of a 10-byte CDB (SBC-2, READ (10) command)
abbrev pub logical_block_address_10 : List ℕ → ℕ
logical_block_address_10 cdb = number 2 4 cdb

-- TRANSFER LENGTH of a 10-byte CDB, in logical blocks (SBC-2, READ (10) command)
abbrev pub transfer_length_10 : List ℕ → ℕ
transfer_length_10 cdb = number 7 2 cdb

-- LOGICAL BLOCK ADDRESS of a 16-byte CDB (SBC-2, READ (16) command)
abbrev pub logical_block_address_16 : List ℕ → ℕ
logical_block_address_16 cdb = number 2 8 cdb

-- TRANSFER LENGTH of a 16-byte CDB, in logical blocks (SBC-2, READ (16) command)
abbrev pub transfer_length_16 : List ℕ → ℕ
transfer_length_16 cdb = number 10 4 cdb

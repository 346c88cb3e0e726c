-- Commands that mean one of the array's own: READ and WRITE with 6 and 12 bytes, WRITE AND VERIFY, VERIFY. Each is
-- translated into a block of a READ or a WRITE (10) or (16), which the array reads or refuses.
use Rattle.std.specs.Prelude.{ℕ, ◌+◌, ◌*◌, ◌/◌, ◌%◌, ◌==◌, nat_lt, Bool, false, true, if◌then◌else◌, List, [], ◌∷◌}
use Rattle.std.specs.Prelude.{Result, Ok, Err}
use Rattle.ar_scsi.specs.declared.command.Command.{Command}
use Rattle.ar_scsi.specs.declared.command.Command.TheVariants.{TestReady, Inquiry, Capacity, Read, Write}
use Rattle.ar_scsi.specs.declared.sense.Sense.{Sense}
use Rattle.ar_scsi.specs.Field.{byte}
use Rattle.ar_scsi.specs.Reading.{reading}
use Rattle.ar_scsi.specs.Sense.{invalid_field_in_cdb}
use Rattle.ar_target.specs.declared.request.Request.{Request}
use Rattle.ar_target.specs.declared.request.Request.TheVariants as request

-- the high byte of a TRANSFER LENGTH of 6-byte CDBs in two bytes: 0 stands for 256 blocks (SBC-3, READ (6) command)
abbrev pub high_count : ℕ → ℕ
high_count count = if count == 0 then 1 else 0

-- READ (6) or WRITE (6) as the 10-byte command of this OPERATION CODE: the address has 21 bits (SBC-3, READ (6) and
-- WRITE (6) commands)
abbrev pub of_6 : ℕ → List ℕ → List ℕ
of_6 code cdb =
    code ∷ 0 ∷ 0 ∷ byte 1 cdb % 32 ∷ byte 2 cdb ∷ byte 3 cdb ∷ 0 ∷ high_count (byte 4 cdb) ∷ byte 4 cdb ∷ byte 5 cdb ∷ 0
    ∷ 0 ∷ 0 ∷ 0 ∷ 0 ∷ 0 ∷ []

-- READ (12) or WRITE (12) as the 16-byte command of this OPERATION CODE: byte 1 is the same, the address has four bytes
-- in place of eight (SBC-3, READ (12) and WRITE (12) commands)
abbrev pub of_12 : ℕ → List ℕ → List ℕ
of_12 code cdb =
    code ∷ byte 1 cdb ∷ 0 ∷ 0 ∷ 0 ∷ 0 ∷ byte 2 cdb ∷ byte 3 cdb ∷ byte 4 cdb ∷ byte 5 cdb ∷ byte 6 cdb ∷ byte 7 cdb
    ∷ byte 8 cdb ∷ byte 9 cdb ∷ 0 ∷ byte 11 cdb ∷ []

-- a 10-byte CDB with another OPERATION CODE and other low bits of byte 1; bits 7 to 5, PROTECT, are the same
abbrev pub of_10 : ℕ → ℕ → List ℕ → List ℕ
of_10 code low cdb =
    code ∷ (byte 1 cdb / 32 * 32 + low) ∷ byte 2 cdb ∷ byte 3 cdb ∷ byte 4 cdb ∷ byte 5 cdb ∷ 0 ∷ byte 7 cdb ∷ byte 8
    cdb
    ∷ byte 9 cdb ∷ 0 ∷ 0 ∷ 0 ∷ 0 ∷ 0 ∷ 0 ∷ []

-- the same of a 16-byte CDB
abbrev pub of_16 : ℕ → ℕ → List ℕ → List ℕ
of_16 code low cdb =
    code ∷ (byte 1 cdb / 32 * 32 + low) ∷ byte 2 cdb ∷ byte 3 cdb ∷ byte 4 cdb ∷ byte 5 cdb ∷ byte 6 cdb ∷ byte 7 cdb
    ∷ byte 8 cdb ∷ byte 9 cdb ∷ byte 10 cdb ∷ byte 11 cdb ∷ byte 12 cdb ∷ byte 13 cdb ∷ 0 ∷ byte 15 cdb ∷ []

-- BYTCHK, bits 2 and 1 of byte 1 (SBC-3, VERIFY (10) command)
abbrev pub byte_check : List ℕ → ℕ
byte_check cdb = byte 1 cdb / 2 % 4

-- VERIFY by BYTCHK, which reads as this READ: 00b, the medium is read; 01b, it is compared with the data that come; the
-- others are refused (SBC-3, VERIFY (10) command)
abbrev pub verify_by : ℕ → List ℕ → Request
verify_by check read =
    if check == 0 then request.Verify read false
    else (if check == 1 then request.Verify read true
    else request.InvalidAtUnit invalid_field_in_cdb)

-- WRITE AND VERIFY by BYTCHK: a WRITE with FUA, 00b and 01b alike; the others are refused (SBC-3, WRITE AND VERIFY (10)
-- command)
abbrev pub write_and_verify_by : ℕ → List ℕ → Request
write_and_verify_by check write =
    if nat_lt check 2 then request.Transfer write else request.InvalidAtUnit invalid_field_in_cdb

-- what a CDB that means a transfer asks for; any other is given as it is (SBC-3, Commands for direct access block
-- devices). 08h in byte 1 is FUA.
unfoldable pub transfer_request : List ℕ → Request
transfer_request cdb =
    if byte 0 cdb == 0x08 then request.Transfer (of_6 0x28 cdb)
    else (if byte 0 cdb == 0x0A then request.Transfer (of_6 0x2A cdb)
    else (if byte 0 cdb == 0xA8 then request.Transfer (of_12 0x88 cdb)
    else (if byte 0 cdb == 0xAA then request.Transfer (of_12 0x8A cdb)
    else (if byte 0 cdb == 0x2E then write_and_verify_by (byte_check cdb) (of_10 0x2A 0x08 cdb)
    else (if byte 0 cdb == 0x8E then write_and_verify_by (byte_check cdb) (of_16 0x8A 0x08 cdb)
    else (if byte 0 cdb == 0x2F then verify_by (byte_check cdb) (of_10 0x28 0x00 cdb)
    else (if byte 0 cdb == 0x8F then verify_by (byte_check cdb) (of_16 0x88 0x00 cdb)
    else request.Given)))))))

-- the bytes of data that a command of the array's own takes from its host: those of a WRITE's blocks, of 512 bytes each
abbrev pub taken_by : Result Command Sense → ℕ
taken_by (Ok (Write lba count fua)) = 512 * count
taken_by (Ok (Read lba count)) = 0
taken_by (Ok (Inquiry len)) = 0
taken_by (Ok TestReady) = 0
taken_by (Ok Capacity) = 0
taken_by (Err sense) = 0

-- the bytes that a READ returns of its blocks
abbrev pub returned_by : Result Command Sense → ℕ
returned_by (Ok (Read lba count)) = 512 * count
returned_by (Ok (Write lba count fua)) = 0
returned_by (Ok (Inquiry len)) = 0
returned_by (Ok TestReady) = 0
returned_by (Ok Capacity) = 0
returned_by (Err sense) = 0

-- the bytes of data that a request takes from its host: those of the WRITE that it means, those that VERIFY compares,
-- an UNMAP's list, or a WRITE SAME's block
abbrev pub taken_by_request : Request → List ℕ → ℕ
taken_by_request request.Given cdb = taken_by (reading cdb)
taken_by_request (request.Transfer own) cdb = taken_by (reading own)
taken_by_request (request.Verify own true) cdb = returned_by (reading own)
taken_by_request (request.Unmap len) cdb = len
taken_by_request (request.WriteSame same) cdb = if same.has_block then 512 else 0
taken_by_request other cdb = 0

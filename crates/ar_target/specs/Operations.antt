-- REPORT SUPPORTED OPERATION CODES (SPC-4, REPORT SUPPORTED OPERATION CODES command): the commands that are answered,
-- the array's own among them, and which bits of their blocks are looked at.
use Rattle.std.specs.Prelude.{ℕ, ◌/◌, ◌==◌, nat_lt, if◌then◌else◌, List, [], ◌∷◌, ◌++◌, replicate, take, Option, Some}
use Rattle.std.specs.Prelude.{None}
use Rattle.ar_target.specs.declared.operations.Operation.{Operation}

-- the length of a CDB, by the group code of its OPERATION CODE, bits 7 to 5 (SPC-4, OPERATION CODE)
abbrev pub cdb_len : ℕ → ℕ
cdb_len code = if nat_lt code 0x20 then 6 else (if nat_lt code 0x80 then 10 else (if nat_lt code 0xA0 then 16 else 12))

-- the CDB usage map of a command of 6 bytes, padded to 16: 04h in the CONTROL byte is NACA
abbrev pub usage_6 : ℕ → ℕ → ℕ → ℕ → ℕ → List ℕ
usage_6 code b1 b2 b3 b4 = code ∷ b1 ∷ b2 ∷ b3 ∷ b4 ∷ 0x04 ∷ replicate 10 0

-- of one of 10 bytes: byte 1, an address or two fields in bytes 2 to 5, a length in bytes 7 and 8
abbrev pub usage_10 : ℕ → ℕ → ℕ → ℕ → ℕ → List ℕ
usage_10 code b1 b2 b4 b8 = code ∷ b1 ∷ b2 ∷ b2 ∷ b4 ∷ b4 ∷ 0x00 ∷ b8 ∷ b8 ∷ 0x04 ∷ replicate 6 0

-- of one of 12 bytes with an address in bytes 2 to 5 and a length in bytes 6 to 9
abbrev pub usage_12 : ℕ → ℕ → ℕ → ℕ → ℕ → List ℕ
usage_12 code b1 b2 b3 b4 =
    code ∷ b1 ∷ b2 ∷ b3 ∷ b4 ∷ b4 ∷ 0xFF ∷ 0xFF ∷ 0xFF ∷ 0xFF ∷ 0x00 ∷ 0x04 ∷ replicate 4 0

-- of one of 16 bytes with an address in bytes 2 to 9 and a length in bytes 10 to 13
abbrev pub usage_16 : ℕ → ℕ → ℕ → List ℕ
usage_16 code b1 b14 = code ∷ b1 ∷ (replicate 12 0xFF ++ b14 ∷ 0x04 ∷ [])

-- READ CAPACITY (10): the address, and PMI
abbrev pub usage_capacity : List ℕ
usage_capacity = 0x25 ∷ 0x00 ∷ 0xFF ∷ 0xFF ∷ 0xFF ∷ 0xFF ∷ 0x00 ∷ 0x00 ∷ 0x01 ∷ 0x04 ∷ replicate 6 0

-- those of 6 bytes
abbrev pub usage_short : ℕ → Option (List ℕ)
usage_short code =
    if code == 0x00 then Some (usage_6 0x00 0x00 0x00 0x00 0x00)
    else (if code == 0x03 then Some (usage_6 0x03 0x01 0x00 0x00 0xFF)
    else (if code == 0x08 then Some (usage_6 0x08 0x1F 0xFF 0xFF 0xFF)
    else (if code == 0x0A then Some (usage_6 0x0A 0x1F 0xFF 0xFF 0xFF)
    else (if code == 0x12 then Some (usage_6 0x12 0x01 0xFF 0xFF 0xFF)
    else (if code == 0x1A then Some (usage_6 0x1A 0x08 0xFF 0xFF 0xFF)
    else (if code == 0x1B then Some (usage_6 0x1B 0x00 0x00 0x00 0x00)
    else (if code == 0x1D then Some (usage_6 0x1D 0xE4 0x00 0xFF 0xFF)
    else None)))))))

-- those of 10 bytes: RDPROTECT or WRPROTECT, DPO, FUA and BYTCHK are in byte 1, or ANCHOR and UNMAP
abbrev pub usage_middle : ℕ → Option (List ℕ)
usage_middle code =
    if code == 0x25 then Some usage_capacity
    else (if code == 0x28 then Some (usage_10 0x28 0xF8 0xFF 0xFF 0xFF)
    else (if code == 0x2A then Some (usage_10 0x2A 0xF8 0xFF 0xFF 0xFF)
    else (if code == 0x2E then Some (usage_10 0x2E 0xF6 0xFF 0xFF 0xFF)
    else (if code == 0x2F then Some (usage_10 0x2F 0xF6 0xFF 0xFF 0xFF)
    else (if code == 0x35 then Some (usage_10 0x35 0x00 0xFF 0xFF 0xFF)
    else (if code == 0x41 then Some (usage_10 0x41 0xFE 0xFF 0xFF 0xFF)
    else (if code == 0x42 then Some (usage_10 0x42 0x01 0x00 0x00 0xFF)
    else (if code == 0x5A then Some (usage_10 0x5A 0x08 0xFF 0x00 0xFF)
    else None))))))))

-- those of 12 and 16 bytes without a SERVICE ACTION
abbrev pub usage_long : ℕ → Option (List ℕ)
usage_long code =
    if code == 0x88 then Some (usage_16 0x88 0xF8 0x00)
    else (if code == 0x8A then Some (usage_16 0x8A 0xF8 0x00)
    else (if code == 0x8E then Some (usage_16 0x8E 0xF6 0x00)
    else (if code == 0x8F then Some (usage_16 0x8F 0xF6 0x00)
    else (if code == 0x91 then Some (usage_16 0x91 0x00 0x00)
    else (if code == 0x93 then Some (usage_16 0x93 0xFF 0x00)
    else (if code == 0xA0 then Some (usage_12 0xA0 0x00 0xFF 0x00 0x00)
    else (if code == 0xA8 then Some (usage_12 0xA8 0xF8 0xFF 0xFF 0xFF)
    else (if code == 0xAA then Some (usage_12 0xAA 0xF8 0xFF 0xFF 0xFF)
    else None))))))))

-- those with a SERVICE ACTION: READ CAPACITY (16), GET LBA STATUS, REPORT TARGET PORT GROUPS, and this command
abbrev pub usage_with_action : ℕ → ℕ → Option (List ℕ)
usage_with_action code action =
    if (code == 0x9E) then
    (if action == 0x10 then Some (usage_16 0x9E 0x10 0x01)
    else (if action == 0x12 then Some (usage_16 0x9E 0x12 0x00)
    else None))
    else (if action == 0x0A then Some (usage_12 0xA3 0xEA 0x00 0x00 0x00)
    else (if action == 0x0C then Some (usage_12 0xA3 0x0C 0x07 0xFF 0xFF)
    else None))

-- a command of this OPERATION CODE and, where such commands have one, SERVICE ACTION; where they have none it is 0
abbrev pub usage_of : Operation → Option (List ℕ)
usage_of operation =
    if operation.code == 0x9E then usage_with_action 0x9E operation.action
    else (if operation.code == 0xA3 then usage_with_action 0xA3 operation.action
    else (if nat_lt 0 operation.action then None
    else (if nat_lt operation.code 0x20 then usage_short operation.code
    else (if nat_lt operation.code 0x80 then usage_middle operation.code
    else usage_long operation.code))))

-- the answer for one command: SUPPORT is 011b where it is supported as the standard has it, and 001b where it isn't; no
-- timeouts; CDB SIZE, and the usage map (SPC-4, One command parameter data format)
abbrev pub one_command : Operation → Option (List ℕ) → List ℕ
one_command operation None = 0x00 ∷ 0x01 ∷ 0x00 ∷ 0x00 ∷ []
one_command operation (Some usage) =
    0x00 ∷ 0x03 ∷ 0x00 ∷ cdb_len operation.code ∷ take (cdb_len operation.code) usage

-- a command descriptor: OPERATION CODE, SERVICE ACTION, SERVACTV, CDB LENGTH (SPC-4, All commands parameter data
-- format)
abbrev pub plain : ℕ → List ℕ
plain code = code ∷ 0x00 ∷ 0x00 ∷ 0x00 ∷ 0x00 ∷ 0x00 ∷ 0x00 ∷ cdb_len code ∷ []

-- one with a SERVICE ACTION
abbrev pub with_action : ℕ → ℕ → List ℕ
with_action code action = code ∷ 0x00 ∷ 0x00 ∷ action ∷ 0x00 ∷ 0x01 ∷ 0x00 ∷ cdb_len code ∷ []

-- the descriptors of commands of 6 bytes
abbrev pub short_commands : List ℕ
short_commands =
    plain 0x00 ++ (plain 0x03 ++ (plain 0x08 ++ (plain 0x0A ++ (plain 0x12 ++ (plain 0x1A ++ (plain 0x1B
    ++ plain 0x1D))))))

-- of those of 10 bytes
abbrev pub middle_commands : List ℕ
middle_commands =
    plain 0x25 ++ (plain 0x28 ++ (plain 0x2A ++ (plain 0x2E ++ (plain 0x2F ++ (plain 0x35 ++ (plain 0x41
    ++ (plain 0x42 ++ plain 0x5A)))))))

-- of those of 16 and 12 bytes
abbrev pub long_commands : List ℕ
long_commands =
    plain 0x88 ++ (plain 0x8A ++ (plain 0x8E ++ (plain 0x8F ++ (plain 0x91 ++ (plain 0x93
    ++ (with_action 0x9E 0x10 ++ (with_action 0x9E 0x12 ++ (plain 0xA0 ++ (with_action 0xA3 0x0A
    ++ (with_action 0xA3 0x0C ++ (plain 0xA8 ++ plain 0xAA)))))))))))

-- the answer for all commands: COMMAND DATA LENGTH, 30 descriptors of 8 bytes
unfoldable pub all_commands : List ℕ
all_commands = 0x00 ∷ 0x00 ∷ 0x00 ∷ 0xF0 ∷ (short_commands ++ (middle_commands ++ long_commands))

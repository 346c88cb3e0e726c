-- A record as bytes. Numbers of several bytes are big-endian.
use Rattle.std.specs.Prelude.{ℕ, List, [], ◌∷◌, ◌++◌, length, map}
use Rattle.std.specs.Int.{w32, w64, to_be_bytes}
use Rattle.ar_record.specs.Record.{RecordData, Make, Grow, Remove, Command, Unmap, AddDisk}

-- the bytes of a record: what was done, the host, the LUN, and the rest
abbrev pub encoding_of : RecordData → List ℕ
encoding_of (Make host lun sectors) = 0 ∷ host ∷ lun ∷ to_be_bytes w32 sectors
encoding_of (Grow host lun sectors) = 1 ∷ host ∷ lun ∷ to_be_bytes w32 sectors
encoding_of (Remove host lun) = 2 ∷ host ∷ lun ∷ []
encoding_of (Command host lun cdb payload) = 3 ∷ host ∷ lun ∷ (cdb ++ (to_be_bytes w32 (length payload) ++ payload))
encoding_of (AddDisk extents) = 4 ∷ to_be_bytes w32 extents
encoding_of (Unmap host lun lba count) = 5 ∷ host ∷ lun ∷ (to_be_bytes w64 lba ++ to_be_bytes w32 count)

-- the encodings of records
abbrev pub encodings_of : List RecordData → List (List ℕ)
encodings_of = map encoding_of

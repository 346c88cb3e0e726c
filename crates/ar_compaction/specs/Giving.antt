-- What a call for the next records returned, of those that were left.
use Rattle.std.specs.Prelude.{◌≡◌, ◌≤◌, ◌++◌, List, length}
use Rattle.ar_record.specs.Record.{RecordData}

-- the first of the records that were left, one to 16
pub record AreNext (left records after : List RecordData) : Type 0 where
  pub split : left ≡ records ++ after
  pub some : 1 ≤ length records
  pub few : length records ≤ 16

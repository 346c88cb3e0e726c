-- What a `UnitReplay` is by its fields.
use Rattle.std.specs.Prelude.{◌≡◌, ◌*◌, length}
use Rattle.ar_unit.specs.Plain.{state_of}
use Rattle.ar_compaction.specs.declared.replay.UnitReplay.TheInside.{Inside}
use Rattle.ar_compaction.specs.Bytes.{sectors_of_bytes}
use Rattle.ar_compaction.specs.Replaying.{ReplayState, unit_address}

-- its address, and its sectors cut from its bytes
abbrev pub replay_view : Inside → ReplayState
replay_view r = record {
  addr = unit_address r.addr;
  unit = state_of r.present (sectors_of_bytes r.sectors r.bytes.items) r.attention;
}

-- 512 bytes for each sector
abbrev pub HasBytes : Inside → Type 0
HasBytes r = length r.bytes.items ≡ r.sectors * 512

-- Streams in memory, as contracts see them.
use Rattle.std.specs.Prelude.{ℕ, List, Some}
use Rattle.ar_frames.specs.Stream.{SourceState, SinkState}

-- a sink in memory: the bytes that were written, the bytes that can still be overwritten, and the number of faults
pub record MemSinkState : Type 0 where
  pub written : List ℕ
  pub room : List ℕ
  pub faults : ℕ

-- it reports the bytes that were written
abbrev pub mem_sink : MemSinkState → SinkState
mem_sink sink = record { taken = Some sink.written; faults = sink.faults }

-- a source in memory reports the bytes that are left, and never faults
abbrev pub mem_source : List ℕ → SourceState
mem_source left = record { left = Some left; faults = 0 }

-- Histograms of the times of commands.
use Rattle.std.specs.Prelude.{ℕ, ◌+◌, ◌-◌, ◌^◌, ◌==◌, ◌||◌, if◌then◌else◌, nat_lt, min, List, [], ◌∷◌}
use Rattle.std.specs.Prelude.{count_by, set, unwrap_or}
use Rattle.std.specs.List.{slice_get}
use Rattle.ar_latency.specs.declared.latency.LatencyCounters.{LatencyCounters}
use Rattle.ar_latency.specs.declared.latency.CommandLatencies.{CommandLatencies}
use Rattle.ar_latency.specs.declared.latency.TimedOperation.{TimedOperation}
use Rattle.ar_latency.specs.declared.latency.TimedOperation.TheVariants.{Read, Write, SynchronizeCache, Other}

-- the upper bounds of all buckets but the last, in microseconds
abbrev pub bounds : List ℕ
bounds = 50 ∷ 100 ∷ 250 ∷ 500 ∷ 1000 ∷ 2500 ∷ 10000 ∷ 50000 ∷ 250000 ∷ 1000000 ∷ 10000000 ∷ []

-- the bucket of a time in microseconds: how many bounds it exceeds
abbrev pub bucket_of : ℕ → ℕ
bucket_of micros = count_by (λ bound. nat_lt bound micros) bounds

-- a sum of 64 bits that saturates
abbrev pub saturated : ℕ → ℕ → ℕ
saturated count more = min (count + more) (2 ^ 64 - 1)

-- the times of an operation's commands after one more, which took so many microseconds
abbrev pub latency_after : ℕ → LatencyCounters → LatencyCounters
latency_after micros old = record {
  buckets = set old.buckets (bucket_of micros)
      (saturated (unwrap_or (slice_get old.buckets (bucket_of micros)) 0) 1);
  sum_micros = saturated old.sum_micros micros;
}

-- the times of all commands after one more
abbrev pub latencies_after : TimedOperation → ℕ → CommandLatencies → CommandLatencies
latencies_after Read micros old = record old { read = latency_after micros old.read }
latencies_after Write micros old = record old { write = latency_after micros old.write }
latencies_after SynchronizeCache micros old =
    record old { synchronize_cache = latency_after micros old.synchronize_cache }
latencies_after Other micros old = record old { other = latency_after micros old.other }

-- what an operation code asks for
abbrev pub operation_at : ℕ → TimedOperation
operation_at code =
    if code == 0x08 || (code == 0x28 || (code == 0xA8 || code == 0x88)) then Read
    else (if code == 0x0A || (code == 0x2A || (code == 0xAA || code == 0x8A)) then Write
    else (if code == 0x35 || code == 0x91 then SynchronizeCache else Other))

-- what a command block asks for, by its first byte (SBC-3, 5.1: READ, WRITE and SYNCHRONIZE CACHE of each length)
abbrev pub operation_of : List ℕ → TimedOperation
operation_of cdb = operation_at (unwrap_or (slice_get cdb 0) 0)

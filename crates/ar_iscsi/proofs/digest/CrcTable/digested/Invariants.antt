-- the first PDUs have digests
use Rattle.std.proofs.Common.{◌≡◌, ◌-◌, ◌/◌, ◌++◌, length}
use Rattle.ar_iscsi.specs.Digest.{digested_by}
use Rattle.ar_iscsi.proofs.digest.CrcTable.digested.Given as goal

abbrev pub invariant-loop : goal.invariant-loop
invariant-loop l =
    l.all.items ++ digested_by l.digests (length l.pdus / 48 - l.counter) l.rest
    ≡ digested_by l.digests (length l.pdus / 48) l.pdus

-- the ranges of the descriptors below this one are discarded
use Rattle.std.proofs.Common.{◌≡◌, true}
use Rattle.ar_target.specs.Discarding.{RangesDone}
use Rattle.ar_target.proofs.discarding.discard_ranges.Given as goal

abbrev pub invariant-loop-i : goal.invariant-loop-i
invariant-loop-i g l = record {
  ranges : RangesDone g.P.DiscardPort.discards l.block_sectors l.lun l.list l.initial.port l.i l.port;
  logged : g.P.Port.has_login l.port ≡ true;
}

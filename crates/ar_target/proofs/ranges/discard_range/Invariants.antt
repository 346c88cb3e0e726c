-- the first blocks are discarded
use Rattle.std.proofs.Common.{◌≡◌, ◌≤◌, ◌-◌, true}
use Rattle.ar_target.specs.Ranges.{PiecesDone, discards_at, discard_len}
use Rattle.ar_target.proofs.ranges.discard_range.Given as goal

abbrev pub invariant-loop-done : goal.invariant-loop-done
invariant-loop-done g l = record {
  within : l.done ≤ l.count;
  pieces :
      PiecesDone (discards_at g.P.DiscardPort.discards l.lun) (discard_len l.block) l.lba l.count l.initial.port l.done
      l.port;
  logged : g.P.Port.has_login l.port ≡ true;
}

abbrev pub decreases-loop-done : goal.decreases-loop-done
decreases-loop-done g l = l.count - l.done

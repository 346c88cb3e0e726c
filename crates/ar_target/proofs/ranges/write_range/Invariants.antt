-- the first blocks are written
use Rattle.std.proofs.Common.{◌≡◌, ◌≤◌, ◌-◌, true}
use Rattle.ar_target.specs.Ranges.{PiecesDone, writes_at, write_len}
use Rattle.ar_target.proofs.ranges.write_range.Given as goal

abbrev pub invariant-loop-done : goal.invariant-loop-done
invariant-loop-done g l = record {
  within : l.done ≤ l.count;
  pieces :
      PiecesDone (writes_at g.P.Port.commands l.lun l.block) write_len l.lba l.count l.initial.port l.done l.port;
  logged : g.P.Port.has_login l.port ≡ true;
}

abbrev pub decreases-loop-done : goal.decreases-loop-done
decreases-loop-done g l = l.count - l.done

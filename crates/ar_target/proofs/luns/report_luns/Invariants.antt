-- the LUNs below this one were looked for
use Rattle.std.proofs.Common.{◌≡◌, ◌≤◌, true, length}
use Rattle.ar_target.specs.Luns.{FindsLuns}
use Rattle.ar_target.proofs.luns.report_luns.Given as goal

abbrev pub invariant-loop-lun : goal.invariant-loop-lun
invariant-loop-lun g l = record {
  finds : FindsLuns g.P.Port.commands l.fn.port l.lun l.found.items l.port;
  few : length l.found.items ≤ l.lun;
  logged : g.P.Port.has_login l.port ≡ true;
}

-- the units so far were written
use Rattle.std.proofs.Common.{◌≡◌, ◌++◌}
use Rattle.ar_checkpoint.specs.Writing.{WritesUnits}
use Rattle.ar_checkpoint.proofs.successor.write_units.Given as goal

abbrev pub invariant-loop-unit : goal.invariant-loop-unit
invariant-loop-unit g l = record {
  written : WritesUnits g.M.Media.seen g.M.Media.may_leave g.M.Media.is_clean l.yielded l.fn.log l.log;
  taken : l.yielded ++ l.unit-iterator.rest.items ≡ l.fn.units.items;
}

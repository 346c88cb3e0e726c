use Rattle.std.proofs.Common.{◌≡◌, ◌≤◌, map, take, vec_len, vec_capacity}
use Rattle.ar_core.specs.Views.{use_of}
use Rattle.ar_core.proofs.views.uses_of.Given as goal

-- the uses of the groups so far
abbrev pub invariant-loop-group : goal.invariant-loop-group
invariant-loop-group l = record {
  uses : l.uses.items ≡ map use_of (take l.group l.book.groups);
  len : vec_len l.uses ≡ l.group;
  room : l.count ≤ vec_capacity l.uses;
}

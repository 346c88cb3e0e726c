use Rattle.std.proofs.Common.{◌≡◌, ◌≤◌, map, take, vec_len, vec_capacity}
use Rattle.ar_core.specs.Map.{view_of}
use Rattle.ar_core.proofs.map.views_of.Given as goal

-- the groups so far
abbrev pub invariant-loop-group : goal.invariant-loop-group
invariant-loop-group l = record {
  views : l.views.items ≡ map (view_of l.book.geometry) (take l.group l.book.groups);
  len : vec_len l.views ≡ l.group;
  room : l.count ≤ vec_capacity l.views;
}

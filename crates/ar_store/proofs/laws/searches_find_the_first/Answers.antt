use Rattle.ar_store.proofs.Gaps.{hole_is, no_hole, free_is, full_is}
use Rattle.ar_store.proofs.laws.searches_find_the_first.Goals as goal

pub returns : goal.returns
returns c = record { hole = hole_is; no_hole = no_hole; free = free_is; mirrored = full_is }

use Rattle.std.proofs.Common.{◌≡◌, ◌++◌, length}
use Rattle.ar_log.specs.Reading.{all_items}
use Rattle.ar_log.specs.Zeroed.{AllFit, zeroed_front}
use Rattle.ar_log.proofs.zeroed_read.read_zeroed.Given as goal

abbrev pub invariant-reading : goal.invariant-reading
invariant-reading l = record {
  so_far : zeroed_front (all_items l.batches.items) ++ l.rest ≡ l.file;
  fit : AllFit (all_items l.batches.items);
}

abbrev pub decreases-reading : goal.decreases-reading
decreases-reading l = length l.rest

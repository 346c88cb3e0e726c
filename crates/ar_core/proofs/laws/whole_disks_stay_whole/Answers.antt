use Rattle.ar_core.proofs.Calm.{whole_run}
use Rattle.ar_core.proofs.Causes.{whole_stays}
use Rattle.ar_core.proofs.laws.whole_disks_stay_whole.Goals as goal

pub returns : goal.returns
returns c = record {
  event = λ old new event outcome steps hurts whole. whole_stays event old.store.disks new.store.disks steps.disks hurts
      whole;
  run = whole_run;
}

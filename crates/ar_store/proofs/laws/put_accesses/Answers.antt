use Rattle.ar_store.proofs.PutCosts.{put_to_mirrored, put_to_parity, put_squeezing, put_to_mirrored_slot}
use Rattle.ar_store.proofs.PutCosts.{put_to_parity_slot}
use Rattle.ar_store.proofs.laws.put_accesses.Goals as goal

pub returns : goal.returns
returns c = record {
  mirrored = λ old new k whole none carried. put_to_mirrored old new k none carried whole;
  parity = λ old new k whole none carried. put_to_parity old new k none carried whole;
  squeeze = λ old new k whole none carried. put_squeezing old new k none carried whole;
  mirrored_slot = λ old new k slot usable none carried. put_to_mirrored_slot old new k none carried slot usable;
  parity_slot = λ old new k slot usable none carried. put_to_parity_slot old new k none carried slot usable;
}

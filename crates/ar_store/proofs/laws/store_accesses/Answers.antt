use Rattle.ar_store.proofs.Costs.{unplaced_made, get_made, mirrored_made, parity_made, moved_to_mirrored}
use Rattle.ar_store.proofs.Costs.{moved_to_parity, whole_reads, whole_writes}
use Rattle.ar_store.proofs.laws.store_accesses.Goals as goal

pub returns-clause-unplaced : goal.returns-clause-unplaced
returns-clause-unplaced c = unplaced_made

pub returns-clause-get : goal.returns-clause-get
returns-clause-get c = get_made

pub returns-clause-put_mirrored : goal.returns-clause-put_mirrored
returns-clause-put_mirrored c = mirrored_made

pub returns-clause-put_parity : goal.returns-clause-put_parity
returns-clause-put_parity c = parity_made

pub returns-clause-move_mirrored : goal.returns-clause-move_mirrored
returns-clause-move_mirrored c = moved_to_mirrored

pub returns-clause-move_parity : goal.returns-clause-move_parity
returns-clause-move_parity c = moved_to_parity

pub returns-clause-healthy_reads : goal.returns-clause-healthy_reads
returns-clause-healthy_reads c = whole_reads

pub returns-clause-healthy_writes : goal.returns-clause-healthy_writes
returns-clause-healthy_writes c = whole_writes

use Rattle.ar_journal.proofs.reader.JournalReader.next_batch.Goals as goal

pub returns-in-Err-clause-damaged : goal.returns-in-Err-clause-damaged
returns-in-Err-clause-damaged g c is clean batches holds =
    c.in-Err.ensures.damaged is clean (c.requires.at (c.next_batch.ensures.reads.clean clean)) batches holds

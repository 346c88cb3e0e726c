use Rattle.std.proofs.Common.{◌≡◌, List, [], ◌∷◌, ◌++◌, Vec, Global, ℕ, IsTrue, ap, ◌∙◌}
use Rattle.ar_log.specs.Codec.{Batch, items_of}
use Rattle.ar_journal.specs.Reader.{batches_read}
use Rattle.ar_checkpoint.proofs.Clauses.{if_some}
use Rattle.test_compaction.proofs.stores.open_head.Goals as goal

pub returns-clause-only_head : goal.returns-clause-only_head
returns-clause-only_head g c clean =
    let old : List Batch = batches_read g.M.Media.seen c.in-Ok.reader in
    let now : List Batch = batches_read g.M.Media.seen c.next_batch.new.self in
    let batch : Batch = items_of c.in-Ok-Some.batch.items in
    let none : old ≡ [] = c.in-Ok.ensures.none (c.next_batch.ensures.reads.active.clean clean) in
    let more : now ≡ old ++ batch ∷ [] =
    if_some (λ (records : Vec (Vec ℕ Global) Global). IsTrue (g.M.Media.is_clean c.next_batch.new.self.active)
    → now ≡ old ++ items_of records.items ∷ []) _ c.in-Ok-Some.batch c.in-Ok-Some.field-0-is
    c.in-Ok-Some.ensures.batch clean in
    (batch, more ∙ ap (λ (l : List Batch). l ++ batch ∷ []) none)

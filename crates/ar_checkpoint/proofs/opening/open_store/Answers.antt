use Rattle.std.proofs.Common.{◌≡◌, List, Vec, Option, ap, subst, ◌++◌, ◌∷◌, [], ◌∙◌, IsTrue}
use Rattle.std.specs.Prelude.{IfSome}
use Rattle.std.specs.declared.alloc.Global.{Global}
use Rattle.ar_log.specs.Codec.{Batch, items_of}
use Rattle.ar_journal.specs.Reader.{batches_read}
use Rattle.ar_checkpoint.proofs.opening.open_store.Goals as goal

pub returns-in_ok-head-in-Ok-Some-clause-head : goal.returns-in_ok-head-in-Ok-Some-clause-head
returns-in_ok-head-in-Ok-Some-clause-head g c clean =
    let seen = g.M.Media.seen in
    let batch = items_of c.in-Ok-Some.batch.items in
    let new = c.next_batch.new.self in
    let read : batches_read seen new ≡ batches_read seen c.in-Ok.reader ++ batch ∷ [] =
    subst (λ o. IfSome o (λ records. IsTrue (g.M.Media.is_clean new.active)
    → batches_read seen new ≡ batches_read seen c.in-Ok.reader ++ items_of records.items ∷ []))
    c.in-Ok-Some.field-0-is c.in-Ok-Some.ensures.batch clean in (
      batch,
      read
          ∙ ap (λ (l : List Batch). l ++ batch ∷ [])
          (c.in-Ok.ensures.none (c.next_batch.ensures.reads.active.clean clean)),
    )

use Rattle.std.proofs.Common.{◌≡◌, ℕ, List, length, sym, ◌∙◌, ap}
use Rattle.ar_log.specs.Codec.{Batch}
use Rattle.ar_log.specs.Log.{batches_of}
use Rattle.ar_journal.specs.Copying.{generation_in, generation, is_ahead_by}
use Rattle.ar_journal.proofs.Starting.{generation_is}
use Rattle.ar_journal.proofs.mirror_start.is_further.Goals as goal

pub returns-clause-further : goal.returns-clause-further
returns-clause-further g c one_clean other_clean =
    let one : List Batch = batches_of (g.M.Media.seen c.args.one.now.active.media) in
    let other : List Batch = batches_of (g.M.Media.seen c.args.other.now.active.media) in
    let one_head = c.in-Ok.ensures.head one_clean in
    let other_head = c.in-Ok-read_head.ensures.head other_clean in
    let first : c.generation_of-first.result ≡ generation one =
    c.generation_of-first.ensures ∙ ap generation_in c.deref.ensures.value
    ∙ sym (generation_is one c.in-Ok.read.1.number c.in-Ok.read.0.items one_head.first) in
    let second : c.generation_of-second.result ≡ generation other =
    c.generation_of-second.ensures ∙ ap generation_in c.deref-in-Ok-read_head.ensures.value
    ∙ sym (generation_is other c.in-Ok-read_head.read.1.number c.in-Ok-read_head.read.0.items other_head.first) in
    let count : c.number.result ≡ length one =
    c.number.ensures
    ∙ (c.read_head.ensures.ready.log (c.read_head.ensures.reads.is_closed ∙ c.requires.one_open) one_clean).number
    ∙ ap (λ (f : List ℕ). length (batches_of f)) c.read_head.ensures.reads.media.same in
    let others : c.number-2.result ≡ length other =
    c.number-2.ensures
    ∙ (c.read_head-2.ensures.ready.log (c.read_head-2.ensures.reads.is_closed ∙ c.requires.other_open)
    other_clean).number
    ∙ ap (λ (f : List ℕ). length (batches_of f)) c.read_head-2.ensures.reads.media.same in
    c.is_ahead_by.ensures
    ∙ ap (λ (n : ℕ). is_ahead_by n c.number.result c.generation_of-second.result c.number-2.result) first
    ∙ ap (λ (n : ℕ). is_ahead_by (generation one) n c.generation_of-second.result c.number-2.result) count
    ∙ ap (λ (n : ℕ). is_ahead_by (generation one) (length one) n c.number-2.result) second
    ∙ ap (λ (n : ℕ). is_ahead_by (generation one) (length one) (generation other) n) others

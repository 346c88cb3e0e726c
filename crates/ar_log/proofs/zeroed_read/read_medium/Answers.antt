use Rattle.std.proofs.Common.{◌≡◌, ◌∙◌, ℕ, true, List, IsTrue, length}
use Rattle.ar_log.specs.Codec.{Batch}
use Rattle.ar_log.specs.Failure.{is_damage}
use Rattle.ar_log.specs.Zeroed.{IsReadTo, HoldsZeroed}
use Rattle.ar_log.specs.declared.error.LogError.{LogError}
use Rattle.ar_log.specs.declared.zeroed_read.ZeroedBatches.{ZeroedBatches}
use Rattle.ar_log.proofs.Rereading.{ok_of, err_of}
use Rattle.ar_log.proofs.zeroed_read.read_medium.Goals as goal

pub returns-in-Ok-clause-whole : goal.returns-in-Ok-clause-whole
returns-in-Ok-clause-whole g c =
    let P : List ℕ → ZeroedBatches → Type 0 = λ l log. IsReadTo l log.batches.items log.end in
    ok_of c.deref.result.now (g.M.Media.seen c.args.media.now) (IsTrue (g.M.Media.is_clean c.read_file.new.media))
    (λ clean. c.deref.ensures.value ∙ c.in-Ok.ensures.bytes clean) P c.read_zeroed.result c.read_zeroed.ensures.whole

pub returns-in-Ok-clause-ahead : goal.returns-in-Ok-clause-ahead
returns-in-Ok-clause-ahead g c =
    let P : List ℕ → ZeroedBatches → Type 0 = λ l log. log.ahead ≡ length l in
    ok_of c.deref.result.now (g.M.Media.seen c.args.media.now) (IsTrue (g.M.Media.is_clean c.read_file.new.media))
    (λ clean. c.deref.ensures.value ∙ c.in-Ok.ensures.bytes clean) P c.read_zeroed.result c.read_zeroed.ensures.ahead

pub returns-in-Ok-clause-damaged : goal.returns-in-Ok-clause-damaged
returns-in-Ok-clause-damaged g c =
    let D : LogError → Type 0 = λ e. is_damage e ≡ true in
    let P : List ℕ → Type 0 = λ l. (batches : List Batch) → HoldsZeroed batches l → ⊥ in
    err_of c.deref.result.now (g.M.Media.seen c.args.media.now) (IsTrue (g.M.Media.is_clean c.read_file.new.media))
    (λ clean. c.deref.ensures.value ∙ c.in-Ok.ensures.bytes clean) D P c.read_zeroed.result
    c.read_zeroed.ensures.damaged

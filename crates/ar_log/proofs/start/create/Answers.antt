use Rattle.std.proofs.Common.{ℕ, List, [], ◌∷◌, refl, sym, subst}
use Rattle.ar_log.specs.Codec.{Batch}
use Rattle.ar_log.specs.Log.{HoldsBatches}
use Rattle.ar_log.proofs.Standing.{batches_of_stands}
use Rattle.ar_log.proofs.Starting.{settled_from}
use Rattle.ar_log.proofs.start.create.Goals as goal

pub returns-in-Ok-clause-settled : goal.returns-in-Ok-clause-settled
returns-in-Ok-clause-settled g c =
    let batches : List Batch = (c.args.head.now ∷ []) ∷ [] in
    let P : List ℕ → Type 0 = HoldsBatches batches in
    settled_from g.M.Media.seen g.M.Media.may_leave _ batches c.in-Ok.ensures.end refl
    (λ f left. subst P (sym (c.in-Ok.ensures.durable f left)) c.in-Ok.ensures.stands)
    (g.met.M.Media.seen_may_stay c.write_head.new.media)

pub returns-in-Ok-clause-batches : goal.returns-in-Ok-clause-batches
returns-in-Ok-clause-batches g c =
    batches_of_stands ((c.args.head.now ∷ []) ∷ []) (g.M.Media.seen c.write_head.new.media) c.in-Ok.ensures.stands

use Rattle.std.proofs.Common.{ℕ, List, [], ◌∷◌, refl, sym, subst}
use Rattle.ar_log.specs.Codec.{Batch}
use Rattle.ar_log.specs.Log.{HoldsBatches}
use Rattle.ar_log.proofs.Standing.{batches_of_stands}
use Rattle.ar_log.proofs.Starting.{settled_from}
use Rattle.ar_journal.proofs.new_journal.create.Goals as goal

pub returns-in-Ok-clause-ready : goal.returns-in-Ok-clause-ready
returns-in-Ok-clause-ready g c =
    let batches : List Batch = (c.args.head.now ∷ []) ∷ [] in
    let P : List ℕ → Type 0 = HoldsBatches batches in
    let made = c.in-Ok.ensures.made in
    record {
      log = λ is_open clean. settled_from g.M.Media.seen g.M.Media.may_leave _ batches c.in-Ok.ensures.end refl
          (λ f left. subst P (sym (made.first_durable f left)) made.first)
          (g.met.M.Media.seen_may_stay c.write_files.new.files.first);
      named = λ is_open clean s left. made.named s left;
    }

pub returns-in-Ok-clause-batches : goal.returns-in-Ok-clause-batches
returns-in-Ok-clause-batches g c =
    batches_of_stands ((c.args.head.now ∷ []) ∷ [])
    (g.M.Media.seen c.write_files.new.files.first) c.in-Ok.ensures.made.first

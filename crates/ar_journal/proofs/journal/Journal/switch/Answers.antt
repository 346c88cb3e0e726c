use Rattle.std.proofs.Common.{◌≡◌, ◌≤◌, length, true, ⊎_elim, refl, ◌∙◌, ap, arith}
use Rattle.ar_log.specs.Failure.{is_final}
use Rattle.ar_log.specs.Log.{HoldsBatches, batches_of}
use Rattle.ar_journal.proofs.Naming.{of_either, torn_some, named_some}
use Rattle.ar_journal.proofs.Writing.{final_closes, not_both}
use Rattle.ar_journal.proofs.journal.Journal.switch.Goals as goal

pub returns-in-Err-clause-any_moment : goal.returns-in-Err-clause-any_moment
returns-in-Err-clause-any_moment g c is_open also_open =
    let journal = c.args.self.now in
    let successor = c.args.successor in
    record {
      later = c.write_selector.ensures.tears.later;
      each = λ clean next_clean s active next left was is.
          let named = c.requires.ready.named is_open clean.selector in
          let some : 1 ≤ length s = ⊎_elim
          (λ before. named_some journal.is_second s (named s (g.met.M.Media.only_now journal.selector s before)))
          (λ torn. torn_some journal.is_second torn.0 s (named torn.0 torn.1) torn.2)
          (c.write_selector.ensures.tears.since (g.M.Media.moment journal.selector) s (omega arith) left) in
          of_either journal.is_second s active next (HoldsBatches (batches_of (g.M.Media.seen journal.active.media)))
          (HoldsBatches (batches_of (g.M.Media.seen successor.media))) some
          ((c.requires.ready.log is_open clean.active).durable active was)
          ((c.requires.successor also_open next_clean).durable next is);
    }

pub returns-clause-any_moment : goal.returns-clause-any_moment
returns-clause-any_moment g c is_open also_open =
    let journal = c.args.self.now in
    let successor = c.args.successor in
    record {
      later = c.write_selector.ensures.tears.later;
      each = λ clean next_clean s active next left was is.
          let named = c.requires.ready.named is_open clean.selector in
          let some : 1 ≤ length s = ⊎_elim
          (λ before. named_some journal.is_second s (named s (g.met.M.Media.only_now journal.selector s before)))
          (λ torn. torn_some journal.is_second torn.0 s (named torn.0 torn.1) torn.2)
          (c.write_selector.ensures.tears.since (g.M.Media.moment journal.selector) s (omega arith) left) in
          of_either journal.is_second s active next (HoldsBatches (batches_of (g.M.Media.seen journal.active.media)))
          (HoldsBatches (batches_of (g.M.Media.seen successor.media))) some
          ((c.requires.ready.log is_open clean.active).durable active was)
          ((c.requires.successor also_open next_clean).durable next is);
    }

pub returns-in-Err-clause-kept : goal.returns-in-Err-clause-kept
returns-in-Err-clause-kept g c =
    let final : is_final c.closing.result ≡ true = ap is_final c.closing.ensures
    ∙ final_closes c.in-Err.error c.in-Err.ensures.error in
    record {
      back_is = refl;
      closes = λ is. refl;
      media = refl;
      unchanged = λ not_final. absurd (not_both (is_final c.closing.result) final not_final);
    }

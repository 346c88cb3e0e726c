-- A SYNCHRONIZE CACHE that is GOOD.
use Rattle.std.proofs.Common.{◌≡◌, ◌∙◌, ℕ, refl, sym, ap, subst}
use Rattle.ar_scsi.specs.declared.reply.Reply.{Reply}
use Rattle.ar_scsi.specs.declared.reply.Status.{Status}
use Rattle.ar_scsi.specs.declared.reply.Status.TheVariants.{Good, CheckCondition, Busy}
use Rattle.ar_frames.specs.Conversation.{Commands}
use Rattle.ar_target.specs.declared.flush_port.FlushOutcome.{FlushOutcome}
use Rattle.ar_target.specs.declared.flush_port.FlushOutcome.TheVariants.{Done, NoUnit, ArrayFailed}
use Rattle.ar_target.specs.FlushPort.{UnitFlushes}
use Rattle.ar_target.specs.Serving.{Synchronizes, flush_reply, unit_unready, range_after, unit_flushed}
use Rattle.ar_target.specs.OwnCommands.{handed_on, handed_on_by}

-- a status that is handed on isn't GOOD
handed_on_by-not_good : (s : Status) (own_reply : Reply) → s ≡ own_reply.status
    → (handed_on_by s own_reply).status ≡ Good → ⊥
handed_on_by-not_good Good own_reply is e = cc
handed_on_by-not_good CheckCondition own_reply is e = cc
handed_on_by-not_good Busy own_reply is e = cc

-- nor is the reply
handed_on-not_good : (own_reply : Reply) → (handed_on own_reply).status ≡ Good → ⊥
unfolding handed_on
handed_on-not_good own_reply e = handed_on_by-not_good own_reply.status own_reply refl e

-- a reply that is GOOD says that the flush is done
done_where_good : (outcome : FlushOutcome) → (flush_reply outcome).status ≡ Good → outcome ≡ Done
done_where_good Done e = refl
done_where_good NoUnit e = cc
done_where_good ArrayFailed e = cc

pub flushed_where_good :
    {P : Type 0} (commands : Commands P) (flushes : UnitFlushes P) (lba count : ℕ) (old : P) (lun : ℕ) (reply : Reply)
    (new : P)
    → Synchronizes commands flushes lba count old lun reply new → reply.status ≡ Good
    → (mid : P) × flushes mid lun Done new
flushed_where_good commands flushes lba count old lun _ _ (unit_unready own_reply new asked none) e =
    absurd (handed_on-not_good own_reply e)
flushed_where_good commands flushes lba count old lun _ _ (range_after own_reply last new asked some behind) e = cc
flushed_where_good commands flushes lba count old lun _ _
    (unit_flushed own_reply last mid reply new asked some within flush) e =
    let done : flush.outcome ≡ Done =
    done_where_good flush.outcome (ap (λ (r : Reply). r.status) (sym flush.own_reply) ∙ e) in
    (mid, subst (λ (o : FlushOutcome). flushes mid lun o new) done flush.flushed)

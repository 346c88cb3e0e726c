use Rattle.std.proofs.Common.{Bool, cond, List, [], ◌∷◌, sym, ap, subst, ◌∙◌}
use Rattle.ar_served.specs.declared.entry.Entry.{Entry}
use Rattle.ar_served.specs.Kept.{history_entry}
use Rattle.ar_core.specs.declared.event.EventOf.TheVariants as events
use Rattle.ar_record.specs.Record.{RecordData, Remove}
use Rattle.ar_record.specs.Replay.{own_of}
use Rattle.ar_recovery.specs.Stored.{AreRecords}
use Rattle.ar_durable.proofs.Crashing.{noted_call}
use Rattle.ar_durable.proofs.Keeping.{remove_same, noted}
use Rattle.ar_durable.proofs.durable.DurableArray.remove.Goals as goal

pub invariant_of-self : goal.invariant_of-self
invariant_of-self g c =
    let addr = c.args.addr in
    let r : RecordData = Remove addr.host.number addr.lun in
    let outcome = c.operate-outcome.result in
    subst (λ (h : List Entry). AreRecords g.M.Media.seen g.M.Media.is_clean c.note_if.new.store h)
    (sym c.operate-outcome.ensures.recorded)
    (noted g.M.Media.seen g.M.Media.may_leave g.M.Media.is_clean c.is_removed.result c.encoded-encoding.result r
    c.self.inside.store c.note_if.new.store c.self.inside.counted.history
    (history_entry (events.Remove addr) outcome) c.self.invariant c.encoded-encoding.ensures c.note_if.ensures
    (λ a. ap (λ (b : Bool). own_of a (cond b (r ∷ []) [])) c.is_removed.ensures ∙ remove_same a addr outcome))

pub returns-clause-keeps : goal.returns-clause-keeps
returns-clause-keeps g c =
    noted_call g.M.Media.seen g.M.Media.may_leave g.M.Media.moment g.M.Media.left_since g.M.Media.is_clean
    g.met.M.Media.only_now _ _ _ c.is_removed.result
    c.encoded-encoding.result _ c.self.view_is c.note_if.ensures
    c.operate-outcome.ensures.recorded

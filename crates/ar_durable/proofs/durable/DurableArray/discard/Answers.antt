use Rattle.std.proofs.Common.{Bool, cond, List, [], ◌∷◌, sym, ap, subst, ◌∙◌}
use Rattle.ar_volume.specs.Image.{ArrayState}
use Rattle.ar_core.specs.Step.{addr_in}
use Rattle.ar_served.specs.declared.entry.Entry.{Entry}
use Rattle.ar_served.specs.declared.entry.Entry.TheVariants as entries
use Rattle.ar_served.specs.Serving.{is_recorded}
use Rattle.ar_record.specs.Record.{RecordData, Unmap}
use Rattle.ar_record.specs.Replay.{own_of}
use Rattle.ar_recovery.specs.Stored.{AreRecords}
use Rattle.ar_durable.proofs.Discarding.{discard_grows, unmap_same}
use Rattle.ar_durable.proofs.Crashing.{noted_call}
use Rattle.ar_durable.proofs.Keeping.{noted}
use Rattle.ar_durable.proofs.durable.DurableArray.discard.Goals as goal

pub invariant_of-self : goal.invariant_of-self
invariant_of-self g c =
    let addr = addr_in c.args.host c.args.lun in
    let reply = c.discard-reply.result in
    let recorded = is_recorded c.discard-reply.new.self.array reply in
    let r : RecordData = Unmap c.args.host.number c.args.lun c.args.lba c.args.count in
    let more : List Entry = cond recorded (entries.Unmap addr c.args.lba c.args.count ∷ []) [] in
    subst (λ (h : List Entry). AreRecords g.M.Media.seen g.M.Media.is_clean c.note_if.new.store h)
    (sym (discard_grows _ _ addr c.args.lba c.args.count reply c.discard-reply.ensures))
    (noted g.M.Media.seen g.M.Media.may_leave g.M.Media.is_clean c.is_recorded-noted.result c.encoded-encoding.result r
    c.self.inside.store c.note_if.new.store c.self.inside.counted.history more c.self.invariant
    c.encoded-encoding.ensures
    c.note_if.ensures
    (λ a.
    ap (λ (b : Bool). own_of a (cond b (r ∷ []) []))
    (c.is_recorded-noted.ensures ∙ ap (λ (s : ArrayState). is_recorded s reply) c.array.ensures.array)
    ∙ unmap_same recorded a addr c.args.lba c.args.count))

pub returns-clause-keeps : goal.returns-clause-keeps
returns-clause-keeps g c =
    noted_call g.M.Media.seen g.M.Media.may_leave g.M.Media.moment g.M.Media.left_since g.M.Media.is_clean
    g.met.M.Media.only_now _ _ _ c.is_recorded-noted.result
    c.encoded-encoding.result _ c.self.view_is c.note_if.ensures
    (discard_grows _ _ (addr_in c.args.host c.args.lun) c.args.lba c.args.count c.discard-reply.result
    c.discard-reply.ensures)

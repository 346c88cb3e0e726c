use Rattle.std.proofs.Common.{Bool, cond, ◌&&◌, List, [], ◌∷◌, refl, sym, ap, subst, ◌∙◌}
use Rattle.ar_disks.specs.declared.address.Host.{Host}
use Rattle.ar_volume.specs.Image.{ArrayState}
use Rattle.ar_served.specs.declared.entry.Entry.{Entry}
use Rattle.ar_served.specs.declared.entry.Entry.TheVariants as entries
use Rattle.ar_served.specs.Kept.{exchange_of}
use Rattle.ar_served.specs.Serving.{is_recorded}
use Rattle.ar_record.specs.Record.{RecordData, Command}
use Rattle.ar_record.specs.Replay.{changes_unit, own_of}
use Rattle.ar_recovery.specs.Stored.{AreRecords}
use Rattle.ar_durable.proofs.Crashing.{noted_call}
use Rattle.ar_durable.proofs.Keeping.{command_same, noted}
use Rattle.ar_durable.proofs.durable.DurableArray.host.Goals as goal

pub invariant_of-self : goal.invariant_of-self
invariant_of-self g c =
    let seat = c.args.seat.now in
    let reply = c.host-reply.result in
    let recorded = is_recorded c.host-reply.new.self.array reply in
    let changes = changes_unit c.args.cdb reply in
    let r : Host → RecordData = λ host. Command host.number c.args.lun c.args.cdb c.args.payload in
    let entry = entries.Cmd seat.host (exchange_of c.args.lun c.args.cdb c.args.payload reply) in
    let more : List Entry = cond recorded (entry ∷ []) [] in
    subst (λ (h : List Entry). AreRecords g.M.Media.seen g.M.Media.is_clean c.note_if.new.store h)
    (sym c.host-reply.ensures.serves.history)
    (noted g.M.Media.seen g.M.Media.may_leave g.M.Media.is_clean c.is_noted-noted.result
    c.encoded_command-encoding.result
    (r c.host.result) c.self.inside.store c.note_if.new.store c.self.inside.counted.history more c.self.invariant
    c.encoded_command-encoding.ensures c.note_if.ensures
    (λ a.
    ap (λ (b : Bool). own_of a (cond b (r c.host.result ∷ []) []))
    (c.is_noted-noted.ensures ∙ ap (λ (s : ArrayState). is_recorded s reply && changes) c.array.ensures.array)
    ∙ ap (λ (h : Host). own_of a (cond (recorded && changes) (r h ∷ []) [])) c.host.ensures
    ∙ command_same recorded changes a seat.host c.args.lun c.args.cdb c.args.payload reply refl))

pub returns-clause-keeps : goal.returns-clause-keeps
returns-clause-keeps g c =
    noted_call g.M.Media.seen g.M.Media.may_leave g.M.Media.moment g.M.Media.left_since g.M.Media.is_clean
    g.met.M.Media.only_now _ _ _ c.is_noted-noted.result
    c.encoded_command-encoding.result _ c.self.view_is c.note_if.ensures
    c.host-reply.ensures.serves.history

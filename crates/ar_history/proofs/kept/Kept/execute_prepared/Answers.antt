use Rattle.std.proofs.Common.{◌≡◌, true, false, ℕ, List, Option, vec_capacity, refl, sym, subst, ◌∙◌, inr}
use Rattle.ar_scsi.specs.declared.reply.Reply.{Reply}
use Rattle.ar_scsi.specs.Reply.{busy}
use Rattle.ar_volume.specs.Image.{is_broken}
use Rattle.ar_core.specs.Step.{Steps, is_busy}
use Rattle.ar_core.specs.declared.event.EventOf.TheVariants.{Cmd as CmdEvent}
use Rattle.ar_core.specs.declared.event.OutcomeOf.TheVariants.{Cmd as CmdOutcome}
use Rattle.ar_disks.specs.declared.address.Host.{Host}
use Rattle.ar_served.specs.declared.entry.Entry.{Entry}
use Rattle.ar_served.specs.Kept.{KeptState, HistoryAgrees}
use Rattle.ar_served.specs.Seat.{SeatState}
use Rattle.ar_served.specs.Serving.{Begins, ServesCommand, is_recorded}
use Rattle.ar_history.specs.Recording.{IsUnrecorded, ServesHost}
use Rattle.ar_live.proofs.Commands.{IsBusyFor, recorded_parts}
use Rattle.ar_history.proofs.Commands.{unrecorded, unrecorded_busy, unrecorded_history}
use Rattle.ar_history.proofs.Commands.{served_unstored, begins_busy}
use Rattle.ar_history.proofs.kept.Kept.execute_prepared.Goals as goal

pub invariant_of-self : goal.invariant_of-self
invariant_of-self g c =
    let new = c.execute-reply.new.self in
    let none : is_recorded new.array c.execute-reply.result ≡ false = sym c.if-not-has_recorded.ensures in
    let same : new.history ≡ c.self.inside.history.items =
    unrecorded_history c.self.inside.live.array new.array c.host.result c.args.copies.ours.lun
    c.args.copies.ours.cdb c.args.payload
    c.execute-reply.result c.self.inside.live.history new.history c.execute-reply.ensures.serves none
    ∙ c.self.invariant.2 in (
      subst (λ (l : List Entry). HistoryAgrees new.array l) same c.execute-reply.ensures.kept.after,
      c.self.invariant.1,
      same,
    )

pub returns-then-not-has_recorded-clause-serves : goal.returns-then-not-has_recorded-clause-serves
returns-then-not-has_recorded-clause-serves g c =
    let live = c.self.inside.live in
    let items : List Entry = c.self.inside.history.items in
    let now = c.execute-reply.new.self in
    let reply = c.execute-reply.result in
    let lun = c.args.copies.ours.lun in
    let cdb = c.args.copies.ours.cdb in
    let old : KeptState =
    record {
      array = live.array;
      history = items;
      room = vec_capacity c.self.inside.history;
      counts = live.counts;
      events = live.events;
    } in
    let new : KeptState =
    record {
      array = now.array;
      history = items;
      room = vec_capacity c.self.inside.history;
      counts = now.counts;
      events = now.events;
    } in
    let seat : SeatState = c.args.seat.now in
    let none : is_recorded now.array reply ≡ false = sym c.if-not-has_recorded.ensures in
    subst (λ (k : KeptState). IsUnrecorded k seat lun cdb c.args.payload reply new seat) c.self.view_is
    (unrecorded old seat lun cdb c.args.payload reply new
    (served_unstored live.array now.array seat.host lun cdb c.args.payload reply live.history items now.history
    c.self.invariant.2 none
    (subst (λ (h : Host). ServesCommand live.array live.history h lun cdb c.args.payload reply now.array now.history)
    c.host.ensures c.execute-reply.ensures.serves)) none)

pub returns-then-not-answer-clause-serves : goal.returns-then-not-answer-clause-serves
returns-then-not-answer-clause-serves g c =
    let live = c.self.inside.live in
    let items : List Entry = c.self.inside.history.items in
    let now = c.execute-reply.new.self in
    let reply = c.execute-reply.result in
    let lun = c.args.copies.ours.lun in
    let cdb = c.args.copies.ours.cdb in
    let room = vec_capacity c.self.inside.history in
    let old : KeptState =
    record { array = live.array; history = items; room = room; counts = live.counts; events = live.events } in
    let new : KeptState =
    record { array = now.array; history = items; room = room; counts = now.counts; events = now.events } in
    let seat : SeatState = c.args.seat.now in
    let none : IsBusyFor reply = inr (c.if-not-answer.ensures.bytes refl) in
    let is : is_recorded now.array reply ≡ true = sym c.if-not-has_recorded.ensures in
    let sound : is_broken now.array ≡ false = (recorded_parts (is_broken now.array) (is_busy reply.status) is).0 in
    subst (λ (w : KeptState). ServesHost c.args.self.now c.args.seat.now lun cdb c.args.payload c.busy.result.reply
    c.busy.result.at
    (record { array = w.array; history = items; room = room; counts = w.counts; events = w.events }) c.args.seat.now)
    (sym c.withdraw.ensures)
    (subst (λ (at : Option ℕ). ServesHost c.args.self.now c.args.seat.now lun cdb c.args.payload c.busy.result.reply at
    new c.args.seat.now) (sym c.busy.ensures.at)
    (subst (λ (r : Reply). IsUnrecorded c.args.self.now c.args.seat.now lun cdb c.args.payload r new c.args.seat.now)
    (sym c.busy.ensures.reply)
    (subst (λ (k : KeptState). IsUnrecorded k seat lun cdb c.args.payload busy new seat) c.self.view_is
    (unrecorded_busy old seat lun cdb c.args.payload reply new
    (subst (λ (h : Host). Steps live.array (CmdEvent h lun cdb c.args.payload) (CmdOutcome reply) now.array)
    c.host.ensures c.execute-reply.ensures.steps) none sound refl))))

pub returns-then-not-answer-clause-begun : goal.returns-then-not-answer-clause-begun
returns-then-not-answer-clause-begun g c =
    let live = c.self.inside.live in
    let now = c.execute-reply.new.self in
    let reply = c.execute-reply.result in
    let lun = c.args.copies.ours.lun in
    let cdb = c.args.copies.ours.cdb in
    let none : IsBusyFor reply = inr (c.if-not-answer.ensures.bytes refl) in
    let is : is_recorded now.array reply ≡ true = sym c.if-not-has_recorded.ensures in
    let sound : is_broken now.array ≡ false = (recorded_parts (is_broken now.array) (is_busy reply.status) is).0 in
    subst (λ (w : KeptState). Begins c.args.self.now.array c.args.seat.now.host lun cdb c.args.payload
    c.busy.result.reply w.array) (sym c.withdraw.ensures)
    (subst (λ (r : Reply). Begins c.args.self.now.array c.args.seat.now.host lun cdb c.args.payload r now.array)
    (sym c.busy.ensures.reply)
    (subst (λ (k : KeptState). Begins k.array c.args.seat.now.host lun cdb c.args.payload busy now.array) c.self.view_is
    (subst (λ (h : Host). Begins live.array h lun cdb c.args.payload busy now.array) c.host.ensures
    (begins_busy live.array now.array c.host.result lun cdb c.args.payload reply c.execute-reply.ensures.steps none
    sound))))

use Rattle.std.proofs.Common.{ℕ, Bool, not, ◌&&◌, Option, sym, ap, subst, inl}
use Rattle.ar_core.specs.Step.{is_busy}
use Rattle.ar_disks.specs.declared.address.Host.{Host}
use Rattle.ar_served.specs.declared.entry.Exchange.{Exchange}
use Rattle.ar_served.specs.Kept.{KeptState}
use Rattle.ar_served.specs.Serving.{ServesCommand}
use Rattle.ar_live.specs.Live.{LeavesStorage}
use Rattle.ar_history.specs.Recording.{ServesHost}
use Rattle.ar_volume.specs.Image.{ArrayState}
use Rattle.ar_history.proofs.Commands.{unrecorded, serves_from}
use Rattle.ar_history.proofs.Memory.{begun_does, leaves_blocks}
use Rattle.ar_history.proofs.kept.Kept.execute.Goals as goal

pub returns-then-is_lost-clause-serves : goal.returns-then-is_lost-clause-serves
returns-then-is_lost-clause-serves g c =
    let old = c.args.self.now in
    let new = c.unrecorded.new.self in
    let reply = c.unrecorded.result.reply in
    let serves : ServesCommand old.array old.history c.args.seat.now.host c.args.lun c.args.cdb c.args.payload reply
    new.array new.history =
    subst (λ (h : Host). ServesCommand old.array old.history h c.args.lun c.args.cdb c.args.payload reply
    new.array new.history)
    c.host.ensures c.unrecorded.ensures.serves in
    subst (λ (at : Option ℕ). ServesHost old c.args.seat.now c.args.lun c.args.cdb c.args.payload reply at new
    c.args.seat.now) (sym c.unrecorded.ensures.at)
    (unrecorded old c.args.seat.now c.args.lun c.args.cdb c.args.payload reply new serves
    (ap (λ (b : Bool). not b && not (is_busy reply.status)) c.unrecorded.ensures.broken))

pub returns-then-is_lost-clause-busy : goal.returns-then-is_lost-clause-busy
returns-then-is_lost-clause-busy g c =
    leaves_blocks c.args.self.now.array c.unrecorded.new.self.array c.host.result c.args.lun c.args.cdb
    c.args.payload
    c.unrecorded.result.reply (inl (inl c.unrecorded.ensures.steps))

pub returns-in-Ok-clause-serves : goal.returns-in-Ok-clause-serves
returns-in-Ok-clause-serves g c =
    serves_from c.args.self.now c.prepare.new.self c.args.seat.now c.prepare.new.seat c.args.lun c.args.cdb
    c.args.payload c.execute_prepared.result.reply
    c.execute_prepared.result.at c.execute_prepared.new.self c.execute_prepared.new.seat c.in-Ok.ensures.same
    c.in-Ok.ensures.same_seat
    (subst (λ (x : Exchange). ServesHost c.prepare.new.self c.prepare.new.seat x.lun x.cdb c.args.payload
    c.execute_prepared.result.reply c.execute_prepared.result.at c.execute_prepared.new.self
    c.execute_prepared.new.seat)
    c.in-Ok.ensures.copies.0 c.execute_prepared.ensures.serves)

pub returns-in-Ok-clause-busy : goal.returns-in-Ok-clause-busy
returns-in-Ok-clause-busy g c =
    λ is.
    subst (λ (s : ArrayState). LeavesStorage s c.execute_prepared.new.self.array)
    (ap (λ (k : KeptState). k.array) c.in-Ok.ensures.same)
    (leaves_blocks c.prepare.new.self.array c.execute_prepared.new.self.array c.prepare.new.seat.host
    c.in-Ok.copies.ours.lun c.in-Ok.copies.ours.cdb c.args.payload
    c.execute_prepared.result.reply
    (begun_does c.prepare.new.self.array c.execute_prepared.new.self.array c.prepare.new.seat.host
    c.in-Ok.copies.ours.lun c.in-Ok.copies.ours.cdb c.args.payload
    c.execute_prepared.result.reply c.execute_prepared.ensures.begun) is)

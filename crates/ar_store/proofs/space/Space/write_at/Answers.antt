use Rattle.std.proofs.Common.{sym, refl, ◌∙◌}
use Rattle.ar_book.specs.declared.class.Class.TheVariants.{Mirrored, Parity}
use Rattle.ar_mirror.proofs.Reported.{write_reported}
use Rattle.ar_parity.proofs.Reported.{slot_reported, slot_keeps}
use Rattle.ar_store.specs.Spaces.{store_in}
use Rattle.ar_store.proofs.SlotCalls.{asked, never_free, written_mirrored, written_parity, write_done}
use Rattle.ar_store.proofs.space.Space.write_at.Goals as goal

pub unreachable-requires : goal.unreachable-requires
unreachable-requires g c =
    never_free (store_in c.args.self.now) c.args.slot c.members-members.result c.requires.ready.space c.requires.slot
    c.members-members.ensures
    (sym c.in-Free.is ∙ c.class.ensures)

pub put-requires : goal.put-requires
put-requires g c =
    let ready = asked (store_in c.args.self.now) c.args.slot c.members-members.result c.requires.ready.space
    c.requires.slot c.members-members.ensures Mirrored
    (sym c.in-Mirrored.is ∙ c.class.ensures) in
    record { group = ready.0; slot = ready.1; whole = c.requires.whole }

pub returns-in-Mirrored : goal.returns-in-Mirrored
returns-in-Mirrored g c =
    let a = c.args.self.now in
    let slot = c.args.slot in
    let m = c.members-members.result in
    let there = c.members-members.ensures in
    let is = sym c.in-Mirrored.is ∙ c.class.ensures in
    let b = c.put.new.set in
    let put = c.put.ensures in
    let written =
    written_mirrored (store_in a) slot m c.requires.ready.space c.requires.slot there b c.args.from.now is put.holds
    put.slots (write_reported m slot.slot a.disks b put.plan).keeps in
    record {
      here = written.here;
      rest = write_done a _ slot m c.requires.ready c.requires.slot there Mirrored is refl refl c.put.result put.outcome
          c.args.from.now c.requires.whole written
          (record { plan = put.plan; beside = λ k block inside ne has. put.slots.slots k inside ne block has });
    }

pub put-requires-in-Parity : goal.put-requires-in-Parity
put-requires-in-Parity g c =
    let ready = asked (store_in c.args.self.now) c.args.slot c.members-members.result c.requires.ready.space
    c.requires.slot c.members-members.ensures Parity
    (sym c.in-Parity.is ∙ c.class.ensures) in
    record { group = ready.0; slot = ready.1; whole = c.requires.whole; scratch = c.requires.ready.scratch }

pub returns-in-Parity : goal.returns-in-Parity
returns-in-Parity g c =
    let a = c.args.self.now in
    let slot = c.args.slot in
    let m = c.members-members.result in
    let there = c.members-members.ensures in
    let is = sym c.in-Parity.is ∙ c.class.ensures in
    let b = c.put-in-Parity.new.set in
    let put = c.put-in-Parity.ensures in
    let written =
    written_parity (store_in a) slot m c.requires.ready.space c.requires.slot there b c.args.from.now is put.holds
    put.writes.slots (slot_keeps m slot.slot a.disks b (slot_reported m slot.slot a.disks b put.writes.plan)) in
    record {
      here = written.here;
      rest = write_done a _ slot m c.requires.ready c.requires.slot there Parity is refl put.scratch
          c.put-in-Parity.result put.writes.outcome c.args.from.now c.requires.whole written
          (record { plan = put.writes.plan; beside = λ k block inside ne has. put.writes.slots k ne block has });
    }

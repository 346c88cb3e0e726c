use Rattle.std.proofs.Common.{sym, refl, ◌∙◌}
use Rattle.ar_book.specs.declared.class.Class.TheVariants.{Mirrored, Parity}
use Rattle.ar_store.specs.Spaces.{store_in}
use Rattle.ar_store.proofs.SlotCalls.{asked, never_free, mirror_part_given, read_done}
use Rattle.ar_store.proofs.space.Space.read_part_at.Goals as goal

pub unreachable-requires : goal.unreachable-requires
unreachable-requires g c =
    never_free (store_in c.args.self.now) c.args.slot c.members-members.result c.requires.ready.space c.requires.slot
    c.members-members.ensures
    (sym c.in-Free.is ∙ c.class.ensures)

pub get_part-requires : goal.get_part-requires
get_part-requires g c =
    let ready = asked (store_in c.args.self.now) c.args.slot c.members-members.result c.requires.ready.space
    c.requires.slot c.members-members.ensures Mirrored
    (sym c.in-Mirrored.is ∙ c.class.ensures) in
    record { group = ready.0; slot = ready.1; within = c.requires.within }

pub returns-in-Mirrored : goal.returns-in-Mirrored
returns-in-Mirrored g c =
    let a = c.args.self.now in
    let m = c.members-members.result in
    let read = c.get_part.ensures in
    read_done a _ c.args.slot m c.requires.ready c.requires.slot c.members-members.ensures Mirrored
    (sym c.in-Mirrored.is ∙ c.class.ensures) refl refl c.get_part.result read.outcome c.args.first c.get_part.new.into
    (mirror_part_given a.disks c.get_part.new.set m c.args.slot.slot c.args.first c.get_part.new.into c.get_part.result
    read.gives)
    read.plan

pub get_part-requires-in-Parity : goal.get_part-requires-in-Parity
get_part-requires-in-Parity g c =
    let ready = asked (store_in c.args.self.now) c.args.slot c.members-members.result c.requires.ready.space
    c.requires.slot c.members-members.ensures Parity
    (sym c.in-Parity.is ∙ c.class.ensures) in
    record { group = ready.0; slot = ready.1; within = c.requires.within; scratch = c.requires.ready.scratch }

pub returns-in-Parity : goal.returns-in-Parity
returns-in-Parity g c =
    let read = c.get_part-in-Parity.ensures in
    read_done c.args.self.now _ c.args.slot c.members-members.result c.requires.ready c.requires.slot
    c.members-members.ensures Parity
    (sym c.in-Parity.is ∙ c.class.ensures) refl read.scratch c.get_part-in-Parity.result read.outcome c.args.first
    c.get_part-in-Parity.new.into read.gives read.plan

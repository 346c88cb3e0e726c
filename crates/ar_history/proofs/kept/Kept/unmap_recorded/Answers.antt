use Rattle.std.proofs.Common.{◌≡◌, false, List, sym, subst}
use Rattle.ar_volume.specs.Image.{is_broken}
use Rattle.ar_served.specs.declared.entry.Entry.{Entry}
use Rattle.ar_served.specs.Kept.{HistoryAgrees}
use Rattle.ar_history.proofs.Commands.{unmap_stored, count_unmap}
use Rattle.ar_history.proofs.kept.Kept.unmap_recorded.Goals as goal

pub invariant_of-self : goal.invariant_of-self
invariant_of-self g c =
    let new = c.unmap-reply.new.self in
    let sound : is_broken new.array ≡ false = sym c.if-not-is_lost.ensures in
    let same : new.history ≡ c.push_reserved.new.self.items =
    unmap_stored new.array c.args.addr c.args.lba c.args.count c.self.inside.live.history c.self.inside.history.items
    new.history c.push_reserved.new.self.items c.self.invariant.2 c.unmap-reply.ensures.serves.history sound
    c.push_reserved.ensures.items in (
      subst (λ (l : List Entry). HistoryAgrees new.array l) same c.unmap-reply.ensures.kept.after,
      count_unmap c.self.inside.book.total c.self.inside.history.items c.push_reserved.new.self.items c.args.addr
          c.args.lba c.args.count c.self.invariant.1 c.push_reserved.ensures.items,
      same,
    )

use Rattle.std.proofs.Common.{Bool, cond, [], ◌∷◌, ◌++◌, ap, subst, ◌∙◌}
use Rattle.ar_served.specs.declared.entry.Entry.TheVariants.{Unmap}
use Rattle.ar_served.specs.Kept.{KeptState, HistoryAgrees}
use Rattle.ar_served.specs.Serving.{ServesUnmap}
use Rattle.ar_live.proofs.Commands.{kept_unmap, served_unmap}
use Rattle.ar_live.proofs.live.LiveArray.unmap.Goals as goal

pub invariant_of-self : goal.invariant_of-self
invariant_of-self g c =
    kept_unmap c.self.inside.array c.unmap-reply.new.array c.args.addr c.args.lba c.args.count c.unmap-reply.result
    c.self.inside.history.entries c.push_unless.new.self.entries c.self.invariant c.unmap-reply.ensures
    (c.push_unless.ensures
    ∙ ap (λ (b : Bool). c.self.inside.history.entries ++ cond b [] (Unmap c.args.addr c.args.lba c.args.count ∷ []))
    c.is_lost-lost.ensures)

pub returns-clause-serves : goal.returns-clause-serves
returns-clause-serves g c =
    subst (λ (k : KeptState). ServesUnmap k.array k.history c.args.addr c.args.lba c.args.count c.unmap-reply.result
    c.unmap-reply.new.array c.push_unless.new.self.entries)
    c.self.view_is
    (served_unmap c.self.inside.array c.unmap-reply.new.array c.args.addr c.args.lba c.args.count c.unmap-reply.result
    c.self.inside.history.entries c.push_unless.new.self.entries c.self.invariant c.unmap-reply.ensures
    (c.push_unless.ensures
    ∙ ap (λ (b : Bool). c.self.inside.history.entries ++ cond b [] (Unmap c.args.addr c.args.lba c.args.count ∷ []))
    c.is_lost-lost.ensures))

pub returns-clause-kept : goal.returns-clause-kept
returns-clause-kept g c = record {
  before = subst (λ (k : KeptState). HistoryAgrees k.array k.history) c.self.view_is c.self.invariant;
  after =
      kept_unmap c.self.inside.array c.unmap-reply.new.array c.args.addr c.args.lba c.args.count c.unmap-reply.result
      c.self.inside.history.entries c.push_unless.new.self.entries c.self.invariant c.unmap-reply.ensures
      (c.push_unless.ensures
      ∙ ap (λ (b : Bool). c.self.inside.history.entries ++ cond b [] (Unmap c.args.addr c.args.lba c.args.count ∷ []))
      c.is_lost-lost.ensures);
}

use Rattle.std.proofs.Common.{subst}
use Rattle.ar_served.specs.Kept.{KeptState, HistoryAgrees}
use Rattle.ar_served.specs.Serving.{ServesCommand}
use Rattle.ar_live.proofs.Commands.{grown_as, served, kept_served, kept_bytes}
use Rattle.ar_live.proofs.live.LiveArray.execute.Goals as goal

pub invariant_of-self : goal.invariant_of-self
invariant_of-self g c =
    kept_served c.self.inside.array c.command-reply.new.array c.args.host c.args.lun c.args.cdb c.args.payload
    c.command-reply.result
    c.self.inside.history.entries c.record.new.self.entries c.self.invariant c.command-reply.ensures
    (grown_as c.command-reply.new.array c.args.host c.args.lun c.args.cdb c.args.payload c.of.result.value
    c.command-reply.result
    c.self.inside.history.entries c.record.new.self.entries c.is_recorded-recorded.result c.is_recorded-recorded.ensures
    c.of.ensures c.record.ensures)

pub returns-clause-serves : goal.returns-clause-serves
returns-clause-serves g c =
    subst (λ (k : KeptState). ServesCommand k.array k.history c.args.host c.args.lun c.args.cdb c.args.payload
    c.command-reply.result c.command-reply.new.array c.record.new.self.entries)
    c.self.view_is
    (served c.self.inside.array c.command-reply.new.array c.args.host c.args.lun c.args.cdb c.args.payload
    c.command-reply.result
    c.self.inside.history.entries c.record.new.self.entries c.self.invariant c.command-reply.ensures
    (grown_as c.command-reply.new.array c.args.host c.args.lun c.args.cdb c.args.payload c.of.result.value
    c.command-reply.result
    c.self.inside.history.entries c.record.new.self.entries c.is_recorded-recorded.result c.is_recorded-recorded.ensures
    c.of.ensures c.record.ensures))

pub returns-clause-kept : goal.returns-clause-kept
returns-clause-kept g c = record {
  before = subst (λ (k : KeptState). HistoryAgrees k.array k.history) c.self.view_is c.self.invariant;
  after =
      kept_served c.self.inside.array c.command-reply.new.array c.args.host c.args.lun c.args.cdb c.args.payload
      c.command-reply.result
      c.self.inside.history.entries c.record.new.self.entries c.self.invariant c.command-reply.ensures
      (grown_as c.command-reply.new.array c.args.host c.args.lun c.args.cdb c.args.payload c.of.result.value
      c.command-reply.result
      c.self.inside.history.entries c.record.new.self.entries c.is_recorded-recorded.result
      c.is_recorded-recorded.ensures c.of.ensures c.record.ensures);
}

pub returns-clause-bytes : goal.returns-clause-bytes
returns-clause-bytes g c =
    λ bytes.
    subst (λ (k : KeptState). HistoryAgrees c.command-reply.new.array k.history) c.self.view_is
    (kept_bytes c.self.inside.array c.command-reply.new.array c.args.host c.args.lun c.args.cdb c.args.payload
    c.command-reply.result
    c.self.inside.history.entries c.self.invariant c.command-reply.ensures bytes)

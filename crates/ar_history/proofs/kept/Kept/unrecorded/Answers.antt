use Rattle.std.proofs.Common.{◌≡◌, true, false, not, ◌&&◌, Bool, List, ap, subst, ◌∙◌}
use Rattle.ar_core.specs.Step.{is_busy}
use Rattle.ar_core.specs.declared.event.EventOf.TheVariants.{Cmd as CmdEvent}
use Rattle.ar_core.specs.declared.event.OutcomeOf.TheVariants.{Cmd as CmdOutcome}
use Rattle.ar_volume.specs.Image.{is_broken}
use Rattle.ar_served.specs.declared.entry.Entry.{Entry}
use Rattle.ar_served.specs.Kept.{KeptState, HistoryAgrees}
use Rattle.ar_served.specs.Serving.{is_recorded}
use Rattle.ar_history.proofs.Commands.{stays_lost, unrecorded_history}
use Rattle.ar_history.proofs.kept.Kept.unrecorded.Goals as goal

pub invariant_of-self : goal.invariant_of-self
invariant_of-self g c =
    let lost : is_broken c.execute-reply.new.self.array ≡ true =
    stays_lost c.self.inside.live.array c.execute-reply.new.self.array
    (CmdEvent c.args.host c.args.lun c.args.cdb c.args.payload) (CmdOutcome c.execute-reply.result)
    c.execute-reply.ensures.steps (ap (λ (k : KeptState). is_broken k.array) c.self.view_is ∙ c.requires) in
    let none : is_recorded c.execute-reply.new.self.array c.execute-reply.result ≡ false =
    ap (λ (b : Bool). not b && not (is_busy c.execute-reply.result.status)) lost in
    let same : c.execute-reply.new.self.history ≡ c.self.inside.history.items =
    unrecorded_history c.self.inside.live.array c.execute-reply.new.self.array c.args.host c.args.lun c.args.cdb
    c.args.payload c.execute-reply.result
    c.self.inside.live.history c.execute-reply.new.self.history c.execute-reply.ensures.serves none
    ∙ c.self.invariant.2 in (
      subst (λ (l : List Entry). HistoryAgrees c.execute-reply.new.self.array l) same
          c.execute-reply.ensures.kept.after,
      c.self.invariant.1,
      same,
    )

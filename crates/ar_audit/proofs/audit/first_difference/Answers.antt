use Rattle.std.proofs.Common.{◌++◌, take, List, ap, ◌∙◌}
use Rattle.std.proofs.lemmas.List.{drop_all}
use Rattle.ar_served.specs.declared.entry.Entry.{Entry}
use Rattle.ar_served.specs.History.{part}
use Rattle.ar_audit.proofs.Auditing.{longer}
use Rattle.ar_audit.proofs.audit.first_difference.Goals as goal

pub returns-then-at-transcript : goal.returns-then-at-transcript
returns-then-at-transcript c =
    longer c.args.transcript.now (part c.args.host.number c.args.history.now) c.loop-entry.at c.if-at-transcript.true
    (c.loop-entry.invariant.same
    ∙ ap (λ (l : List Entry). take c.loop-entry.at c.args.transcript.now ++ part c.args.host.number l)
    (drop_all c.loop-entry.entry-index c.args.history.now c.loop-entry-test.false))

use Rattle.std.proofs.Common.{ap, sym, subst, ◌∙◌, List}
use Rattle.std.specs.Prelude.{All, OnOk, IfOk, count_by, ◌≡◌, sum}
use Rattle.ar_served.specs.declared.entry.Entry.{Entry}
use Rattle.ar_served.specs.History.{IsLegal, is_command}
use Rattle.ar_served.specs.Kept.{KeptState}
use Rattle.ar_audit.specs.Audit.{IsTranscriptIsolated}
use Rattle.ar_audit.proofs.Auditing.{all_isolated, none_else}
use Rattle.ar_history.proofs.kept.Kept.close.Goals as goal

pub returns-clause-isolated : goal.returns-clause-isolated
returns-clause-isolated g c =
    let same : c.as_slice.result.now ≡ c.args.self.now.history =
    c.as_slice.ensures.value ∙ ap (λ (k : KeptState). k.history) c.self.view_is in
    subst (λ (l : List Entry). OnOk c.audited.result (All (IsTranscriptIsolated l) c.args.seats.now)) same
    (all_isolated c.as_slice.result.now c.args.seats.now c.audited.result
    (subst (λ (l : List Entry). IsLegal l) (sym c.as_slice.ensures.value) c.self.invariant.0.legal)
    c.audited.ensures.parts)

pub returns-clause-none_else : goal.returns-clause-none_else
returns-clause-none_else g c =
    let same : c.as_slice.result.now ≡ c.args.self.now.history =
    c.as_slice.ensures.value ∙ ap (λ (k : KeptState). k.history) c.self.view_is in
    subst (λ (l : List Entry). IfOk c.audited.result (λ report. sum report.commands ≡ count_by is_command l)) same
    (none_else c.as_slice.result.now c.args.seats.now c.audited.result c.requires.order c.audited.ensures.parts
    c.audited.ensures.commands)

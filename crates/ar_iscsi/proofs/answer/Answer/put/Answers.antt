use Rattle.std.proofs.Common.{◌++◌, ◌∙◌, ℕ, List, ap}
use Rattle.ar_iscsi.specs.Answer.{woven}
use Rattle.ar_iscsi.specs.Response.{target_pdu}
use Rattle.ar_iscsi.proofs.Weaving.{woven_append}
use Rattle.ar_iscsi.proofs.answer.Answer.put.Goals as goal

pub returns-in-Ok : goal.returns-in-Ok
returns-in-Ok c =
    let old = c.self.inside in
    let more = target_pdu c.args.pdu c.args.numbers c.args.segment.now in
    ap (λ (l : List ℕ). woven old.cuts.items l old.carried) c.in-Ok.ensures
    ∙ woven_append old.cuts.items old.bytes.items more old.carried c.self.invariant.fronts_fit
    ∙ ap (λ (l : List ℕ). l ++ more) c.self.view_is

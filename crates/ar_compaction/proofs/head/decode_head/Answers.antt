use Rattle.std.proofs.Common.{ap, subst, ◌∙◌, arith}
use Rattle.ar_compaction.specs.Head.{head_data}
use Rattle.ar_compaction.specs.HeadReading.{HeadReadsAs, head_decoded}
use Rattle.ar_compaction.proofs.Heads.{former_again, head_found, head_again}
use Rattle.ar_compaction.proofs.head.decode_head.Goals as goal

pub returns-clause-found : goal.returns-clause-found
returns-clause-found c =
    head_found c.args.bytes.now c.whole_head.result (λ i. omega (arith, c.type_inv.bytes i)) c.whole_head.ensures

pub returns-clause-again : goal.returns-clause-again
returns-clause-again c = λ head fits e.
    subst (λ r. HeadReadsAs head_data c.whole_head.result r)
    (ap head_decoded e ∙ head_again head fits) c.whole_head.ensures

pub returns-clause-former : goal.returns-clause-former
returns-clause-former c = λ head fits none e.
    subst (λ r. HeadReadsAs head_data c.whole_head.result r)
    (ap head_decoded e ∙ former_again head fits none) c.whole_head.ensures

use Rattle.std.proofs.Common.{◌∙◌, List, ℕ, ap, map}
use Rattle.std.proofs.lemmas.Bool.{eqb-true}
use Rattle.ar_language.specs.declared.order.Notation.{Notation}
use Rattle.ar_answers.specs.Texts.{data_words, run_text}
use Rattle.ar_answers.proofs.RunLengths.{one_run}
use Rattle.ar_answers.proofs.text.is_one_run.Goals as goal

pub returns-in-Runs : goal.returns-in-Runs
returns-in-Runs c same =
    let bytes = c.args.bytes.now in
    let is = c.run_len.ensures in
    ap (λ (notation : Notation). data_words notation bytes) c.in-Runs.is
    ∙ ap (λ (runs : List (ℕ × ℕ)). map run_text runs)
    (one_run bytes c.run_len.result is.some (eqb-true _ _ same) is.equal)

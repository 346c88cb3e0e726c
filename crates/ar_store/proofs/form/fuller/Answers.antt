use Rattle.std.proofs.Common.{sym, subst, ◌∙◌, true≢false, arith}
use Rattle.ar_store.specs.Fullest.{IsFullest}
use Rattle.ar_store.proofs.Picking.{fullest_same, fullest_first, fullest_next, fullest_less}
use Rattle.ar_store.proofs.form.fuller.Goals as goal
use Rattle.ar_store.proofs.form.fuller.Goals.{then-counts-number-eq0-via-then-counts-number-eq0}
use Rattle.ar_store.proofs.form.fuller.Goals.{then-counts-number-eq0-via-else-counts-number-eq0+then-contains}

pub returns-then-counts-number-eq0 : goal.returns-then-counts-number-eq0
returns-then-counts-number-eq0 c =
    fullest_same c.args.counts.now c.args.but.now c.args.number c.args.best c.requires.best
    (λ other. elim c.then-counts-number-eq0.branch [
      | then-counts-number-eq0-via-then-counts-number-eq0 w ↦ w.if-counts-number-eq0.true
      | then-counts-number-eq0-via-else-counts-number-eq0+then-contains w ↦
          absurd (true≢false (sym w.if-contains.true ∙ w.contains.ensures.value ∙ other))
    ])

pub returns-in_default : goal.returns-in_default
returns-in_default c =
    fullest_first c.args.counts.now c.args.but.now c.args.number
    (subst (λ b. IsFullest c.args.counts.now c.args.but.now c.args.number b) c.in_default.is c.requires.best)
    (sym c.contains.ensures.value ∙ c.if-contains.false) (let some = c.if-counts-number-eq0.false in omega arith)

pub returns-then-counts-number : goal.returns-then-counts-number
returns-then-counts-number c =
    fullest_next c.args.counts.now c.args.but.now c.args.number c.in-Some.disk
    (subst (λ b. IsFullest c.args.counts.now c.args.but.now c.args.number b) c.in-Some.is c.requires.best)
    (sym c.contains.ensures.value ∙ c.if-contains.false) c.if-counts-number.true

pub returns-else-counts-number : goal.returns-else-counts-number
returns-else-counts-number c =
    fullest_less c.args.counts.now c.args.but.now c.args.number c.in-Some.disk
    (subst (λ b. IsFullest c.args.counts.now c.args.but.now c.args.number b) c.in-Some.is c.requires.best)
    c.if-counts-number.false

use Rattle.std.proofs.Common.{◌≡◌, Option, ℕ, List, None, not, cond, sym, ap, ◌∙◌, subst, arith}
use Rattle.ar_cache.specs.Cache.{cached}
use Rattle.ar_cache.proofs.Forgetting.{forgetting_more, forgetting_all, lookup-without_addr}
use Rattle.ar_cache.proofs.cache.Cache.forget.Goals as goal

pub loop-preserved : goal.loop-preserved
loop-preserved c =
    let len = c.len-end.ensures.len in
    forgetting_more c.args.addr c.args.self.now c.loop.self c.turn.new.self c.loop.counter c.loop.invariant
    (omega (arith, len, c.loop-test.true)) c.turn.ensures

pub returns-clause-gone : goal.returns-clause-gone
returns-clause-gone c key is =
    let old = c.args.self.now in
    let len = c.len-end.ensures.len in
    let all = forgetting_all c.args.addr old c.loop.self c.loop.counter c.loop.invariant
    (omega (arith, len, c.loop-test.false)) in
    subst (λ s. cached s key ≡ None) (sym all)
    (lookup-without_addr old.entries c.args.addr key
    ∙ ap (λ d. cond {A = Option (List ℕ)} (not d) (cached old key) None) is)

pub returns-clause-others : goal.returns-clause-others
returns-clause-others c key isnt =
    let old = c.args.self.now in
    let len = c.len-end.ensures.len in
    let all = forgetting_all c.args.addr old c.loop.self c.loop.counter c.loop.invariant
    (omega (arith, len, c.loop-test.false)) in
    subst (λ s. cached s key ≡ cached old key) (sym all)
    (lookup-without_addr old.entries c.args.addr key
    ∙ ap (λ d. cond {A = Option (List ℕ)} (not d) (cached old key) None) isnt)

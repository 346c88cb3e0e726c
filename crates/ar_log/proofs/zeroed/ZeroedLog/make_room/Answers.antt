use Rattle.std.proofs.Common.{rules, arith, ◌≡◌, ◌+◌, ◌∙◌, ℕ, List, ap, subst, sym, length}
use Rattle.std.proofs.lemmas.List.{length-replicate}
use Rattle.ar_log.specs.Zeroed.{AreZeros, zeroed_batches}
use Rattle.ar_log.proofs.Advancing.{zeros_are, are_from, ahead_from, longer_front, longer_zeros, longer_length}
use Rattle.ar_log.proofs.zeroed.ZeroedLog.make_room.Goals as goal

pub returns-clause-ahead : goal.returns-clause-ahead
returns-clause-ahead g c settled =
    let x = g.M.Media.seen c.args.self.now.media in
    let y = g.M.Media.seen c.write_synced.new.media in
    let log = c.args.self.now in
    let is = c.deref.ensures.value ∙ c.in_ok-zeros.ensures in
    let over = c.in_default-write_synced.ensures.written (omega (arith, settled.ahead)) in
    let size : length c.deref.result.now ≡ c.max-len.result = ap length is ∙ length-replicate c.max-len.result 0 in
    let P : List ℕ → Type 0 = λ l. AreZeros l in
    let ends : c.in-Some.ahead ≡ log.ahead + c.max-len.result = search rules in
    ahead_from g.M.Media.seen g.M.Media.may_leave _ (zeroed_batches x)
    (longer_front log.end log.ahead c.deref.result.now x y settled.ahead settled.within over ∙ settled.front)
    settled.fit
    (omega (arith, ends, settled.within))
    (omega
    (arith, longer_length log.end log.ahead c.deref.result.now x y settled.ahead settled.within over, ends, size))
    (longer_zeros log.end log.ahead c.deref.result.now x y settled.ahead settled.within over settled.zeros
    (subst P (sym is) (zeros_are c.max-len.result)))
    c.in_default-write_synced.ensures.durable

pub returns-clause-batches : goal.returns-clause-batches
returns-clause-batches g c settled =
    let x = g.M.Media.seen c.args.self.now.media in
    let y = g.M.Media.seen c.write_synced.new.media in
    let log = c.args.self.now in
    let is = c.deref.ensures.value ∙ c.in_ok-zeros.ensures in
    let over = c.in_default-write_synced.ensures.written (omega (arith, settled.ahead)) in
    let P : List ℕ → Type 0 = λ l. AreZeros l in
    are_from (zeroed_batches x) log.end y
    (longer_front log.end log.ahead c.deref.result.now x y settled.ahead settled.within over ∙ settled.front)
    settled.fit
    (longer_zeros log.end log.ahead c.deref.result.now x y settled.ahead settled.within over settled.zeros
    (subst P (sym is) (zeros_are c.max-len.result)))

use Rattle.std.proofs.Common.{◌≢◌, length, ap, arith, rules}
use Rattle.std.proofs.lemmas.Grind.{common_steps}
use Rattle.ar_cache.specs.declared.answers.Flush.TheVariants.{Idle}
use Rattle.ar_cache.proofs.Turns.{in_turn_flushed}
use Rattle.ar_cache.proofs.cache.Cache.flush_all.Goals as goal

pub loop-self-preserved : goal.loop-self-preserved
loop-self-preserved g c =
    let before = c.loop-self.invariant in
    let one = c.flush_one.ensures in
    let some : c.flush_one.result ≢ Idle =
    λ idle. omega (arith, ap length (one.idle.0 idle), c.loop-self-test.true, c.len.ensures.len) in (
      first_of (search rules, grind (arith, common_steps)),
      in_turn_flushed g.B.Backing.puts c.flush_one.result c.args.self.now.entries c.loop-self.self c.flush_one.new.self
          c.args.backing.now c.loop-self.backing c.flush_one.new.backing c.in_default.not-Broken some one.entries
          one.behind.put
          before.0.within (ap (λ s. s.entries) before.0.left) before.1,
    )

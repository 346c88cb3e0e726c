use Rattle.std.proofs.Common.{sym, subst}
use Rattle.ar_cache.specs.Cache.{SameReads, KnowsAll}
use Rattle.ar_cache.proofs.Lookups.{seen_without_last, known_without_last, known_kept}
use Rattle.ar_cache.proofs.cache.Cache.flush_one.Goals as goal

pub returns-in-Flushed-clause-rest : goal.returns-in-Flushed-clause-rest
returns-in-Flushed-clause-rest g c =
    let old = c.args.self.now in
    let d = c.in-Flushed.ensures in
    let call = c.destage_last-answer.ensures in
    let f = g.B.Backing.block_at c.args.backing.now in
    let h = g.B.Backing.block_at c.destage_last-answer.new.backing in
    let before = g.B.Backing.knows c.args.backing.now in
    let after = g.B.Backing.knows c.destage_last-answer.new.backing in
    record {
      seen = λ done.
          subst (λ s. SameReads old f s h) (sym c.drop_destaged.ensures)
          (seen_without_last old f h c.in-Flushed.field-0 d.behind.given.0 d.sound.distinct d.behind.given.1
          d.behind.given.2);
      answer = call.answer;
      asked = λ some. call.asked some;
      all_known =
          subst (KnowsAll after) (sym c.drop_destaged.ensures)
          (known_without_last after old d.sound.distinct
          (known_kept before after old d.keeps.same_keys c.requires.all_known));
      keeps = d.keeps;
    }

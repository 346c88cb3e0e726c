use Rattle.std.proofs.Common.{◌≡◌, ◌<◌, true, sym, ◌∙◌, ap, subst, refl, arith}
use Rattle.ar_disks.specs.Geometry.{rows_of}
use Rattle.ar_extents.specs.declared.health.Health.{Health}
use Rattle.ar_extents.specs.Health.{IsRebuilding}
use Rattle.ar_extents.specs.Plans.{AttemptsAll, all_done}
use Rattle.ar_extents.proofs.GroupLemmas.{group_then}
use Rattle.ar_rebuild.specs.Plans.{rows_attempts}
use Rattle.ar_rebuild.proofs.Attempts.{rows_carried}
use Rattle.ar_rebuild.proofs.Reported.{one_more, rows_effect, given_up_changes, broken_changes}
use Rattle.ar_rebuild.proofs.Writing.{next_same, stopped_then}
use Rattle.ar_rebuild.proofs.RowLemmas.{AreWritten, none_written, written_health, written_then, written_whole}
use Rattle.ar_rebuild.proofs.RowLemmas.{written_stops}
use Rattle.ar_rebuild.proofs.rows.write_rows.Goals as goal

pub write_row-requires : goal.write_row-requires
write_row-requires g c =
    let a = c.args.set.now in
    let b = c.loop-row.set in
    let before =
    rows_effect c.args.class c.args.members.now c.args.position a c.requires.group c.requires.position
    c.requires.rebuilding c.requires.next c.loop-row.row b c.loop-row.invariant.made in
    let rows = c.rows-row-end.ensures ∙ ap rows_of c.geometry.ensures in
    let below = c.loop-row-test.true in
    record {
      used = c.requires.used;
      group = group_then a b c.args.members.now before.writes.follows c.requires.group;
      position = c.requires.position;
      row = (let same = ap rows_of before.writes.follows.geometry in omega arith);
      rebuilding = subst (λ (h : Health). IsRebuilding h) (sym before.health) c.requires.rebuilding;
      next = c.requires.next ∙ sym (next_same a b before.health);
      scratch = c.loop-row.invariant.scratch ∙ c.requires.scratch ∙ sym before.writes.follows.geometry;
    }

pub loop-row-init : goal.loop-row-init
loop-row-init g c = record {
  written = none_written c.args.class c.args.set.now c.args.members.now c.args.position;
  made = all_done c.args.set.now;
  scratch = refl;
}

pub loop-row-preserved : goal.loop-row-preserved
loop-row-preserved g c =
    let a = c.args.set.now in
    let b = c.loop-row.set in
    let d = c.write_row.new.set in
    let m = c.args.members.now in
    let i = c.args.position in
    let row = c.loop-row.row in
    let more = one_more c.args.class m i row a b d c.requires.group c.requires.position c.requires.rebuilding
    c.requires.next c.loop-row.invariant.made c.write_row.ensures.plan in
    record {
      written = written_then c.args.class a b d m i row more.before c.requires.next c.loop-row.invariant.written
          more.here c.requires.rebuilding c.in-Done.ensures.answer;
      made = more.all (written_health c.args.class b d m i row c.in-Done.ensures.answer);
      scratch = c.write_row.ensures.scratch ∙ c.loop-row.invariant.scratch;
    }

pub returns : goal.returns
returns g c =
    let a = c.args.set.now in
    let b = c.loop-row.set in
    let m = c.args.members.now in
    let i = c.args.position in
    let rows : c.loop-row.row ≡ rows_of a.geometry =
    (let end = c.rows-row-end.ensures ∙ ap rows_of c.geometry.ensures in let past = c.loop-row-test.false in
    let fits = c.loop-row.auto.row-end in omega arith) in
    let made = subst (λ n. AttemptsAll (rows_attempts c.args.class m i n) true a b) rows c.loop-row.invariant.made in
    let effect =
    rows_effect c.args.class m i a c.requires.group c.requires.position c.requires.rebuilding c.requires.next
    (rows_of a.geometry) b made in
    record {
      answer = written_whole c.args.class a b m i c.requires.group c.requires.position c.requires.rebuilding
          c.requires.next effect (subst (λ n. AreWritten c.args.class a b m i n) rows c.loop-row.invariant.written);
      writes = effect.writes;
      plan = rows_carried c.args.class m i (rows_of a.geometry) a b made;
      stopped = λ no. absurd (no refl);
      scratch = c.loop-row.invariant.scratch;
    }

pub returns-in-GivenUp : goal.returns-in-GivenUp
returns-in-GivenUp g c =
    let a = c.args.set.now in
    let b = c.loop-row.set in
    let d = c.write_row.new.set in
    let m = c.args.members.now in
    let i = c.args.position in
    let row = c.loop-row.row in
    let more = one_more c.args.class m i row a b d c.requires.group c.requires.position c.requires.rebuilding
    c.requires.next c.loop-row.invariant.made c.write_row.ensures.plan in
    let lt : row < rows_of a.geometry =
    (let rows = c.rows-row-end.ensures ∙ ap rows_of c.geometry.ensures in let below = c.loop-row-test.true in
    omega arith) in
    let still = subst (λ (h : Health). IsRebuilding h) (sym more.before.health) c.requires.rebuilding in
    let changed = given_up_changes b d still c.in-GivenUp.ensures.answer in
    record {
      answer = stopped_then a b d more.before.writes.follows more.before.health c.in-GivenUp.ensures.answer;
      writes = more.writes;
      plan = more.plan changed lt;
      stopped = λ no. written_stops c.args.class a b d m i row more.before c.requires.next
          c.loop-row.invariant.written more.here lt c.loop-row.invariant.made (more.failed changed);
      scratch = c.write_row.ensures.scratch ∙ c.loop-row.invariant.scratch;
    }

pub returns-in-Broken : goal.returns-in-Broken
returns-in-Broken g c =
    let a = c.args.set.now in
    let b = c.loop-row.set in
    let d = c.write_row.new.set in
    let m = c.args.members.now in
    let i = c.args.position in
    let row = c.loop-row.row in
    let more = one_more c.args.class m i row a b d c.requires.group c.requires.position c.requires.rebuilding
    c.requires.next c.loop-row.invariant.made c.write_row.ensures.plan in
    let lt : row < rows_of a.geometry =
    (let rows = c.rows-row-end.ensures ∙ ap rows_of c.geometry.ensures in let below = c.loop-row-test.true in
    omega arith) in
    let still = subst (λ (h : Health). IsRebuilding h) (sym more.before.health) c.requires.rebuilding in
    let changed = broken_changes b d still c.in-Broken.ensures.answer in
    record {
      answer = more.spared c.in-Broken.ensures.answer;
      writes = more.writes;
      plan = more.plan changed lt;
      stopped = λ no. written_stops c.args.class a b d m i row more.before c.requires.next
          c.loop-row.invariant.written more.here lt c.loop-row.invariant.made (more.failed changed);
      scratch = c.write_row.ensures.scratch ∙ c.loop-row.invariant.scratch;
    }

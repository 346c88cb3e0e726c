use Rattle.std.proofs.Common.{◌+◌, ◌<◌, ◌∙◌, length, sym, ap, subst, arith}
use Rattle.std.specs.Prelude.{slice_set}
use Rattle.std.proofs.lemmas.List.{length-set}
use Rattle.ar_index.specs.Tree.{leaves}
use Rattle.ar_book.proofs.Reorders.{AreBlanked, blanked_none, blanked_skip, blanked_set}
use Rattle.ar_book.proofs.index.blank_all.Goals.{in-Some+then-not-is_blank, in-Some+else-not-is_blank, in_default}
use Rattle.ar_book.proofs.index.blank_all.Goals as goal

pub set-requires-clause-right : goal.set-requires-clause-right
set-requires-clause-right c = rw c.map-order.ensures c.loop-home.invariant.right

pub loop-home-preserved : goal.loop-home-preserved
loop-home-preserved c = elim c.match-home.branch [
  | in-Some+then-not-is_blank w ↦
      let before = c.loop-home.invariant in
      let put = w.set.ensures.set ∙ ap (slice_set (leaves c.loop-home.index) w.in-Some.slot.group) w.nothing.ensures in
      let inside : w.in-Some.slot.group < length (leaves c.loop-home.index) =
      omega (arith, before.size, c.requires.there c.loop-home.home-index w.in-Some.slot w.in-Some.is) in
      subst (AreBlanked c.args.units.now.entries c.args.homes.now (c.loop-home.home-index + 1) c.args.index.now)
      (sym w.index-is)
      (record {
        size = ap length put ∙ length-set _ _ _ ∙ before.size;
        right = rw c.map-order.ensures at w.set.ensures.right;
        each = blanked_set c.args.homes.now c.loop-home.home-index c.args.index.now c.loop-home.index before.each
            w.set.new.self w.in-Some.slot w.in-Some.is inside put;
      })
  | in-Some+else-not-is_blank w ↦
      let before = c.loop-home.invariant in
      subst (AreBlanked c.args.units.now.entries c.args.homes.now (c.loop-home.home-index + 1) c.args.index.now)
      (sym w.index-is)
      (record {
        size = before.size;
        right = before.right;
        each = blanked_skip c.args.homes.now c.loop-home.home-index c.args.index.now c.loop-home.index before.each
            w.in-Some.slot w.in-Some.is (sym w.is_blank.ensures ∙ w.if-not-is_blank.false);
      })
  | in_default w ↦
      let before = c.loop-home.invariant in
      subst (AreBlanked c.args.units.now.entries c.args.homes.now (c.loop-home.home-index + 1) c.args.index.now)
      (sym w.index-is)
      (record {
        size = before.size;
        right = before.right;
        each = blanked_none c.args.homes.now c.loop-home.home-index c.args.index.now c.loop-home.index before.each
            w.in_default.is;
      })
]

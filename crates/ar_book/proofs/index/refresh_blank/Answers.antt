use Rattle.std.proofs.Common.{◌<◌, ◌∙◌, length, sym, ap, arith}
use Rattle.std.proofs.lemmas.List.{length-set}
use Rattle.ar_index.specs.Tree.{leaves}
use Rattle.ar_book.proofs.GroupLemmas.{slots_few}
use Rattle.ar_book.proofs.IndexLemmas.{all_leaves}
use Rattle.ar_book.proofs.Reorders.{right_none, right_skip, right_set, right_leaf, blanks_less}
use Rattle.ar_book.proofs.index.refresh_blank.Goals.{in-Some+then-is_blank, in-Some+else-is_blank, in_default}
use Rattle.ar_book.proofs.index.refresh_blank.Goals as goal

pub loop-home-init : goal.loop-home-init
loop-home-init c = (
  record { size = c.requires.leaves; right = c.requires.right; each = c.requires.each },
  record { few = λ most have. omega arith },
)

pub loop-home-preserved : goal.loop-home-preserved
loop-home-preserved c = elim c.match-home.branch [
  | in-Some+then-is_blank w ↦
      let before = c.loop-home.invariant.0 in
      let counted = c.loop-home.invariant.1 in
      let inside : w.in-Some.slot.group < length (leaves c.loop-home.index) =
      omega (arith, before.size, c.requires.there c.loop-home.home-index w.in-Some.slot w.in-Some.is) in
      rw (w.index-is, w.steps-is) (
        record {
          size = ap length w.refresh.ensures.set ∙ length-set _ _ _ ∙ before.size;
          right = w.refresh.ensures.right;
          each = right_set c.args.geometry c.args.units.now.entries c.args.groups.now.items c.args.homes.now
              c.loop-home.home-index c.loop-home.index before.each
              w.refresh.new.index w.in-Some.slot w.in-Some.is inside w.refresh.ensures.set;
        },
        record {
          few = λ most have.
              let so_far = counted.few most have in
              let more = w.refresh.ensures.few most in
              let long = have.long w.in-Some.slot.group
              (c.requires.there c.loop-home.home-index w.in-Some.slot w.in-Some.is) in
              let short = slots_few c.args.geometry in
              let less = blanks_less c.loop-home.index w.refresh.new.index w.in-Some.slot.group _ inside
              w.refresh.ensures.set (sym w.is_blank.ensures ∙ w.if-is_blank.true)
              (have.some c.loop-home.home-index w.in-Some.slot w.in-Some.is) in
              omega (arith, so_far, more, long, short, less);
        },
      )
  | in-Some+else-is_blank w ↦
      let before = c.loop-home.invariant.0 in
      rw (w.index-is, w.steps-is) (
        record {
          size = before.size;
          right = before.right;
          each = right_skip c.args.geometry c.args.units.now.entries c.args.groups.now.items c.args.homes.now
              c.loop-home.home-index c.loop-home.index before.each
              w.in-Some.slot w.in-Some.is (sym w.is_blank.ensures ∙ w.if-is_blank.false);
        },
        c.loop-home.invariant.1,
      )
  | in_default w ↦
      let before = c.loop-home.invariant.0 in
      rw (w.index-is, w.steps-is) (
        record {
          size = before.size;
          right = before.right;
          each = right_none c.args.geometry c.args.units.now.entries c.args.groups.now.items c.args.homes.now
              c.loop-home.home-index c.loop-home.index before.each w.in_default.is;
        },
        c.loop-home.invariant.1,
      )
]

pub returns-clause-few : goal.returns-clause-few
returns-clause-few c = λ most have. (let few = c.loop-home.invariant.1.few most have in omega (arith, few))

pub returns-clause-leaves : goal.returns-clause-leaves
returns-clause-leaves c =
    all_leaves _ _ _ _ c.loop-home.invariant.0.size
    (right_leaf c.args.geometry c.args.units.now.entries c.args.groups.now.items c.args.homes.now c.loop-home.home-index
    c.loop-home.index c.loop-home.invariant.0.each (omega arith))

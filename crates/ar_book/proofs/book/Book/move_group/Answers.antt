use Rattle.std.proofs.Common.{◌≡◌, ◌<◌, ◌∙◌, length, sym, subst, ap, arith}
use Rattle.std.proofs.lemmas.List.{length-set}
use Rattle.ar_disks.specs.Geometry.{rows_of}
use Rattle.ar_book.specs.contracts.book.Book.{the_view}
use Rattle.ar_book.specs.declared.class.Class.TheVariants.{Free, Mirrored, Parity}
use Rattle.ar_book.specs.Tables.{Tables}
use Rattle.ar_book.proofs.IndexLemmas.{index_length, same_order}
use Rattle.ar_book.proofs.KeptLemmas.{still_few}
use Rattle.ar_book.proofs.GroupMoves.{can_move, moved_all, moved_tables, moved_leaves}
use Rattle.ar_book.proofs.book.Book.move_group.Goals as goal

pub refresh-requires : goal.refresh-requires
refresh-requires c =
    let t : Tables = the_view c.self.inside in
    let moved = moved_all t c.args.self.now c.move_slots.new.groups.items c.move_slots.new.units.entries c.args.from
    c.args.to c.self.invariant.kept.tables c.self.view_is c.requires.can c.move_slots.ensures.moved in
    record {
      few = still_few t _ c.self.invariant.kept.tables moved.groups;
      there = subst (λ n. c.args.to < n) (sym moved.groups)
          (can_move t c.args.self.now c.args.from c.args.to c.self.view_is c.requires.can).to_there;
      leaves = index_length t _ _ c.self.invariant ∙ sym moved.groups;
      right = same_order t.units _ _ moved.order c.self.invariant.right;
    }

pub refresh-requires-2 : goal.refresh-requires-2
refresh-requires-2 c =
    let t : Tables = the_view c.self.inside in
    let moved = moved_all t c.args.self.now c.move_slots.new.groups.items c.move_slots.new.units.entries c.args.from
    c.args.to c.self.invariant.kept.tables c.self.view_is c.requires.can c.move_slots.ensures.moved in
    record {
      few = still_few t _ c.self.invariant.kept.tables moved.groups;
      there = subst (λ n. c.args.from < n) (sym moved.groups)
          (can_move t c.args.self.now c.args.from c.args.to c.self.view_is c.requires.can).from_there;
      leaves = ap length c.refresh.ensures.set ∙ length-set _ _ _ ∙ index_length t _ _ c.self.invariant
          ∙ sym moved.groups;
      right = c.refresh.ensures.right;
    }

pub invariant_of-self : goal.invariant_of-self
invariant_of-self c =
    let t : Tables = the_view c.self.inside in
    let can = can_move t c.args.self.now c.args.from c.args.to c.self.view_is c.requires.can in
    let moved = moved_all t c.args.self.now c.move_slots.new.groups.items c.move_slots.new.units.entries c.args.from
    c.args.to c.self.invariant.kept.tables c.self.view_is c.requires.can c.move_slots.ensures.moved in
    record {
      kept = record { tables = moved.agree; total = c.self.invariant.kept.total ∙ sym moved.reserved };
      leaves = moved_leaves t _ c.args.from c.args.to _ _ _ _ can moved c.self.invariant.leaves c.refresh.ensures.set
          c.refresh-2.ensures.set;
      right = c.refresh-2.ensures.right;
    }

pub returns-clause-moved : goal.returns-clause-moved
returns-clause-moved c =
    moved_tables (the_view c.self.inside) c.args.self.now c.move_slots.new.groups.items c.move_slots.new.units.entries
    c.args.from c.args.to c.self.invariant.kept.tables c.self.view_is c.requires.can c.move_slots.ensures.moved

pub returns-clause-few : goal.returns-clause-few
returns-clause-few c most =
    let t : Tables = the_view c.self.inside in
    let can = can_move t c.args.self.now c.args.from c.args.to c.self.view_is c.requires.can in
    let moved = moved_all t c.args.self.now c.move_slots.new.groups.items c.move_slots.new.units.entries c.args.from
    c.args.to c.self.invariant.kept.tables c.self.view_is c.requires.can c.move_slots.ensures.moved in
    let count : length t.groups ≡ length c.args.self.now.groups = ap (λ (x : Tables). length x.groups) c.self.view_is in
    let rows : rows_of t.geometry ≡ rows_of c.args.self.now.geometry =
    ap (λ (x : Tables). rows_of x.geometry) c.self.view_is in
    let first = c.refresh.ensures.unscanned (omega (arith, moved.groups))
    (λ same. let e : Parity ≡ Mirrored = sym moved.opened ∙ same in absurd (cc)) in
    let second = c.refresh-2.ensures.unscanned (omega (arith, moved.groups))
    (λ same. let e : Free ≡ Mirrored = sym (moved.freed (omega arith)) ∙ same in absurd (cc)) in
    omega (arith, first, second, rows)

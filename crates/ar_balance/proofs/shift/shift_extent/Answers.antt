use Rattle.std.proofs.Common.{◌<◌, sym, ap, subst, ◌∙◌, rules}
use Rattle.ar_extents.specs.Set.{SetState}
use Rattle.ar_book.specs.Tables.{Tables}
use Rattle.ar_book.specs.Changes.{shifted}
use Rattle.ar_book.specs.Choices.{IsUnused}
use Rattle.ar_store.specs.Store.{StoreState, store_of}
use Rattle.ar_store.specs.Kept.{IsSpace}
use Rattle.ar_store.specs.Spaces.{store_in}
use Rattle.ar_balance.specs.Balance.{LeavesAll, switched}
use Rattle.ar_balance.specs.Measure.{balance_left}
use Rattle.ar_balance.proofs.Switching.{target_unused, space_cut, leaves_cut, space_switched, leaves_switched}
use Rattle.ar_balance.proofs.Falling.{shifted_falls}
use Rattle.ar_balance.proofs.shift.shift_extent.Goals as goal

pub returns-then-not-fill-clause-space : goal.returns-then-not-fill-clause-space
returns-then-not-fill-clause-space g c =
    let s = c.args.space.now in
    let x = c.args.shift in
    let b = c.fill.new.space.disks in
    subst (λ (t : Tables). IsSpace (store_of b t)) (sym c.fill.ensures.book)
    (space_cut s.disks s.book x.group x.position x.from x.to c.health-health.ensures.kept c.requires.space
    c.requires.names b (c.fill.ensures.cut c.if-not-fill.true))

pub returns-then-not-fill-clause-done : goal.returns-then-not-fill-clause-done
returns-then-not-fill-clause-done g c =
    let s = c.args.space.now in
    let x = c.args.shift in
    let b = c.fill.new.space.disks in
    let fills = c.fill.ensures in
    let failed = c.if-not-fill.true in
    record {
      does = search rules;
      less = tt;
      leaves = subst (λ (t : Tables). LeavesAll (store_of s.disks s.book) (store_of b t)) (sym fills.book)
          (leaves_cut s.disks s.book x.group x.position x.from x.to c.health-health.ensures.kept c.requires.space
          c.requires.names b (fills.cut failed));
    }

pub switch-requires-clause-unused : goal.switch-requires-clause-unused
switch-requires-clause-unused g c =
    let s = c.args.space.now in
    let x = c.args.shift in
    subst (λ (t : Tables). IsUnused t x.to) (sym c.fill.ensures.book)
    (target_unused s.disks s.book x.group x.position x.from x.to c.health-health.ensures.kept c.requires.space
    c.requires.names)

pub returns-clause-done : goal.returns-clause-done
returns-clause-done g c =
    let s = c.args.space.now in
    let x = c.args.shift in
    let b = c.fill.new.space.disks in
    let kept = c.health-health.ensures.kept in
    let filled = c.fill.ensures.filled c.if-not-fill.false in
    let tables = ap (λ (d : SetState). store_of d c.switch.new.space.book) c.switch.ensures.disks
    ∙ ap (λ (t : Tables). store_of (switched b x.from x.to) t)
    (c.switch.ensures.book ∙ ap (λ (t : Tables). shifted t x.group x.position x.to) c.fill.ensures.book) in
    record {
      does = search rules;
      less = subst (λ (d : SetState). balance_left d < balance_left s.disks) (sym c.switch.ensures.disks)
          (shifted_falls s.disks b s.book x.group x.position x.from x.to kept c.requires.space c.requires.names filled);
      leaves = subst (λ (y : StoreState). LeavesAll (store_in s) y) (sym tables)
          (leaves_switched s.disks s.book x.group x.position x.from x.to kept c.requires.space c.requires.names b
          filled);
    }

pub returns-clause-space : goal.returns-clause-space
returns-clause-space g c =
    let s = c.args.space.now in
    let x = c.args.shift in
    let b = c.fill.new.space.disks in
    let is = c.switch.ensures.book ∙ ap (λ (t : Tables). shifted t x.group x.position x.to) c.fill.ensures.book in
    subst (λ (d : SetState). IsSpace (store_of d c.switch.new.space.book)) (sym c.switch.ensures.disks)
    (subst (λ (t : Tables). IsSpace (store_of (switched b x.from x.to) t)) (sym is)
    (space_switched s.disks s.book x.group x.position x.from x.to c.health-health.ensures.kept c.requires.space
    c.requires.names b
    (c.fill.ensures.filled c.if-not-fill.false)))

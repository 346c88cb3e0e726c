use Rattle.std.proofs.Common.{◌<◌, sym, ap, subst, ◌∙◌, rules}
use Rattle.ar_extents.specs.Set.{SetState}
use Rattle.ar_book.specs.Tables.{Tables}
use Rattle.ar_store.specs.Store.{StoreState, store_of}
use Rattle.ar_store.specs.Kept.{IsSpace}
use Rattle.ar_store.specs.Spaces.{store_in}
use Rattle.ar_store.specs.Forming.{without}
use Rattle.ar_balance.specs.Balance.{LeavesAll}
use Rattle.ar_balance.specs.Measure.{balance_left}
use Rattle.ar_balance.proofs.Forming.{fullest_unused, space_formed, leaves_formed}
use Rattle.ar_balance.proofs.Less.{formed_falls}
use Rattle.ar_balance.proofs.form.form.Goals as goal

pub form_group-requires-clause-unused : goal.form_group-requires-clause-unused
form_group-requires-clause-unused g c =
    let s = c.args.space.now in
    fullest_unused s.disks s.book c.args.members c.health-health.ensures.kept c.requires.space c.requires.fullest

pub returns-in-Ok-clause-done : goal.returns-in-Ok-clause-done
returns-in-Ok-clause-done g c =
    let s = c.args.space.now in
    let m = c.args.members in
    let kept = c.health-health.ensures.kept in
    let formed = ap (λ (x : SetState). store_of x c.form_group.new.self) c.take_members.ensures
    ∙ ap (λ (t : Tables). store_of (without s.disks m) t) c.in-Ok.ensures.formed in
    record {
      does = search rules;
      less = subst (λ (x : SetState). balance_left x < balance_left s.disks) (sym c.take_members.ensures)
          (formed_falls s.disks m kept c.requires.fullest);
      leaves = subst (λ (x : StoreState). LeavesAll (store_in s) x) (sym formed)
          (leaves_formed s.disks s.book m kept c.requires.space c.requires.fullest);
    }

pub returns-in-Ok-clause-space : goal.returns-in-Ok-clause-space
returns-in-Ok-clause-space g c =
    let s = c.args.space.now in
    subst (λ (x : SetState). IsSpace (store_of x c.form_group.new.self)) (sym c.take_members.ensures)
    (subst (λ (t : Tables). IsSpace (store_of (without s.disks c.args.members) t)) (sym c.in-Ok.ensures.formed)
    (space_formed s.disks s.book c.args.members c.health-health.ensures.kept c.requires.space c.requires.fullest))

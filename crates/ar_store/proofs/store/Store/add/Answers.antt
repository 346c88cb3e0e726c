use Rattle.std.proofs.Common.{refl, subst}
use Rattle.ar_extents.specs.Set.{SetState}
use Rattle.ar_extents.specs.Changes.{added}
use Rattle.ar_store.specs.Store.{StoreState, store_of}
use Rattle.ar_store.specs.Slots.{AllStand, KeepsContents}
use Rattle.ar_store.specs.Kept.{FieldsAgree}
use Rattle.ar_store.proofs.Outages.{after_failing}
use Rattle.ar_store.proofs.Adding.{fields_added, all_added}
use Rattle.ar_store.proofs.store.Store.add.Goals as goal

pub invariant_of-self : goal.invariant_of-self
invariant_of-self g c =
    let a = c.self.inside.space.disks in
    let t = c.self.inside.space.book in
    let call = c.add.ensures in
    let disk = g.D.Disk.state c.args.disk in
    after_failing c.add.result
    (λ (s : SetState). FieldsAgree (store_of s t) c.self.inside.block c.self.inside.space.scratch.geometry)
    a c.add.new.self (added a disk) call.added call.unchanged
    (fields_added a disk t c.self.inside.block c.self.inside.space.scratch.geometry c.health-health.ensures.kept.tables
    c.self.invariant)
    c.self.invariant

pub returns-clause-keeps : goal.returns-clause-keeps
returns-clause-keeps g c =
    let a = c.self.inside.space.disks in
    let t = c.self.inside.space.book in
    let call = c.add.ensures in
    let disk = g.D.Disk.state c.args.disk in
    subst (λ (s : StoreState). KeepsContents s (store_of c.add.new.self t)) c.self.view_is
    (record {
      book = refl;
      stands = after_failing c.add.result (λ (s : SetState). AllStand (store_of a t) (store_of s t)) a c.add.new.self
          (added a disk)
          call.added call.unchanged (all_added a disk t c.self.invariant.kept.space c.health-health.ensures.kept.tables)
          (record { blocks = λ sound k. refl });
    })

use Rattle.std.proofs.Common.{refl, subst}
use Rattle.ar_extents.specs.Set.{SetState}
use Rattle.ar_extents.specs.Changes.{failed}
use Rattle.ar_store.specs.Store.{StoreState, store_of}
use Rattle.ar_store.specs.Slots.{AllStand, KeepsContents}
use Rattle.ar_store.specs.Kept.{FieldsAgree}
use Rattle.ar_store.proofs.Outages.{fields_failed, all_failed, after_failing}
use Rattle.ar_store.proofs.store.Store.fail.Goals as goal

pub invariant_of-self : goal.invariant_of-self
invariant_of-self g c =
    let a = c.self.inside.space.disks in
    let t = c.self.inside.space.book in
    let call = c.fail.ensures in
    after_failing c.fail.result
    (λ (s : SetState). FieldsAgree (store_of s t) c.self.inside.block c.self.inside.space.scratch.geometry)
    a c.fail.new.self (failed a c.args.disk) call.failed call.unchanged
    (fields_failed a t c.args.disk c.self.inside.block c.self.inside.space.scratch.geometry c.self.invariant)
    c.self.invariant

pub returns-clause-keeps : goal.returns-clause-keeps
returns-clause-keeps g c =
    let a = c.self.inside.space.disks in
    let t = c.self.inside.space.book in
    let call = c.fail.ensures in
    subst (λ (s : StoreState). KeepsContents s (store_of c.fail.new.self t)) c.self.view_is
    (record {
      book = refl;
      stands = after_failing c.fail.result (λ (s : SetState). AllStand (store_of a t) (store_of s t)) a c.fail.new.self
          (failed a c.args.disk)
          call.failed call.unchanged (all_failed a t c.args.disk c.self.invariant.kept.space)
          (record { blocks = λ sound k. refl });
    })

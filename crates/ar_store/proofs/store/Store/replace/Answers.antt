use Rattle.std.proofs.Common.{◌≡◌, None, refl, subst}
use Rattle.ar_extents.specs.Set.{SetState}
use Rattle.ar_extents.specs.Changes.{replace_refusal, replaced}
use Rattle.ar_store.specs.Store.{StoreState, store_of}
use Rattle.ar_store.specs.Slots.{AllStand, KeepsContents, SlotsHold}
use Rattle.ar_store.specs.Kept.{FieldsAgree}
use Rattle.ar_store.proofs.Replacing.{slots_replaced, fields_replaced, all_replaced}
use Rattle.ar_store.proofs.Options.{after_call}
use Rattle.ar_store.proofs.store.Store.replace.Goals as goal

pub invariant_of-self : goal.invariant_of-self
invariant_of-self g c =
    let a = c.self.inside.space.disks in
    let t = c.self.inside.space.book in
    let disk = g.D.Disk.state c.args.disk in
    let call = c.replace.ensures in
    after_call c.replace.result
    (λ (s : SetState). FieldsAgree (store_of s t) c.self.inside.block c.self.inside.space.scratch.geometry)
    (replace_refusal a c.args.number disk ≡ None) a c.replace.new.self (replaced a c.args.number disk) call.replaced
    call.unchanged call.taken
    (λ taken. fields_replaced a t c.args.number disk taken c.self.inside.block c.self.inside.space.scratch.geometry
    c.self.invariant)
    c.self.invariant

pub returns-clause-keeps : goal.returns-clause-keeps
returns-clause-keeps g c =
    let a = c.self.inside.space.disks in
    let t = c.self.inside.space.book in
    let disk = g.D.Disk.state c.args.disk in
    let call = c.replace.ensures in
    subst (λ (s : StoreState). KeepsContents s (store_of c.replace.new.self t)) c.self.view_is
    (record {
      book = refl;
      stands = after_call c.replace.result (λ (s : SetState). AllStand (store_of a t) (store_of s t))
          (replace_refusal a c.args.number disk ≡ None) a c.replace.new.self (replaced a c.args.number disk) call.replaced
          call.unchanged call.taken
          (λ taken. all_replaced a t c.args.number disk taken c.self.invariant.kept.space)
          (record { blocks = λ sound k. refl });
    })

pub returns-clause-slots : goal.returns-clause-slots
returns-clause-slots g c =
    let a = c.self.inside.space.disks in
    let t = c.self.inside.space.book in
    let disk = g.D.Disk.state c.args.disk in
    let call = c.replace.ensures in
    subst (λ (s : StoreState). SlotsHold s (store_of c.replace.new.self t)) c.self.view_is
    (after_call c.replace.result (λ (s : SetState). SlotsHold (store_of a t) (store_of s t))
    (replace_refusal a c.args.number disk ≡ None) a c.replace.new.self (replaced a c.args.number disk) call.replaced
    call.unchanged call.taken
    (λ taken. slots_replaced a t c.args.number disk taken) (record { slots = λ slot bytes has holds. holds }))

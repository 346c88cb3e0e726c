use Rattle.std.proofs.Common.{◌≡◌, None, refl, subst, arith}
use Rattle.ar_book.specs.Tables.{Tables}
use Rattle.ar_book.specs.Changes.{grown}
use Rattle.ar_book.specs.Refusals.{unit_grow_refusal}
use Rattle.ar_store.specs.Store.{StoreState, store_of}
use Rattle.ar_store.specs.Slots.{stands}
use Rattle.ar_store.specs.Kept.{FieldsAgree}
use Rattle.ar_store.proofs.UnitChanges.{fields_same, space_grown, all_grown}
use Rattle.ar_store.proofs.Options.{after_call}
use Rattle.ar_store.proofs.store.Store.grow.Goals as goal

pub invariant_of-self : goal.invariant_of-self
invariant_of-self g c =
    let a = c.self.inside.space.disks in
    let t = c.self.inside.space.book in
    let call = c.grow.ensures in
    after_call c.grow.result
    (λ (u : Tables). FieldsAgree (store_of a u) c.self.inside.block c.self.inside.space.scratch.geometry)
    (unit_grow_refusal t c.args.addr c.args.sectors ≡ None) t c.grow.new.self (grown t c.args.addr c.args.sectors)
    call.grown call.unchanged call.granted
    (λ granted.
    fields_same a t (grown t c.args.addr c.args.sectors) c.self.inside.block c.self.inside.space.scratch.geometry
    c.self.invariant
    (space_grown a t c.args.addr c.args.sectors c.self.invariant.kept.space granted) (omega arith))
    c.self.invariant

pub returns-clause-stands : goal.returns-clause-stands
returns-clause-stands g c = λ k.
    let a = c.self.inside.space.disks in
    let t = c.self.inside.space.book in
    let call = c.grow.ensures in
    subst (λ (s : StoreState). stands (store_of a c.grow.new.self) k ≡ stands s k) c.self.view_is
    (after_call c.grow.result (λ (u : Tables). stands (store_of a u) k ≡ stands (store_of a t) k)
    (unit_grow_refusal t c.args.addr c.args.sectors ≡ None) t c.grow.new.self (grown t c.args.addr c.args.sectors)
    call.grown call.unchanged call.granted
    (λ granted. all_grown a t c.args.addr c.args.sectors c.self.invariant.kept.space k) refl)

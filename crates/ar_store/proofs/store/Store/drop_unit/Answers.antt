use Rattle.std.proofs.Common.{◌≡◌, IsTrue, refl, subst}
use Rattle.ar_book.specs.Tables.{Tables, has_unit}
use Rattle.ar_book.specs.Changes.{dropped}
use Rattle.ar_disks.specs.Block.{zeros}
use Rattle.ar_disks.specs.Geometry.{block_len_of}
use Rattle.ar_store.specs.Store.{StoreState, store_of}
use Rattle.ar_store.specs.Slots.{stands}
use Rattle.ar_store.specs.Kept.{FieldsAgree}
use Rattle.ar_store.proofs.UnitChanges.{fields_same, space_dropped, free_dropped, others_dropped, own_after}
use Rattle.ar_store.proofs.Options.{after_call}
use Rattle.ar_store.proofs.UnitChanges.{on_ok}
use Rattle.ar_store.proofs.store.Store.drop_unit.Goals as goal

pub invariant_of-self : goal.invariant_of-self
invariant_of-self g c =
    let a = c.self.inside.space.disks in
    let t = c.self.inside.space.book in
    let call = c.drop_unit.ensures in
    let space = c.self.invariant.kept.space in
    after_call c.drop_unit.result
    (λ (u : Tables). FieldsAgree (store_of a u) c.self.inside.block c.self.inside.space.scratch.geometry)
    (IsTrue (has_unit t c.args.addr)) t c.drop_unit.new.self (dropped t c.args.addr) call.dropped call.unchanged
    (on_ok c.drop_unit.result (IsTrue (has_unit t c.args.addr)) call.there.0)
    (λ there.
    fields_same a t (dropped t c.args.addr) c.self.inside.block c.self.inside.space.scratch.geometry c.self.invariant
    (space_dropped a t c.args.addr space there) (free_dropped a t c.args.addr space))
    c.self.invariant

pub returns-clause-others : goal.returns-clause-others
returns-clause-others g c = λ k ne.
    let a = c.self.inside.space.disks in
    let t = c.self.inside.space.book in
    let call = c.drop_unit.ensures in
    subst (λ (s : StoreState). stands (store_of a c.drop_unit.new.self) k ≡ stands s k) c.self.view_is
    (after_call c.drop_unit.result (λ (u : Tables). stands (store_of a u) k ≡ stands (store_of a t) k)
    (IsTrue (has_unit t c.args.addr)) t c.drop_unit.new.self (dropped t c.args.addr) call.dropped call.unchanged
    (on_ok c.drop_unit.result (IsTrue (has_unit t c.args.addr)) call.there.0)
    (λ there. others_dropped a t c.args.addr c.self.invariant.kept.space k ne) refl)

pub returns-clause-zeros : goal.returns-clause-zeros
returns-clause-zeros g c = λ k own.
    let a = c.self.inside.space.disks in
    let t = c.self.inside.space.book in
    let call = c.drop_unit.ensures in
    subst (λ (s : StoreState). stands (store_of a c.drop_unit.new.self) k ≡ zeros (block_len_of s.disks.geometry))
    c.self.view_is
    (own_after c.drop_unit.result a t c.drop_unit.new.self c.args.addr c.self.invariant.kept.space
    call.there call.dropped call.unchanged k own)

use Rattle.std.proofs.Common.{◌≡◌, sym, ap, subst, ◌∙◌}
use Rattle.ar_disks.specs.Block.{zeros}
use Rattle.ar_disks.specs.Geometry.{block_len_of}
use Rattle.ar_book.specs.Tables.{Tables, HasBlock}
use Rattle.ar_book.specs.Changes.{released}
use Rattle.ar_store.specs.Store.{StoreState, store_of}
use Rattle.ar_store.specs.Slots.{stands}
use Rattle.ar_store.specs.Placing.{SameUnits}
use Rattle.ar_store.specs.Kept.{FieldsAgree}
use Rattle.ar_store.proofs.UnitChanges.{fields_same, space_released, others_released, own_released, units_released}
use Rattle.ar_book.proofs.AfterRelease.{released_free_groups}
use Rattle.ar_store.proofs.store.Store.release.Goals as goal

pub invariant_of-self : goal.invariant_of-self
invariant_of-self g c =
    let a = c.self.inside.space.disks in
    let t = c.self.inside.space.book in
    let block : HasBlock t c.args.key = subst (λ (s : StoreState). HasBlock s.book c.args.key) (sym c.self.view_is)
    c.requires in
    subst (λ (u : Tables). FieldsAgree (store_of a u) c.self.inside.block c.self.inside.space.scratch.geometry)
    (sym c.release.ensures.released)
    (fields_same a t (released t c.args.key) c.self.inside.block c.self.inside.space.scratch.geometry c.self.invariant
    (space_released a t c.args.key c.self.invariant.kept.space block) (released_free_groups t c.args.key))

pub returns-clause-units : goal.returns-clause-units
returns-clause-units g c =
    let t = c.self.inside.space.book in
    let block : HasBlock t c.args.key = subst (λ (s : StoreState). HasBlock s.book c.args.key) (sym c.self.view_is)
    c.requires in
    subst (λ (s : StoreState). SameUnits s.book c.release.new.self) c.self.view_is
    (subst (λ (u : Tables). SameUnits t u) (sym c.release.ensures.released)
    (units_released c.self.inside.space.disks t c.args.key c.self.invariant.kept.space block))

pub returns-clause-others : goal.returns-clause-others
returns-clause-others g c = λ k other.
    let a = c.self.inside.space.disks in
    let t = c.self.inside.space.book in
    let block : HasBlock t c.args.key = subst (λ (s : StoreState). HasBlock s.book c.args.key) (sym c.self.view_is)
    c.requires in
    subst (λ (s : StoreState). stands (store_of a c.release.new.self) k ≡ stands s k) c.self.view_is
    (ap (λ (u : Tables). stands (store_of a u) k) c.release.ensures.released
    ∙ others_released a t c.args.key c.self.invariant.kept.space block k other)

pub returns-clause-zeros : goal.returns-clause-zeros
returns-clause-zeros g c =
    let a = c.self.inside.space.disks in
    let t = c.self.inside.space.book in
    let block : HasBlock t c.args.key = subst (λ (s : StoreState). HasBlock s.book c.args.key) (sym c.self.view_is)
    c.requires in
    subst (λ (s : StoreState). stands (store_of a c.release.new.self) c.args.key
    ≡ zeros (block_len_of s.disks.geometry)) c.self.view_is
    (ap (λ (u : Tables). stands (store_of a u) c.args.key) c.release.ensures.released
    ∙ own_released a t c.args.key c.self.invariant.kept.space block)

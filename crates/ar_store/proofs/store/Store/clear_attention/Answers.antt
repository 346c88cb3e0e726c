use Rattle.std.proofs.Common.{◌≡◌, sym, ap, subst, ◌∙◌, arith}
use Rattle.ar_book.specs.Tables.{Tables}
use Rattle.ar_book.specs.Changes.{unmarked}
use Rattle.ar_store.specs.Store.{StoreState, store_of}
use Rattle.ar_store.specs.Slots.{stands}
use Rattle.ar_store.specs.Kept.{FieldsAgree}
use Rattle.ar_store.proofs.UnitChanges.{fields_same, space_unmarked, all_unmarked}
use Rattle.ar_store.proofs.store.Store.clear_attention.Goals as goal

pub invariant_of-self : goal.invariant_of-self
invariant_of-self g c =
    let a = c.self.inside.space.disks in
    let t = c.self.inside.space.book in
    subst (λ (u : Tables). FieldsAgree (store_of a u) c.self.inside.block c.self.inside.space.scratch.geometry)
    (sym c.clear_attention.ensures)
    (fields_same a t (unmarked t c.args.addr) c.self.inside.block c.self.inside.space.scratch.geometry c.self.invariant
    (space_unmarked a t c.args.addr c.self.invariant.kept.space) (omega arith))

pub returns-clause-stands : goal.returns-clause-stands
returns-clause-stands g c = λ k.
    let a = c.self.inside.space.disks in
    let t = c.self.inside.space.book in
    subst (λ (s : StoreState). stands (store_of a c.clear_attention.new.self) k ≡ stands s k) c.self.view_is
    (ap (λ (u : Tables). stands (store_of a u) k) c.clear_attention.ensures
    ∙ all_unmarked a t c.args.addr c.self.invariant.kept.space k)

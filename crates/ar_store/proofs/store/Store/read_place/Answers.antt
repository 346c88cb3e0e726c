use Rattle.std.proofs.Common.{refl, subst}
use Rattle.ar_store.specs.Store.{StoreState, store_of}
use Rattle.ar_store.specs.Slots.{KeepsContents}
use Rattle.ar_store.specs.Calls.{IsAccessed}
use Rattle.ar_extents.proofs.Asking.{read_changes_none}
use Rattle.ar_store.proofs.SlotCalls.{read_leaves}
use Rattle.ar_store.proofs.Fills.{accessed_read}
use Rattle.ar_store.proofs.Fields.{fields_read}
use Rattle.ar_store.proofs.store.Store.read_place.Goals as goal

pub invariant_of-self : goal.invariant_of-self
invariant_of-self g c =
    let a = c.self.inside.space in
    let b = c.get.new.self in
    let read = c.get.ensures in
    fields_read a b c.self.inside.block c.self.invariant (accessed_read c.args.place c.args.row _ a.disks b read.made)
    (read_changes_none c.args.place c.args.row _ a.disks b read.made)

pub returns-clause-keeps : goal.returns-clause-keeps
returns-clause-keeps g c =
    let a = c.self.inside.space in
    let b = c.get.new.self in
    let read = c.get.ensures in
    let leaves = read_leaves a.disks b a.book c.self.invariant.kept.space
    (accessed_read c.args.place c.args.row _ a.disks b read.made)
    (read_changes_none c.args.place c.args.row _ a.disks b read.made) in
    subst (λ (s : StoreState). KeepsContents s (store_of b a.book)) c.self.view_is
    (record { book = refl; stands = leaves.stand })

pub returns-clause-accessed : goal.returns-clause-accessed
returns-clause-accessed g c =
    let a = c.self.inside.space in
    let b = c.get.new.self in
    let read = c.get.ensures in
    subst (λ (s : StoreState). IsAccessed s.disks b) c.self.view_is
    (accessed_read c.args.place c.args.row _ a.disks b read.made)

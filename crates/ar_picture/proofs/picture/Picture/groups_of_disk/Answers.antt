use Rattle.std.proofs.Common.{◌<◌, List, length, subst}
use Rattle.ar_picture.proofs.GroupLemmas.{entry_next}
use Rattle.ar_picture.specs.declared.picture.Group.{Group}
use Rattle.ar_picture.proofs.picture.Picture.groups_of_disk.Goals as goal

pub loop-number-preserved : goal.loop-number-preserved
loop-number-preserved c = λ extent below.
    let groups = c.args.self.now.groups.items in
    let same = c.deref-group-items.ensures.value in
    let number = c.loop-number.number in
    let there : number < length groups =
    subst (λ (xs : List Group). number < length xs) same c.loop-number-test.true in
    entry_next groups number _ (record { disk = c.args.disk; extent = extent }) _ _ there
    (rw same at c.list_group.ensures extent) (c.loop-number.invariant extent below)

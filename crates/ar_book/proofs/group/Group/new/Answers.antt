use Rattle.std.proofs.Common.{◌≡◌, None, replicate, rules}
use Rattle.ar_book.proofs.Masks.{marked_new}
use Rattle.ar_book.proofs.group.Group.new.Goals as goal

pub invariant_of-result : goal.invariant_of-result
invariant_of-result c =
    let blank : c.in_ok-vec.field-0.items ≡ replicate c.args.slots None =
    c.in_ok-vec.ensures.items_if_clones_equal (search rules) in
    rw blank (marked_new c.args.slots c.requires)

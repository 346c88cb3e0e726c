use Rattle.std.proofs.Common.{rules, ◌≡◌, sym, subst, replicate}
use Rattle.ar_answers.specs.Pictures.{held_at}
use Rattle.ar_answers.proofs.Counting.{nothing, fresh_of}
use Rattle.ar_answers.proofs.drawing.picture_of.Goals as goal

pub units_of-requires-clause-fresh : goal.units_of-requires-clause-fresh
units_of-requires-clause-fresh g c = λ group place.
    let are : c.in_ok-held.held.items ≡ replicate c.len.result nothing =
    c.in_ok-held.ensures.items_if_clones_equal (search rules) in
    subst (λ held. held_at held group place ≡ 0) (sym are) (fresh_of c.len.result group place)

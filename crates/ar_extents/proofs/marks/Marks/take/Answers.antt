use Rattle.std.proofs.Common.{◌≡◌, Some, List, Bool, position, sym, subst, ◌∙◌, arith}
use Rattle.ar_extents.proofs.LooseLemmas.{one_fewer, none_up_to}
use Rattle.ar_extents.proofs.marks.Marks.take.Goals as goal

pub overflow_sub-self : goal.overflow_sub-self
overflow_sub-self c =
    let lowest = subst (λ (marks : List Bool). position (λ mark. mark) marks ≡ Some c.in_ok-extent.extent)
    (sym c.self.view_is) (sym c.lowest.ensures ∙ c.in_ok-extent.was) in
    let fewer = one_fewer c.self.inside.marks.items c.in_ok-extent.extent lowest in
    omega (arith, c.self.invariant.0)

pub invariant_of-self : goal.invariant_of-self
invariant_of-self c =
    let lowest = subst (λ (marks : List Bool). position (λ mark. mark) marks ≡ Some c.in_ok-extent.extent)
    (sym c.self.view_is) (sym c.lowest.ensures ∙ c.in_ok-extent.was) in
    let fewer = one_fewer c.self.inside.marks.items c.in_ok-extent.extent lowest in (
      omega (arith, c.self.invariant.0),
      none_up_to c.self.inside.marks.items c.in_ok-extent.extent lowest,
    )

use Rattle.std.proofs.Common.{arith, ◌≡◌, ◌<◌, ◌+◌, ◌∙◌, ap, ℕ, length, get_or}
use Rattle.std.proofs.lemmas.List.{get_or_default}
use Rattle.ar_picture.specs.declared.picture.Held.{Held}
use Rattle.ar_answers.specs.Pictures.{held_at}
use Rattle.ar_answers.proofs.Counting.{no_held, added}
use Rattle.ar_answers.proofs.drawing.count.Goals as goal

pub returns-then-group-len : goal.returns-then-group-len
returns-then-group-len c =
    let held = c.args.held.now.items in
    let group = c.args.group in
    let place = c.args.place in
    let there : group < length held = (let many = c.len.ensures in let below = c.if-group-len.true in omega arith) in
    let same : c.index_mut.result.now ≡ get_or held group no_held =
    c.index_mut.ensures.value ∙ get_or_default held group c.index_mut.result.now no_held there in
    let was : (at : ℕ) → get_or c.index_mut.result.now.blocks at 0 ≡ held_at held group at =
    λ at. ap (λ (h : Held). get_or h.blocks at 0) same in
    let one : get_or c.add.new.self.blocks place 0 ≡ get_or c.index_mut.result.now.blocks place 0 + 1 =
    c.add.ensures.one in
    added held group place c.add.new.self there
    (one ∙ ap (λ (n : ℕ). n + 1) (was place))
    (λ other ne. c.add.ensures.others other ne ∙ was other)

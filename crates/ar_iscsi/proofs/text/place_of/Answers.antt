use Rattle.std.proofs.Common.{◌∙◌, ◌≤◌, length, ap, unwrap_or, rules, tests, arith}
use Rattle.std.specs.Prelude.{◌==◌}
use Rattle.std.proofs.lemmas.Iterator.{YieldsList-from_slice}
use Rattle.std.proofs.lemmas.Iterator.Search.{position_from_yields_List}
use Rattle.std.proofs.lemmas.List.Sums.{prefix_len-le-length}
use Rattle.std.specs.List.{position_or_len}
use Rattle.ar_iscsi.proofs.Items.{found_place}
use Rattle.ar_iscsi.proofs.text.place_of.Goals as goal

pub returns-clause-first : goal.returns-clause-first
returns-clause-first c =
    let text = c.args.text.now in
    let byte = c.args.byte in
    let found = position_from_yields_List (λ b. b == byte) _ _ _ c.position.ensures.ran
    (YieldsList-from_slice text c.iter.ensures.rest) (λ x r q k. search (rules, tests)) in
    c.unwrap_or.ensures ∙ ap (λ o. unwrap_or o (length text)) found
    ∙ found_place (position_or_len (λ b. b == byte) text) (length text) (prefix_len-le-length _ text)

pub returns-clause-within : goal.returns-clause-within
returns-clause-within c =
    let first = returns-clause-first c in
    let text = c.args.text.now in
    let within : position_or_len (λ b. b == c.args.byte) text ≤ length text = prefix_len-le-length _ text in
    omega (arith, first, within)

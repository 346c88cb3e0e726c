use Rattle.std.proofs.Common.{◌∙◌, length, ap, unwrap_or, rules, tests}
use Rattle.std.proofs.lemmas.Iterator.{YieldsList-from_slice}
use Rattle.std.proofs.lemmas.Iterator.Search.{position_from_yields_List}
use Rattle.std.specs.List.{position_or_len}
use Rattle.ar_language.proofs.Gathering.{found_or}
use Rattle.ar_language.proofs.Parting.{is_hidden, shown_front, hidden_within}
use Rattle.ar_language.proofs.scan.near_len.Goals as goal

pub returns : goal.returns
returns c =
    let bytes = c.args.bytes.now in
    let found = position_from_yields_List is_hidden _ _ _ c.position.ensures.ran
    (YieldsList-from_slice bytes c.iter.ensures.rest) (λ x r q k. search (rules, tests)) in
    c.unwrap_or.ensures ∙ ap (λ o. unwrap_or o (length bytes)) found
    ∙ found_or (position_or_len is_hidden bytes) (length bytes) (hidden_within bytes)
    ∙ shown_front bytes

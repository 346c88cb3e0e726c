use Rattle.std.proofs.Common.{◌∙◌, length, ap, unwrap_or, rules, tests}
use Rattle.std.proofs.lemmas.Iterator.{YieldsList-from_slice}
use Rattle.std.proofs.lemmas.Iterator.Search.{position_from_yields_List}
use Rattle.std.specs.List.{position_or_len}
use Rattle.ar_language.proofs.Gathering.{is_space, found_or, no_further}
use Rattle.ar_language.proofs.words.word_end.Goals as goal

pub returns : goal.returns
returns c =
    let bytes = c.as_bytes-bytes.result.now in
    let found = position_from_yields_List is_space _ _ _ c.position.ensures.ran
    (YieldsList-from_slice bytes c.iter.ensures.rest) (λ x r q k. search (rules, tests)) in
    c.unwrap_or.ensures ∙ ap (λ o. unwrap_or o (length bytes)) found
    ∙ found_or (position_or_len is_space bytes) (length bytes) (no_further bytes)
    ∙ ap (position_or_len is_space) c.as_bytes-bytes.ensures.value

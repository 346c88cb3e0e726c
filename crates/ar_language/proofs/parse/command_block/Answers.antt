use Rattle.std.proofs.Common.{◌≡◌, rules, length, inl, inr, refl}
use Rattle.ar_language.specs.Forms.{empty_data}
use Rattle.ar_language.proofs.ParseLemmas.{gives_as}
use Rattle.ar_language.proofs.parse.command_block.Goals as goal

pub returns-in-len3 : goal.returns-in-len3
returns-in-len3 c =
    let three : length c.args.arguments.now ≡ 3 = search rules in
    gives_as _ _ _ _ _
    (λ are. record { count = inl three; address = are.address; block = are.block_word })
    (λ has. record { address = has.address; block_word = has.block })
    (λ order asked. (asked.0, asked.1, empty_data, asked.2, asked.3, inl (three, refl), asked.4))
    c.block_with.ensures

pub returns-in_ok-data-in-len5 : goal.returns-in_ok-data-in-len5
returns-in_ok-data-in-len5 c =
    let five : length c.args.arguments.now ≡ 5 = search rules in
    let given = c.in_ok-data-in-len5.ensures in
    gives_as _ _ _ _ _
    (λ are. record { count = inr (five, search rules, search rules); address = are.address; block = are.block_word })
    (λ has. record { address = has.address; block_word = has.block })
    (λ order asked. (
      asked.0,
      asked.1,
      c.in_ok-data-in-len5.field-0,
      asked.2,
      asked.3,
      inr (five, search rules, search rules),
      asked.4,
    ))
    c.block_with-in-len5.ensures

use Rattle.std.proofs.Common.{◌≡◌, replicate, refl, rules}
use Rattle.ar_index.proofs.Sets.{all_blank}
use Rattle.ar_index.proofs.bits.Bits.with_words.Goals as goal

pub invariant_of-result : goal.invariant_of-result
invariant_of-result c =
    let words : c.in_ok-vec.field-0.items ≡ replicate c.args.words 0 =
    c.in_ok-vec.ensures.items_if_clones_equal (search rules) in
    let tops : c.in_ok-vec-2.field-0.items ≡ replicate _ 0 =
    c.in_ok-vec-2.ensures.items_if_clones_equal (search rules) in
    let peaks : c.in_ok-vec-3.field-0.items ≡ replicate _ 0 =
    c.in_ok-vec-3.ensures.items_if_clones_equal (search rules) in
    rw (words, tops, peaks) (all_blank c.args.words _ _ refl refl c.requires)

use Rattle.std.proofs.Common.{◌≡◌, ◌+◌, ◌*◌, ◌/◌, ◌∙◌, None, replicate, ap, rules, arith}
use Rattle.ar_index.specs.Tree.{leaves}
use Rattle.ar_index.proofs.Growth.{blank_leaves, blank_right, blank_kept, blank_is}
use Rattle.ar_index.proofs.tree.Tree.blank.Goals as goal

pub invariant_of-result : goal.invariant_of-result
invariant_of-result c =
    let nodes : c.in_ok-vec.field-0.items ≡ replicate (2 * c.args.size) None =
    c.in_ok-vec.ensures.items_if_clones_equal (search rules) in
    rw (nodes, c.in_ok-with_words.ensures, c.in_ok-with_words-2.ensures, c.in_ok-with_words-3.ensures)
    (blank_kept c.args.size c.args.count ((c.args.size + 63) / 64) c.requires.height.0 c.requires.height.1
    c.requires.within c.requires.close (omega (arith, c.requires.within, c.requires.few)) (omega arith)
    (omega arith))

pub returns-clause-leaves : goal.returns-clause-leaves
returns-clause-leaves c =
    let nodes : c.in_ok-vec.field-0.items ≡ replicate (2 * c.args.size) None =
    c.in_ok-vec.ensures.items_if_clones_equal (search rules) in
    let same = blank_is c.args.size c.args.count ((c.args.size + 63) / 64) _ _ _ _ nodes c.in_ok-with_words.ensures
    c.in_ok-with_words-2.ensures c.in_ok-with_words-3.ensures in
    ap leaves same ∙ blank_leaves c.args.size c.args.count ((c.args.size + 63) / 64)

pub returns-clause-right : goal.returns-clause-right
returns-clause-right c =
    let nodes : c.in_ok-vec.field-0.items ≡ replicate (2 * c.args.size) None =
    c.in_ok-vec.ensures.items_if_clones_equal (search rules) in
    rw (nodes, c.in_ok-with_words.ensures, c.in_ok-with_words-2.ensures, c.in_ok-with_words-3.ensures)
    (blank_right c.args.size c.args.count ((c.args.size + 63) / 64))

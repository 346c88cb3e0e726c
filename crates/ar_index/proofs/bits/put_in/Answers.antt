use Rattle.std.proofs.Common.{◌≡◌, ◌<◌, ◌/◌, ◌∙◌, get_or, sym, ap, subst}
use Rattle.std.specs.Int.{bit_at}
use Rattle.std.proofs.lemmas.List.{get_or_default, get_or-set_other, get_or-set_same}
use Rattle.ar_index.proofs.Sets.{put_word}
use Rattle.ar_index.proofs.bits.put_in.Goals as goal

pub returns-clause-put : goal.returns-clause-put
returns-clause-put c =
    let at : c.index.result.now ≡ get_or c.args.words.now.items (c.args.number / 64) 0 =
    c.index.ensures ∙ get_or_default c.args.words.now.items (c.args.number / 64) _ 0 c.requires in
    put_word c.args.words.now.items c.args.number c.with_bit-word.result c.args.is c.requires
    c.with_bit-word.ensures.here (λ i h ne. c.with_bit-word.ensures.others i h ne ∙ ap (λ w. bit_at w i) at)

pub returns-clause-others : goal.returns-clause-others
returns-clause-others c = λ w ne.
    get_or-set_other c.args.words.now.items (c.args.number / 64) w c.with_bit-word.result 0 ne

pub returns-clause-some : goal.returns-clause-some
returns-clause-some c = λ h.
    c.has_any.ensures.some (subst (λ w. 0 < w)
    (get_or-set_same c.args.words.now.items (c.args.number / 64) c.with_bit-word.result 0 c.requires) h)

pub returns-clause-none : goal.returns-clause-none
returns-clause-none c = λ h.
    c.has_any.ensures.none
    (sym (get_or-set_same c.args.words.now.items (c.args.number / 64) c.with_bit-word.result 0 c.requires) ∙ h)

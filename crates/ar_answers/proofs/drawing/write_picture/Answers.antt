use Rattle.std.proofs.Common.{rules, ◌≡◌, All, OnOk, refl, subst}
use Rattle.std.proofs.lemmas.Result.{IfOk-at_ok, on_ok_weaker}
use Rattle.std.specs.Io.KnownBytes.{Appends}
use Rattle.std.specs.List.{flat_map, range_with_len}
use Rattle.ar_language.specs.declared.order.Order.TheVariants.{Ask}
use Rattle.ar_language.specs.declared.order.Question.TheVariants.{Picture as PictureAsked}
use Rattle.ar_picture.specs.Folds.{IsFold, extents_of}
use Rattle.ar_picture.specs.Maps.{map_text}
use Rattle.ar_answers.specs.Answers.{AppendsAnswer}
use Rattle.ar_answers.specs.Pictures.{IsPicture}
use Rattle.ar_answers.proofs.FaultLemmas.{ok_before}
use Rattle.ar_answers.proofs.drawing.write_picture.Goals as goal

pub returns-clause-answers : goal.returns-clause-answers
returns-clause-answers g c =
    let array = c.args.array.now in
    let before = g.W.Write.contents c.args.out.now in
    let after = g.W.Write.contents c.write_map.new.out in
    let picture = c.in_ok-picture.picture in
    let made = ok_before c.picture_of.result c.map_err.result picture _ c.map_err.ensures.cases c.in_ok-picture.was in
    let shows : IsPicture array picture = IfOk-at_ok _ made c.picture_of.ensures in
    let folds = c.in_ok-folds.folds in
    let found = ok_before c.folds.result c.map_err-2.result folds _ c.map_err-2.ensures.cases c.in_ok-folds.was in
    let once : flat_map extents_of folds.items ≡ range_with_len 0 picture.extents =
    IfOk-at_ok _ found c.folds.ensures.once in
    let folded : All (IsFold picture) folds.items = IfOk-at_ok _ found c.folds.ensures.folded in
    let result = c.map_err-3.result in
    let drawn : OnOk result (Appends before after (map_text picture c.deref.result.now)) = search rules in
    let text = map_text picture folds.items in
    let said = subst (λ fs. OnOk result (Appends before after (map_text picture fs))) c.deref.ensures.value drawn in
    on_ok_weaker {P = Appends before after text} {Q = AppendsAnswer (Ask PictureAsked) array array before after} result
    (λ appends. record {
      text = text;
      is = record { picture = picture; folds = folds.items; shows = shows; once = once; folded = folded; is = refl };
      appends = appends;
    })
    said

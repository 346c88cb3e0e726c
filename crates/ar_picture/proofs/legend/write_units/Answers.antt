use Rattle.std.proofs.Common.{◌≡◌, ◌∙◌, ◌+◌, ◌<◌, ◌++◌, ap, arith, get_or, length, sym, take}
use Rattle.std.proofs.lemmas.List.{length-take-le, take_more}
use Rattle.ar_picture.specs.Drawings.{unit_svg, units_svg}
use Rattle.ar_picture.specs.declared.picture.Unit.{Unit as PictureUnit}
use Rattle.ar_picture.proofs.Appending.{appends_as, appends_then}
use Rattle.ar_picture.proofs.DrawingLemmas.{units-more}
use Rattle.ar_picture.proofs.legend.write_units.Goals as goal

pub loop-unit-preserved : goal.loop-unit-preserved
loop-unit-preserved g c =
    let old = g.W.Write.contents c.args.out.now in
    let before = g.W.Write.contents c.loop-unit.out in
    let new = g.W.Write.contents c.write_unit.new.out in
    let x = c.args.x in
    let units = c.args.units.now in
    let index = c.loop-unit.unit-index in
    let line = c.loop-unit.line in
    let none : PictureUnit = record { host = 0; lun = 0; blocks = 0; placed = 0 } in
    let unit = get_or units index none in
    let text = units_svg x 9 (take index units) in
    let kept = c.loop-unit.invariant in
    let there : index < length units = omega arith in
    let place : line ≡ 9 + length (take index units) = omega (arith, length-take-le index units (omega arith)) in
    let same : text ++ unit_svg x line unit ≡ units_svg x 9 (take (index + 1) units) =
    ap (λ n. text ++ unit_svg x n unit) place ∙ units-more x 9 (take index units) unit
    ∙ ap (units_svg x 9) (sym (take_more units index none there)) in
    record {
      line = omega arith;
      text = appends_as old new (text ++ unit_svg x line unit) (units_svg x 9 (take (index + 1) units)) same
          (appends_then old before new text (unit_svg x line unit) kept.text c.in_ok-write_unit.ensures.text);
    }

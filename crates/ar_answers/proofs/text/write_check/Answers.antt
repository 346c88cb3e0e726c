use Rattle.std.proofs.Common.{[], ◌∷◌, ◌++◌, refl, codes}
use Rattle.std.specs.Io.KnownBytes.{Appends}
use Rattle.ar_answers.specs.Texts.{line, sense_text}
use Rattle.ar_answers.proofs.Appending.{appends_as, appends_then, ends_with}
use Rattle.ar_answers.proofs.text.write_check.Goals as goal

pub returns : goal.returns
returns g c =
    let old = g.W.Write.contents c.args.out.now in
    let begun = g.W.Write.contents c.write_all.new.self in
    let filled = g.W.Write.contents c.write_all-2.new.self in
    let new = g.W.Write.contents c.write_all-3.new.self in
    let shown = sense_text c.args.sense.now in
    let said : Appends begun filled shown =
    appends_as begun filled c.sense_text.result shown c.sense_text.ensures c.in_ok-write_all-2.ensures.bytes in
    record {
      text = ends_with c.write_all-3.result old filled new (codes "check " ++ shown) (10 ∷ [])
          (line (codes "check" ∷ shown ∷ [])) refl
          (appends_then old begun filled (codes "check ") shown c.in_ok-write_all.ensures.bytes said)
          c.write_all-3.ensures.bytes;
    }

use Rattle.std.proofs.Common.{rules, ◌<◌, [], ◌∷◌, ◌++◌, OnOk, codes, length}
use Rattle.std.specs.Io.KnownBytes.{Appends}
use Rattle.ar_answers.specs.Texts.{data_words, line, words}
use Rattle.ar_answers.proofs.Appending.{appends_then, ends_with}
use Rattle.ar_answers.proofs.Printing.{good_data}
use Rattle.ar_answers.proofs.text.write_good.Goals as goal

pub returns : goal.returns
returns g c =
    let old = g.W.Write.contents c.args.out.now in
    let begun = g.W.Write.contents c.write_all-2.new.self in
    let filled = g.W.Write.contents c.write_data.new.out in
    let new = g.W.Write.contents c.write_all-3.new.self in
    let bytes = c.args.bytes.now in
    let notation = c.args.notation in
    let shown = words (data_words notation bytes) in
    let some : 0 < length bytes = search rules in
    let good : Appends old begun (codes "good ") = c.in_ok-write_all.ensures.bytes in
    let ended : OnOk c.write_all-3.result (Appends filled new (10 ∷ [])) = c.write_all-3.ensures.bytes in
    record {
      text = ends_with c.write_all-3.result old filled new (codes "good " ++ shown) (10 ∷ [])
          (line (codes "good" ∷ data_words notation bytes))
          (good_data notation bytes some)
          (appends_then old begun filled (codes "good ") shown good c.in_ok-write_data.ensures.text) ended;
    }

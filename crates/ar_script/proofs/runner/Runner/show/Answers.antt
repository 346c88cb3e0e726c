use Rattle.std.proofs.Common.{◌≡◌, OnOk, ap, refl, rules, subst, sym}
use Rattle.std.proofs.lemmas.Result.{on_ok_weaker}
use Rattle.std.specs.Io.KnownBytes.{Appends}
use Rattle.ar_disks.specs.declared.address.Place.{Place}
use Rattle.ar_language.specs.declared.order.Order.TheVariants.{Ask}
use Rattle.ar_language.specs.declared.order.Question.{Question}
use Rattle.ar_answers.specs.Answers.{AppendsAnswer}
use Rattle.ar_answers.specs.Orders.{ReadsRow}
use Rattle.ar_answers.specs.Texts.{row_text}
use Rattle.ar_script.proofs.Appending.{appends_as}
use Rattle.ar_script.proofs.runner.Runner.show.Goals as goal

-- the row that was read is the one that is written
pub returns-in-Block-clause-answers : goal.returns-in-Block-clause-answers
returns-in-Block-clause-answers g c =
    let old = c.args.self.now in
    let new = c.block_at-shown.new.self in
    let before = g.W.Write.contents c.args.out.now in
    let after = g.W.Write.contents c.write_row.new.out in
    let place : Place = record { disk = c.in-Block.disk; extent = c.in-Block.extent } in
    let bytes = c.block_at-shown.new.into in
    let shown = c.block_at-shown.result in
    let reads : ReadsRow place c.in-Block.row old new = record {
      bytes = bytes;
      shown = shown;
      shows = search rules;
      looks = search rules;
      images = search rules;
    }
    in
    let same : c.bytes.result.now ≡ bytes = search rules in
    let said : OnOk c.map_err.result (Appends before after (row_text shown c.bytes.result.now)) = search rules in
    let P : Question → Type 0 = λ question. AppendsAnswer (Ask question) old new before after in
    on_ok_weaker {P = Appends before after (row_text shown c.bytes.result.now)} {Q = P c.args.question} c.map_err.result
    (λ appends. subst P (sym c.in-Block.is)
    (record {
      text = row_text shown bytes;
      is = (reads, refl);
      appends = appends_as before after (row_text shown c.bytes.result.now) (row_text shown bytes)
          (ap (row_text shown) same) appends;
    }))
    said

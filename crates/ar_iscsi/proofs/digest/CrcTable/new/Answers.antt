use Rattle.std.proofs.Common.{◌∙◌, arith}
use Rattle.std.proofs.lemmas.List.{length-set}
use Rattle.ar_iscsi.proofs.Remainders.{table_more}
use Rattle.ar_iscsi.proofs.digest.CrcTable.new.Goals as goal

pub loop-i-preserved : goal.loop-i-preserved
loop-i-preserved c = record {
  room = length-set c.loop-i.words c.loop-i.i c.after_eight.result ∙ c.loop-i.invariant.room;
  are = table_more c.loop-i.words c.loop-i.i c.after_eight.result
      (omega (arith, c.loop-i.invariant.room, c.loop-i-test.true)) c.after_eight.ensures c.loop-i.invariant.are;
}

use Rattle.ar_language.specs.Forms.{ReadsOrder}
use Rattle.ar_language.proofs.ParseLemmas.{named, answered}
use Rattle.ar_language.proofs.parse.order_of.Goals.{in-tur, in-inquiry, in-capacity, in-read, in-write, in-read16}
use Rattle.ar_language.proofs.parse.order_of.Goals.{in-write16, in-cdb}
use Rattle.ar_language.proofs.parse.order_of.Goals as goal

pub returns-clause-reads : goal.returns-clause-reads
returns-clause-reads c =
    elim c.match-name.branch [
      | in-tur w ↦ named ReadsOrder _ _ _ _ w.in-tur.is
          (answered _ _ _ _ _ w.test_unit_ready-order.ensures w.order-is c.ok_or.ensures.value)
      | in-inquiry w ↦ named ReadsOrder _ _ _ _ w.in-inquiry.is
          (answered _ _ _ _ _ w.inquiry-order.ensures w.order-is c.ok_or.ensures.value)
      | in-capacity w ↦ named ReadsOrder _ _ _ _ w.in-capacity.is
          (answered _ _ _ _ _ w.capacity-order.ensures w.order-is c.ok_or.ensures.value)
      | in-read w ↦ named ReadsOrder _ _ _ _ w.in-read.is
          (answered _ _ _ _ _ w.read-order.ensures w.order-is c.ok_or.ensures.value)
      | in-write w ↦ named ReadsOrder _ _ _ _ w.in-write.is
          (answered _ _ _ _ _ w.write-order.ensures w.order-is c.ok_or.ensures.value)
      | in-read16 w ↦ named ReadsOrder _ _ _ _ w.in-read16.is
          (answered _ _ _ _ _ w.read_16-order.ensures w.order-is c.ok_or.ensures.value)
      | in-write16 w ↦ named ReadsOrder _ _ _ _ w.in-write16.is
          (answered _ _ _ _ _ w.write_16-order.ensures w.order-is c.ok_or.ensures.value)
      | in-cdb w ↦ named ReadsOrder _ _ _ _ w.in-cdb.is
          (answered _ _ _ _ _ w.command_block-order.ensures w.order-is c.ok_or.ensures.value)
    ]

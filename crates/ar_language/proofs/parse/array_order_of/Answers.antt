use Rattle.ar_language.specs.Forms.{ReadsArrayOrder}
use Rattle.ar_language.proofs.ParseLemmas.{named, answered}
use Rattle.ar_language.proofs.parse.array_order_of.Goals.{in-flush, in-demote, in-clean, in-balance, in-add, in-out}
use Rattle.ar_language.proofs.parse.array_order_of.Goals.{in-replace, in-rebuild, in-levels, in-home, in-groups}
use Rattle.ar_language.proofs.parse.array_order_of.Goals.{in-room, in-health, in-picture, in-block}
use Rattle.ar_language.proofs.parse.array_order_of.Goals as goal

pub returns-clause-reads : goal.returns-clause-reads
returns-clause-reads c =
    elim c.match-name.branch [
      | in-flush w ↦ named ReadsArrayOrder _ _ _ _ w.in-flush.is
          (answered _ _ _ _ _ w.alone-order.ensures w.order-is c.ok_or.ensures.value)
      | in-demote w ↦ named ReadsArrayOrder _ _ _ _ w.in-demote.is
          (answered _ _ _ _ _ w.alone-order-in-demote.ensures w.order-is c.ok_or.ensures.value)
      | in-clean w ↦ named ReadsArrayOrder _ _ _ _ w.in-clean.is
          (answered _ _ _ _ _ w.alone-order-in-clean.ensures w.order-is c.ok_or.ensures.value)
      | in-balance w ↦ named ReadsArrayOrder _ _ _ _ w.in-balance.is
          (answered _ _ _ _ _ w.alone-order-in-balance.ensures w.order-is c.ok_or.ensures.value)
      | in-add w ↦ named ReadsArrayOrder _ _ _ _ w.in-add.is
          (answered _ _ _ _ _ w.alone-order-in-add.ensures w.order-is c.ok_or.ensures.value)
      | in-out w ↦ named ReadsArrayOrder _ _ _ _ w.in-out.is
          (answered _ _ _ _ _ w.disk_out-order.ensures w.order-is c.ok_or.ensures.value)
      | in-replace w ↦ named ReadsArrayOrder _ _ _ _ w.in-replace.is
          (answered _ _ _ _ _ w.replace-order.ensures w.order-is c.ok_or.ensures.value)
      | in-rebuild w ↦ named ReadsArrayOrder _ _ _ _ w.in-rebuild.is
          (answered _ _ _ _ _ w.alone-order-in-rebuild.ensures w.order-is c.ok_or.ensures.value)
      | in-levels w ↦ named ReadsArrayOrder _ _ _ _ w.in-levels.is
          (answered _ _ _ _ _ w.levels-order.ensures w.order-is c.ok_or.ensures.value)
      | in-home w ↦ named ReadsArrayOrder _ _ _ _ w.in-home.is
          (answered _ _ _ _ _ w.home-order.ensures w.order-is c.ok_or.ensures.value)
      | in-groups w ↦ named ReadsArrayOrder _ _ _ _ w.in-groups.is
          (answered _ _ _ _ _ w.alone-order-in-groups.ensures w.order-is c.ok_or.ensures.value)
      | in-room w ↦ named ReadsArrayOrder _ _ _ _ w.in-room.is
          (answered _ _ _ _ _ w.alone-order-in-room.ensures w.order-is c.ok_or.ensures.value)
      | in-health w ↦ named ReadsArrayOrder _ _ _ _ w.in-health.is
          (answered _ _ _ _ _ w.alone-order-in-health.ensures w.order-is c.ok_or.ensures.value)
      | in-picture w ↦ named ReadsArrayOrder _ _ _ _ w.in-picture.is
          (answered _ _ _ _ _ w.alone-order-in-picture.ensures w.order-is c.ok_or.ensures.value)
      | in-block w ↦ named ReadsArrayOrder _ _ _ _ w.in-block.is
          (answered _ _ _ _ _ w.block-order.ensures w.order-is c.ok_or.ensures.value)
    ]

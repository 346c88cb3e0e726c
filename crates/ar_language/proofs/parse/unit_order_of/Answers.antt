use Rattle.ar_language.specs.Forms.{ReadsUnitOrder}
use Rattle.ar_language.proofs.ParseLemmas.{named, answered}
use Rattle.ar_language.proofs.parse.unit_order_of.Goals.{in-make, in-grow, in-drop, in-unmap}
use Rattle.ar_language.proofs.parse.unit_order_of.Goals as goal

pub returns-clause-reads : goal.returns-clause-reads
returns-clause-reads c =
    elim c.match-name.branch [
      | in-make w ↦ named ReadsUnitOrder _ _ _ _ w.in-make.is
          (answered _ _ _ _ _ w.make-order.ensures w.order-is c.ok_or.ensures.value)
      | in-grow w ↦ named ReadsUnitOrder _ _ _ _ w.in-grow.is
          (answered _ _ _ _ _ w.grow-order.ensures w.order-is c.ok_or.ensures.value)
      | in-drop w ↦ named ReadsUnitOrder _ _ _ _ w.in-drop.is
          (answered _ _ _ _ _ w.remove-order.ensures w.order-is c.ok_or.ensures.value)
      | in-unmap w ↦ named ReadsUnitOrder _ _ _ _ w.in-unmap.is
          (answered _ _ _ _ _ w.unmap-order.ensures w.order-is c.ok_or.ensures.value)
    ]

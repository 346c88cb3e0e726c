use Rattle.std.proofs.Common.{◌≡◌, ◌<◌, ◌∙◌, ℕ, List, length, get_or, map, ap, sym, subst, arith}
use Rattle.std.proofs.lemmas.List.{get_or-map, length-map}
use Rattle.ar_disks.specs.declared.address.Addr.{Addr}
use Rattle.ar_record.specs.Record.{RecordData, all_data}
use Rattle.ar_compaction.specs.Addresses.{AreAddresses}
use Rattle.ar_compaction.specs.Replaying.{unit_address}
use Rattle.ar_compaction.proofs.Looping.{compact_more, compact_first, compact_last, fit_more}
use Rattle.ar_compaction.proofs.compacting.compact.Goals as goal

pub loop-addr-init : goal.loop-addr-init
loop-addr-init c = record {
  done =
      compact_first (map unit_address c.deref-addr-items.result.now) (all_data c.args.records.now)
      (all_data c.in_ok-out.out.items) c.in_ok-out.ensures.disks;
  fit = c.in_ok-out.ensures.fit;
}

pub loop-addr-preserved : goal.loop-addr-preserved
loop-addr-preserved c =
    let old : List RecordData = all_data c.args.records.now in
    let items : List Addr = c.deref-addr-items.result.now in
    let i : ℕ = c.loop-addr.addr-index in
    let a : ℕ × ℕ = unit_address c.addr-item.result in
    let are : AreAddresses old (map unit_address items) =
    subst (λ (l : List Addr). AreAddresses old (map unit_address l)) (sym c.deref-addr-items.ensures.value)
    c.in_ok-addresses.ensures in
    let lt : i < length (map unit_address items) =
    omega (arith, length-map items unit_address, c.loop-addr-test.true) in
    let is : a ≡ get_or (map unit_address items) i a =
    ap unit_address c.addr-item.is ∙ sym (get_or-map unit_address items i c.addr-item.result a c.loop-addr-test.true) in
    record {
      done =
          compact_more (map unit_address items) i a old (all_data c.loop-addr.out.items)
          (all_data c.append_unit.new.out.items) are.distinct lt is c.loop-addr.invariant.done
          c.in_ok-append_unit.ensures;
      fit =
          fit_more a old (all_data c.loop-addr.out.items) (all_data c.append_unit.new.out.items)
          c.loop-addr.invariant.fit c.in_ok-append_unit.ensures;
    }

pub returns-clause-compaction : goal.returns-clause-compaction
returns-clause-compaction c =
    let old : List RecordData = all_data c.args.records.now in
    let items : List Addr = c.deref-addr-items.result.now in
    let are : AreAddresses old (map unit_address items) =
    subst (λ (l : List Addr). AreAddresses old (map unit_address l)) (sym c.deref-addr-items.ensures.value)
    c.in_ok-addresses.ensures in
    compact_last (map unit_address items) c.loop-addr.addr-index old (all_data c.loop-addr.out.items)
    (omega (arith, length-map items unit_address, c.loop-addr-test.false)) are c.loop-addr.invariant.done

use Rattle.std.proofs.Common.{◌≡◌, ◌∙◌, ℕ, List, ap, arith}
use Rattle.ar_record.specs.Record.{HasUnitNumbers}
use Rattle.ar_compaction.specs.Checkpoint.{UnitParts, base_of}
use Rattle.ar_compaction.proofs.Stepping.{checkpoint_by}
use Rattle.ar_compaction.proofs.unit_records.UnitRecords.new.Goals as goal

pub returns : goal.returns
returns c =
    let unit : UnitParts = record {
      addr = (c.args.host.number, c.args.lun);
      sectors = c.args.sectors;
      base = c.base_of-base.result;
      attention = c.args.attention;
      bytes = c.args.bytes.items;
    } in
    let based : unit.base ≡ base_of unit.sectors unit.attention unit.bytes =
    c.base_of-base.ensures.base
    ∙ ap (λ (l : List ℕ). base_of c.args.sectors c.args.attention l) c.deref.ensures.value in
    let known : HasUnitNumbers unit.addr.0 unit.addr.1 =
    record { host_known = c.args.host.in_range; lun_fits = omega arith } in
    checkpoint_by c.args.present unit c.steps_of-steps.result based c.requires known
    (omega arith) c.steps_of-steps.ensures

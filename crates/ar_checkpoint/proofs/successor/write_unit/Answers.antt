use Rattle.std.proofs.Common.{List, Vec, Global, sym, subst}
use Rattle.ar_record.specs.declared.record.Record.{Record as Stored}
use Rattle.ar_record.specs.Record.{RecordData, AreEncodable, all_data}
use Rattle.ar_compaction.specs.Giving.{AreNext}
use Rattle.ar_checkpoint.specs.Writing.{AppendsRecords}
use Rattle.ar_checkpoint.proofs.Appends.{part_more, fit_front, fit_back}
use Rattle.ar_checkpoint.proofs.Clauses.{match_some}
use Rattle.ar_checkpoint.proofs.successor.write_unit.Goals as goal

pub append-requires-clause-fit : goal.append-requires-clause-fit
append-requires-clause-fit g c =
    let next : AreNext c.loop-rest.rest (all_data c.in-Some.records.items) c.next_records.new.self =
    match_some _
    (λ (records : Vec Stored Global). AreNext c.loop-rest.rest (all_data records.items) c.next_records.new.self)
    _ c.in-Some.records
    c.in-Some.is c.in_ok-records.ensures.given in
    subst (λ (l : List Stored). AreEncodable (all_data l)) (sym c.deref.ensures.value)
    (fit_front (all_data c.in-Some.records.items) c.next_records.new.self
    (subst AreEncodable next.split c.loop-rest.invariant.fit))

pub loop-rest-preserved : goal.loop-rest-preserved
loop-rest-preserved g c =
    let records : List RecordData = all_data c.in-Some.records.items in
    let next : AreNext c.loop-rest.rest records c.next_records.new.self =
    match_some _
    (λ (found : Vec Stored Global). AreNext c.loop-rest.rest (all_data found.items) c.next_records.new.self) _
    c.in-Some.records
    c.in-Some.is c.in_ok-records.ensures.given in
    record {
      part =
          part_more g.M.Media.seen g.M.Media.may_leave g.M.Media.is_clean c.args.rest c.loop-rest.rest records
          c.next_records.new.self
          c.args.log.now c.loop-rest.log c.append.new.log c.loop-rest.invariant.part next.split
          (subst
          (λ (l : List Stored). AppendsRecords g.M.Media.seen g.M.Media.may_leave g.M.Media.is_clean
          (all_data l) c.loop-rest.log
          c.append.new.log) c.deref.ensures.value c.in_ok-append.ensures.written);
      fit = fit_back records c.next_records.new.self (subst AreEncodable next.split c.loop-rest.invariant.fit);
    }

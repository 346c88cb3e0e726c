use Rattle.std.proofs.Common.{List, Vec, Global, sym, subst}
use Rattle.ar_record.specs.declared.record.Record.{Record as Stored}
use Rattle.ar_record.specs.Record.{AreEncodable, all_data}
use Rattle.ar_compaction.specs.Giving.{AreNext}
use Rattle.ar_checkpoint.specs.Writing.{AppendsRecords}
use Rattle.ar_checkpoint.proofs.Appends.{fit_front}
use Rattle.ar_checkpoint.proofs.Clauses.{match_some}
use Rattle.ar_checkpoint.proofs.Graduating.{rest_more}
use Rattle.ar_checkpoint.proofs.gradual.write_rest.Goals as goal

pub append-requires-clause-fit : goal.append-requires-clause-fit
append-requires-clause-fit g c =
    let next : AreNext c.args.rest (all_data c.in-Ok-Some.records.items) c.next_records.new.self =
    match_some _ (λ (records : Vec Stored Global). AreNext c.args.rest (all_data records.items) c.next_records.new.self)
    _ c.in-Ok-Some.records c.in-Ok-Some.field-0-is c.in-Ok-Some.ensures.given in
    subst (λ (l : List Stored). AreEncodable (all_data l)) (sym c.deref.ensures.value)
    (fit_front (all_data c.in-Ok-Some.records.items) c.next_records.new.self
    (subst AreEncodable next.split c.requires.fit))

pub returns-in-Ok-clause-written : goal.returns-in-Ok-clause-written
returns-in-Ok-clause-written g c =
    let next : AreNext c.args.rest (all_data c.in-Ok-Some.records.items) c.next_records.new.self =
    match_some _ (λ (records : Vec Stored Global). AreNext c.args.rest (all_data records.items) c.next_records.new.self)
    _ c.in-Ok-Some.records c.in-Ok-Some.field-0-is c.in-Ok-Some.ensures.given in
    rest_more g.M.Media.seen g.M.Media.may_leave g.M.Media.moment g.M.Media.left_since g.M.Media.is_clean c.args.log
    c.append.new.log c.args.rest (all_data c.in-Ok-Some.records.items) c.next_records.new.self c.args.units next.split
    (subst (λ (l : List Stored). AppendsRecords g.M.Media.seen g.M.Media.may_leave g.M.Media.is_clean (all_data l)
    c.args.log c.append.new.log) c.deref.ensures.value c.in-Ok.ensures.written)

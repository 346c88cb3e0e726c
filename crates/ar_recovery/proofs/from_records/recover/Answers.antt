use Rattle.std.proofs.Common.{List, [], sym, subst}
use Rattle.ar_served.specs.declared.entry.Entry.{Entry}
use Rattle.ar_served.specs.Kept.{KeptState}
use Rattle.ar_record.specs.Record.{all_data}
use Rattle.ar_recovery.specs.Recovering.{RedoesAll}
use Rattle.ar_recovery.proofs.Recovering.{recovered_is}
use Rattle.ar_recovery.proofs.from_records.recover.Goals as goal

pub returns-in-Ok-redo_all-clause-recovered : goal.returns-in-Ok-redo_all-clause-recovered
returns-in-Ok-redo_all-clause-recovered g c =
    let records = all_data c.args.records.items in
    recovered_is records c.finish.result
    (subst (λ (k : KeptState). RedoesAll [] records k.history) (sym c.finish.ensures.array)
    (subst (λ (history : List Entry). RedoesAll history records c.redo_all.new.recovery.history) c.in-Ok.ensures.history
    c.in-Ok-redo_all.ensures.done))
    c.finish.ensures.kept

use Rattle.std.proofs.Common.{◌++◌, ◌∷◌, [], ap, ◌∙◌}
use Rattle.indexmap.proofs.CallerLemmas.{insert_entry-new}
use Rattle.ar_book.specs.Tables.{UnitTableState}
use Rattle.ar_book.proofs.unit_map.add.Goals as goal

pub returns-in-Ok-clause-ok : goal.returns-in-Ok-clause-ok
returns-in-Ok-clause-ok c =
    c.in-Ok.ensures.entries
    ∙ insert_entry-new _ c.args.units.now c.args.addr c.in_ok-table.table c.requires.new
    ∙ ap (λ (u : UnitTableState). c.args.units.now.entries ++ (c.args.addr, u) ∷ []) c.in_ok-table.ensures

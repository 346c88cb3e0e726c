use Rattle.std.proofs.Common.{◌∙◌, sym}
use Rattle.ar_target.proofs.Describing.{one_taken}
use Rattle.ar_target.proofs.operations.one_command.Goals as goal

pub returns-in-Some-clause-data : goal.returns-in-Some-clause-data
returns-in-Some-clause-data c =
    one_taken c.args.operation c.from.result c.cdb_len-len.result c.in-Some.usage c.copy_from_slice.new.self
    c.from.ensures c.cdb_len-len.ensures.len c.copy_from_slice.ensures.after (sym c.usage_of.ensures ∙ c.in-Some.is)

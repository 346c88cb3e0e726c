use Rattle.std.proofs.Common.{drop, ◌∙◌, arith, take_all, length-drop}
use Rattle.ar_iscsi.proofs.request.cdb_of.Goals as goal

pub returns : goal.returns
returns c = c.copy_from_slice.ensures.after
    ∙ take_all 16 (drop 32 c.args.header.now) (omega (arith, length-drop 32 c.args.header.now, c.told-header))

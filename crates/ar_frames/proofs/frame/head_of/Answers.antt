use Rattle.std.proofs.Common.{drop, ◌∙◌, arith, take_all, length-drop}
use Rattle.ar_frames.proofs.frame.head_of.Goals as goal

pub returns-clause-cdb : goal.returns-clause-cdb
returns-clause-cdb c =
    c.copy_from_slice.ensures.after
    ∙ take_all 16 (drop 9 c.args.bytes.now) (omega (arith, length-drop 9 c.args.bytes.now, c.told-bytes))

use Rattle.std.proofs.Common.{◌∙◌, ap, sym}
use Rattle.std.proofs.lemmas.Result.{IfOk-at_ok}
use Rattle.ar_disks.specs.Geometry.{block_len_of}
use Rattle.ar_answers.proofs.FaultLemmas.{ok_before}
use Rattle.ar_answers.specs.Setups.{new_disk}
use Rattle.ar_script.proofs.StartLemmas.{started_geometry}
use Rattle.ar_script.proofs.runner.Runner.start.Goals as goal

-- the block is as long as those of the disks, and they are as long as the array's
pub invariant_of-result : goal.invariant_of-result
invariant_of-result c =
    let setup = c.args.setup in
    let made = ok_before c.new.result c.map_err.result c.in_ok-row.row _ c.map_err.ensures.cases c.in_ok-row.was in
    let geometry =
    started_geometry setup.disks (new_disk setup.geometry setup.extents) setup.cache c.in_ok-array.array
    c.in_ok-array.ensures.taken c.in_ok-array.ensures.started in
    IfOk-at_ok _ made c.new.ensures.len ∙ ap block_len_of (sym geometry)

use Rattle.std.proofs.Common.{◌≡◌, subst, false}
use Rattle.ar_unit.specs.Sectors.{cut, zero_sectors}
use Rattle.ar_unit.specs.Unit.{Present}
use Rattle.ar_compaction.specs.Replaying.{ReplayState, unit_address, with_unit}
use Rattle.ar_compaction.proofs.Executing.{replay_of, made_zeros}
use Rattle.ar_compaction.proofs.replay.UnitReplay.make.Goals as goal

pub returns-clause-applied : goal.returns-clause-applied
returns-clause-applied c =
    let r = c.self.inside in
    let made : ReplayState =
    replay_of (unit_address r.addr) (Present (cut 512 c.args.sectors c.in_ok-bytes.bytes.items) false) in
    subst (λ (x : ReplayState). made ≡ with_unit x (Present (zero_sectors c.args.sectors) false)) c.self.view_is
    (made_zeros (unit_address r.addr) c.args.sectors c.in_ok-bytes.bytes.items c.in_ok-bytes.ensures)

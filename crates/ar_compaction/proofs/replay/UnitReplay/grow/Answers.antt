use Rattle.std.proofs.Common.{◌≡◌, ◌∙◌, ◌-◌, ◌*◌, ◌++◌, ℕ, length, take, vec_len, ap, subst, arith, true}
use Rattle.std.specs.Prelude.{replicate}
use Rattle.ar_unit.specs.Plain.{state_of}
use Rattle.ar_unit.specs.Sectors.{cut}
use Rattle.ar_unit.specs.Unit.{Grow, after}
use Rattle.ar_compaction.specs.Replaying.{ReplayState, unit_address, with_unit}
use Rattle.ar_compaction.proofs.Executing.{replay_of, grown_zeros}
use Rattle.ar_compaction.proofs.replay.UnitReplay.grow.Goals as goal

pub returns-in_ok-resize-clause-applied : goal.returns-in_ok-resize-clause-applied
returns-in_ok-resize-clause-applied c =
    let r = c.self.inside in
    let len : vec_len r.bytes ≡ length r.bytes.items = omega (arith, r.bytes.ok.0) in
    let made : ReplayState =
    replay_of (unit_address r.addr) (state_of r.present (cut 512 c.max-sectors.result c.resize.new.self.items) true) in
    subst (λ (x : ReplayState). made ≡ with_unit x (after x.unit (Grow c.args.sectors))) c.self.view_is
    (grown_zeros (unit_address r.addr) r.present r.sectors c.args.sectors c.max-sectors.result r.bytes.items
    c.resize.new.self.items r.attention c.if-self.true c.self.invariant c.max-sectors.ensures
    (c.in_ok-resize.ensures.items
    ∙ ap (λ (n : ℕ). take (c.max-sectors.result * 512) r.bytes.items ++ replicate (c.max-sectors.result * 512 - n) 0)
    len))

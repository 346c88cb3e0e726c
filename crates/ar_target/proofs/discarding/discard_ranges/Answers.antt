use Rattle.std.proofs.Common.{◌≡◌, ◌≤◌, ◌+◌, ◌∙◌, ℕ, sym, subst, arith}
use Rattle.ar_target.specs.declared.provisioning.BlockRange.{BlockRange}
use Rattle.ar_target.specs.Discarding.{DiscardsRange, RangesDone, no_range, one_range, ranges_done, range_stopped}
use Rattle.ar_target.proofs.discarding.discard_ranges.Goals as goal

pub loop-i-init : goal.loop-i-init
loop-i-init g c = record { ranges = no_range; logged = c.requires.logged }

pub discard_range-reply-requires-clause-fits : goal.discard_range-reply-requires-clause-fits
discard_range-reply-requires-clause-fits g c =
    subst (λ (r : BlockRange). r.lba + r.count ≤ 4294967296) (sym c.range_at-range.ensures)
    (c.requires.fit c.loop-i.i (omega arith))

pub returns-then-not-is_good-clause-discards : goal.returns-then-not-is_good-clause-discards
returns-then-not-is_good-clause-discards g c =
    range_stopped _ _ _ _ (omega arith) c.loop-i.invariant.ranges
    (subst (λ (r : BlockRange). DiscardsRange g.P.DiscardPort.discards c.args.block_sectors c.args.lun r c.loop-i.port
    c.discard_range-reply.result c.discard_range-reply.new.port) c.range_at-range.ensures
    c.discard_range-reply.ensures.does) (sym c.is_good.ensures ∙ c.if-not-is_good.true)

pub loop-i-preserved : goal.loop-i-preserved
loop-i-preserved g c = record {
  ranges =
      one_range _ _ _ _ c.loop-i.invariant.ranges
      (subst (λ (r : BlockRange). DiscardsRange g.P.DiscardPort.discards c.args.block_sectors c.args.lun r c.loop-i.port
      c.discard_range-reply.result c.discard_range-reply.new.port) c.range_at-range.ensures
      c.discard_range-reply.ensures.does) (sym c.is_good.ensures ∙ c.if-not-is_good.false);
  logged = c.discard_range-reply.ensures.stays;
}

pub returns-clause-discards : goal.returns-clause-discards
returns-clause-discards g c =
    let all : c.loop-i.i ≡ c.args.count = omega arith in
    rw (c.good.ensures, c.new.ensures)
    (ranges_done _
    (subst (λ (n : ℕ). RangesDone g.P.DiscardPort.discards c.args.block_sectors c.args.lun c.args.list.now
    c.args.port.now n c.loop-i.port) all c.loop-i.invariant.ranges))

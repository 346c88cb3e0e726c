use Rattle.std.proofs.Common.{◌+◌, ◌∙◌, sym, arith}
use Rattle.ar_target.specs.Ranges.{no_piece, discards_at, discard_len}
use Rattle.ar_target.proofs.Pieces.{pieces_more, stopped_at, all_pieces}
use Rattle.ar_target.proofs.ranges.discard_range.Goals as goal

pub loop-done-init : goal.loop-done-init
loop-done-init g c = record { within = omega arith; pieces = no_piece; logged = c.requires.logged }

pub returns-then-not-is_good-clause-does : goal.returns-then-not-is_good-clause-does
returns-then-not-is_good-clause-does g c =
    stopped_at (discards_at g.P.DiscardPort.discards c.args.lun) (discard_len c.args.block) _ _ _ _
    (c.args.lba + c.from.result) _ _ _ _ c.loop-done-test.true c.loop-done.invariant.pieces (omega arith)
    c.discard_len-len.ensures.len c.discard-reply.ensures.discard (sym c.is_good.ensures ∙ c.if-not-is_good.true)

pub loop-done-preserved-else-not-is_good : goal.loop-done-preserved-else-not-is_good
loop-done-preserved-else-not-is_good g c = record {
  within = omega arith;
  pieces =
      pieces_more (discards_at g.P.DiscardPort.discards c.args.lun) (discard_len c.args.block) _ _ _ _
      (c.args.lba + c.from.result) _ _ _ _ c.loop-done.invariant.pieces (omega arith)
      c.discard_len-len.ensures.len c.discard-reply.ensures.discard (sym c.is_good.ensures ∙ c.if-not-is_good.false);
  logged = c.discard-reply.ensures.stays;
}

pub loop-done-preserved : goal.loop-done-preserved
loop-done-preserved g c = record {
  within = omega arith;
  pieces =
      pieces_more (discards_at g.P.DiscardPort.discards c.args.lun) (discard_len c.args.block) _ _ _ _
      (c.args.lba + c.from.result) _ _ _ _ c.loop-done.invariant.pieces (omega arith)
      c.discard_len-len.ensures.len c.discard-reply.ensures.discard (sym c.is_good.ensures ∙ c.if-not-is_good.false);
  logged = c.discard-reply.ensures.stays;
}

pub returns-clause-does : goal.returns-clause-does
returns-clause-does g c =
    rw (c.good.ensures, c.new.ensures)
    (all_pieces (discards_at g.P.DiscardPort.discards c.args.lun) (discard_len c.args.block) _ _ _ _ _
    c.loop-done.invariant.pieces (omega arith))

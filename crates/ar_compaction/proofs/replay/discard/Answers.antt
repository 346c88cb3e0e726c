use Rattle.std.proofs.Common.{◌≡◌, ◌≤◌, ◌+◌, ◌-◌, ◌*◌, ℕ, false, List, length, take, drop, ◌++◌, ap, sym, ◌∙◌, arith}
use Rattle.std.proofs.Common.{length-take, length-drop}
use Rattle.std.specs.Prelude.{replicate}
use Rattle.std.proofs.lemmas.Bool.{ltb-true, ltb-false}
use Rattle.ar_disks.specs.Block.{zeros}
use Rattle.ar_unit.specs.Sectors.{cut}
use Rattle.ar_unit.specs.Unit.{Present}
use Rattle.ar_compaction.proofs.Executing.{discard_past, discard_done, mid_is}
use Rattle.ar_compaction.proofs.replay.discard.Goals as goal

pub returns-then-is_past_end : goal.returns-then-is_past_end
returns-then-is_past_end c =
    discard_past c.args.sectors c.args.bytes.now c.args.lba c.args.count
    (ltb-true _ _ (sym c.is_past_end.ensures ∙ c.if-is_past_end.true))

pub returns : goal.returns
unfolding zeros
returns c =
    let within : c.args.lba + c.args.count ≤ c.args.sectors =
    ltb-false _ _ (sym c.is_past_end.ensures ∙ c.if-is_past_end.false) in
    let part_len : length (take (c.args.lba * 512 + c.args.count * 512 - c.args.lba * 512)
    (drop (c.args.lba * 512) c.args.bytes.now)) ≡ c.args.count * 512 =
    simp (length-take, length-drop) (omega (arith, c.requires, within)) in
    let zeroed : c.zero.new.target ≡ replicate (c.args.count * 512) 0 =
    c.zero.ensures ∙ ap (λ (n : ℕ). replicate n 0) part_len in
    ap (λ (l : List ℕ). Present (cut 512 c.args.sectors l) false)
    (mid_is c.args.lba c.args.count _ c.args.bytes.now c.zero.new.target (omega arith)
    ∙ ap (λ (l : List ℕ). take (c.args.lba * 512) c.args.bytes.now
    ++ (l ++ drop ((c.args.lba + c.args.count) * 512) c.args.bytes.now)) zeroed)
    ∙ discard_done c.args.sectors c.args.bytes.now c.args.lba c.args.count c.requires within

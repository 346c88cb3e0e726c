use Rattle.std.proofs.Common.{◌≡◌, ◌≤◌, ◌+◌, ◌*◌, ℕ, List, length, take, drop, ◌++◌, ap, sym, ◌∙◌, arith}
use Rattle.std.proofs.lemmas.Bool.{ltb-true, ltb-false}
use Rattle.ar_unit.specs.Sectors.{cut}
use Rattle.ar_unit.specs.Unit.{Present}
use Rattle.ar_compaction.proofs.Executing.{write_past, write_done, mid_is}
use Rattle.ar_compaction.proofs.replay.write.Goals as goal

pub returns-then-is_past_end : goal.returns-then-is_past_end
returns-then-is_past_end c attention =
    write_past c.args.sectors c.args.bytes.now attention c.args.lba c.args.count c.args.sent.now
    (omega (arith, c.from.ensures, ltb-true _ _ (sym c.is_past_end.ensures ∙ c.if-is_past_end.true)))

pub returns : goal.returns
returns c attention =
    let lba : ℕ = c.args.lba in
    let count : ℕ = c.args.count in
    let bytes : List ℕ = c.args.bytes.now in
    let sent : List ℕ = c.args.sent.now in
    let within : lba + count ≤ c.args.sectors =
    omega (arith, c.from.ensures, ltb-false _ _ (sym c.is_past_end.ensures ∙ c.if-is_past_end.false)) in
    let sent_len : length sent ≡ count * 512 = omega (arith, c.from-2.ensures, c.if-sent-from.false) in
    ap (λ (l : List ℕ). Present (cut 512 c.args.sectors l) attention)
    (mid_is lba count _ bytes c.copy_from_slice.new.self (omega (arith, c.from-3.ensures))
    ∙ ap (λ (l : List ℕ). take (lba * 512) bytes ++ (l ++ drop ((lba + count) * 512) bytes))
    c.copy_from_slice.ensures.after)
    ∙ write_done c.args.sectors bytes attention lba count sent c.requires within sent_len

use Rattle.std.proofs.Common.{◌≡◌, true, false, ◌+◌, ◌*◌, nat_lt, length, ap, sym, ◌∙◌, arith}
use Rattle.std.specs.Prelude.{◌==◌}
use Rattle.ar_disks.specs.Block.{zeros}
use Rattle.ar_scsi.specs.Sense.{internal_target_failure, logical_block_address_out_of_range}
use Rattle.ar_volume.specs.Image.{is_broken, attention_at}
use Rattle.ar_volume.proofs.Discarding.{length-zeros}
use Rattle.ar_volume.proofs.Images.{length-unit_sectors}
use Rattle.ar_core.proofs.Serving.{serves_check, serves_write, write_past, write_within, same_true, not_below}
use Rattle.ar_core.proofs.Serving.{unit_itself}
use Rattle.ar_core.proofs.Unmapping.{settles_refused, settles_unmap}
use Rattle.ar_core.proofs.array.Array.unmap_present.Goals as goal

pub unmap_range-discarded-requires-clause-unit : goal.unmap_range-discarded-requires-clause-unit
unmap_range-discarded-requires-clause-unit g c = unit_itself c.args.self.now c.args.addr c.args.sectors c.requires

pub unmap_range-discarded-requires-clause-within : goal.unmap_range-discarded-requires-clause-within
unmap_range-discarded-requires-clause-within g c =
    let within : nat_lt c.args.sectors (c.args.lba + c.args.count) ≡ false =
    sym c.is_past_end.ensures ∙ c.if-is_past_end.false in
    let fits = not_below c.args.sectors (c.args.lba + c.args.count) within in
    omega (arith, fits, c.requires.sectors_same)

pub returns-then-is_past_end-clause-serves : goal.returns-then-is_past_end-clause-serves
returns-then-is_past_end-clause-serves g c =
    let past : nat_lt c.args.sectors (c.args.lba + c.args.count) ≡ true =
    sym c.is_past_end.ensures ∙ c.if-is_past_end.true in
    rw (
      write_past _ (attention_at c.args.self.now.store.book c.args.addr) c.args.sectors c.args.lba c.args.count
          (zeros (c.args.count * 512)) (length-unit_sectors c.args.self.now c.args.addr ∙ c.requires.sectors_same) past,
      past,
    )
    (serves_check c.args.self.now c.args.addr logical_block_address_out_of_range c.check.result c.check.ensures)

pub returns-then-is_past_end-clause-settles : goal.returns-then-is_past_end-clause-settles
returns-then-is_past_end-clause-settles g c =
    settles_refused c.args.self.now c.args.addr c.args.lba c.args.count logical_block_address_out_of_range
    c.check.result c.check.ensures

pub returns-then-is_broken-clause-settles : goal.returns-then-is_broken-clause-settles
returns-then-is_broken-clause-settles g c =
    settles_refused c.args.self.now c.args.addr c.args.lba c.args.count internal_target_failure
    c.check-then-is_broken.result c.check-then-is_broken.ensures

pub returns-clause-serves : goal.returns-clause-serves
returns-clause-serves g c =
    let within : nat_lt c.args.sectors (c.args.lba + c.args.count) ≡ false =
    sym c.is_past_end.ensures ∙ c.if-is_past_end.false in
    let right : length (zeros (c.args.count * 512)) == c.args.count * 512 ≡ true =
    same_true (length (zeros (c.args.count * 512))) (c.args.count * 512) (length-zeros (c.args.count * 512)) in
    let fits = not_below c.args.sectors (c.args.lba + c.args.count) within in
    let len = c.requires.sectors_same in
    rw (
      write_within _ (attention_at c.args.self.now.store.book c.args.addr) c.args.sectors c.args.lba c.args.count
          (zeros (c.args.count * 512)) (length-unit_sectors c.args.self.now c.args.addr ∙ len) within right,
      within,
    )
    (serves_write c.args.self.now c.unmap_range-discarded.new.self c.args.addr c.args.lba c.args.count
    (zeros (c.args.count * 512)) c.unmap_range-discarded.result c.reply_to_write.result
    c.unmap_range-discarded.ensures.follows (omega (arith, len, fits)) c.unmap_range-discarded.ensures.answer
    c.unmap_range-discarded.ensures.zeroed c.reply_to_write.ensures.done c.reply_to_write.ensures.broken)

pub returns-clause-settles : goal.returns-clause-settles
returns-clause-settles g c =
    let sound : is_broken c.args.self.now ≡ false =
    sym (ap is_broken c.self.view_is) ∙ sym c.is_broken.ensures.broken ∙ c.if-is_broken.false in
    settles_unmap c.args.self.now c.unmap_range-discarded.new.self c.args.addr c.args.lba c.args.count
    c.unmap_range-discarded.result c.reply_to_write.result sound c.reply_to_write.ensures.done
    c.reply_to_write.ensures.broken c.unmap_range-discarded.ensures.answer c.unmap_range-discarded.ensures.discards
    c.unmap_range-discarded.ensures.stopped

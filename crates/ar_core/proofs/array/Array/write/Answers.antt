use Rattle.std.proofs.Common.{◌≡◌, true, false, ◌+◌, ◌*◌, nat_lt, length, Ok, ap, sym, ◌∙◌, arith}
use Rattle.std.specs.Prelude.{◌==◌}
use Rattle.ar_scsi.specs.declared.command.Command.TheVariants.{Write}
use Rattle.ar_scsi.specs.Sense.{logical_block_address_out_of_range, data_phase_error}
use Rattle.ar_volume.specs.Image.{is_broken, attention_at}
use Rattle.ar_volume.proofs.Images.{length-unit_sectors}
use Rattle.ar_core.proofs.Serving.{serves_check, serves_write, settles_check, settles_write, write_past, write_wrong}
use Rattle.ar_core.proofs.Serving.{write_within, same_false, same_true, not_below, unit_itself}
use Rattle.ar_core.proofs.array.Array.write.Goals as goal

pub write_range-stored-requires-clause-unit : goal.write_range-stored-requires-clause-unit
write_range-stored-requires-clause-unit g c = unit_itself c.args.self.now c.args.addr c.args.sectors c.requires

pub write_range-stored-requires-clause-within : goal.write_range-stored-requires-clause-within
write_range-stored-requires-clause-within g c =
    let within : nat_lt c.args.sectors (c.args.lba + c.args.count) ≡ false =
    sym c.is_past_end.ensures ∙ c.if-is_past_end.false in
    let fits = not_below c.args.sectors (c.args.lba + c.args.count) within in
    omega (arith, fits, c.requires.sectors_same, c.from-2.ensures)

pub returns-then-is_past_end-clause-serves : goal.returns-then-is_past_end-clause-serves
returns-then-is_past_end-clause-serves g c =
    let past : nat_lt c.args.sectors (c.args.lba + c.args.count) ≡ true =
    sym c.is_past_end.ensures ∙ c.if-is_past_end.true in
    rw (
      write_past _ (attention_at c.args.self.now.store.book c.args.addr) c.args.sectors c.args.lba c.args.count
          c.args.bytes.now (length-unit_sectors c.args.self.now c.args.addr ∙ c.requires.sectors_same) past,
      past,
    )
    (serves_check c.args.self.now c.args.addr logical_block_address_out_of_range c.check.result c.check.ensures)

pub returns-then-is_past_end-clause-settles : goal.returns-then-is_past_end-clause-settles
returns-then-is_past_end-clause-settles g c =
    settles_check c.args.self.now c.args.addr (Ok (Write c.args.lba c.args.count c.args.fua))
    logical_block_address_out_of_range c.check.result c.check.ensures

pub returns-then-bytes-from-clause-serves : goal.returns-then-bytes-from-clause-serves
returns-then-bytes-from-clause-serves g c =
    let within : nat_lt c.args.sectors (c.args.lba + c.args.count) ≡ false =
    sym c.is_past_end.ensures ∙ c.if-is_past_end.false in
    let wrong : length c.args.bytes.now == c.args.count * 512 ≡ false =
    same_false (length c.args.bytes.now) (c.args.count * 512)
    (λ same. c.if-bytes-from.true (same ∙ ap (λ n. n * 512) (sym c.from.ensures))) in
    rw (
      write_wrong _ (attention_at c.args.self.now.store.book c.args.addr) c.args.sectors c.args.lba c.args.count
          c.args.bytes.now (length-unit_sectors c.args.self.now c.args.addr ∙ c.requires.sectors_same) within wrong,
      within,
      wrong,
    )
    (serves_check c.args.self.now c.args.addr data_phase_error c.check-then-bytes-from.result
    c.check-then-bytes-from.ensures)

pub returns-then-bytes-from-clause-settles : goal.returns-then-bytes-from-clause-settles
returns-then-bytes-from-clause-settles g c =
    settles_check c.args.self.now c.args.addr (Ok (Write c.args.lba c.args.count c.args.fua)) data_phase_error
    c.check-then-bytes-from.result c.check-then-bytes-from.ensures

pub returns-clause-serves : goal.returns-clause-serves
returns-clause-serves g c =
    let within : nat_lt c.args.sectors (c.args.lba + c.args.count) ≡ false =
    sym c.is_past_end.ensures ∙ c.if-is_past_end.false in
    let right : length c.args.bytes.now == c.args.count * 512 ≡ true =
    same_true (length c.args.bytes.now) (c.args.count * 512) (c.if-bytes-from.false
    ∙ ap (λ n. n * 512) c.from.ensures) in
    let from : c.from-2.result ≡ c.args.count = c.from-2.ensures in
    let fits = not_below c.args.sectors (c.args.lba + c.args.count) within in
    let len = c.requires.sectors_same in
    rw (
      write_within _ (attention_at c.args.self.now.store.book c.args.addr) c.args.sectors c.args.lba c.args.count
          c.args.bytes.now (length-unit_sectors c.args.self.now c.args.addr ∙ len) within right,
      within,
      right,
    )
    (serves_write c.args.self.now c.write_range-stored.new.self c.args.addr c.args.lba c.args.count c.args.bytes.now
    c.write_range-stored.result c.reply_to_write.result
    c.write_range-stored.ensures.follows (omega (arith, len)) c.write_range-stored.ensures.answer
    (rw from at c.write_range-stored.ensures.writes) c.reply_to_write.ensures.done c.reply_to_write.ensures.broken)

pub returns-clause-settles : goal.returns-clause-settles
returns-clause-settles g c =
    let sound : is_broken c.args.self.now ≡ false =
    sym (ap is_broken c.self.view_is) ∙ sym c.is_broken.ensures.broken ∙ c.if-is_broken.false in
    let from : c.from-2.result ≡ c.args.count = c.from-2.ensures in
    settles_write c.args.self.now c.write_range-stored.new.self c.args.addr c.args.lba c.args.count c.args.fua
    c.write_range-stored.result c.reply_to_write.result
    sound c.reply_to_write.ensures.done c.reply_to_write.ensures.broken (rw from at c.write_range-stored.ensures.forced)
    (rw from at c.write_range-stored.ensures.stored)
    c.write_range-stored.ensures.answer (rw from at c.write_range-stored.ensures.stopped)
    (λ none. c.write_range-stored.ensures.nothing (from ∙ none))

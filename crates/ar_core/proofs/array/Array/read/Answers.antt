use Rattle.std.proofs.Common.{◌≡◌, true, false, ◌+◌, nat_lt, Ok, ap, sym, ◌∙◌, arith}
use Rattle.ar_scsi.specs.declared.command.Command.TheVariants.{Read}
use Rattle.ar_scsi.specs.Sense.{internal_target_failure, logical_block_address_out_of_range}
use Rattle.ar_volume.specs.Image.{is_broken}
use Rattle.ar_volume.proofs.Images.{length-unit_sectors}
use Rattle.ar_core.proofs.Serving.{serves_check, settles_check, settles_read, read_past, read_within, not_below}
use Rattle.ar_core.proofs.Serving.{unit_itself}
use Rattle.ar_core.proofs.array.Array.read.Goals as goal

pub read_range-requires-clause-unit : goal.read_range-requires-clause-unit
read_range-requires-clause-unit g c = unit_itself c.args.self.now c.args.addr c.args.sectors c.requires

pub read_range-requires-clause-within : goal.read_range-requires-clause-within
read_range-requires-clause-within g c =
    let within : nat_lt c.args.sectors (c.args.lba + c.args.count) ≡ false =
    sym c.is_past_end.ensures ∙ c.if-is_past_end.false in
    let fits = not_below c.args.sectors (c.args.lba + c.args.count) within in
    omega (arith, fits, c.requires.sectors_same, c.from.ensures)

pub returns-then-is_past_end-clause-serves : goal.returns-then-is_past_end-clause-serves
returns-then-is_past_end-clause-serves g c =
    let past : nat_lt c.args.sectors (c.args.lba + c.args.count) ≡ true =
    sym c.is_past_end.ensures ∙ c.if-is_past_end.true in
    rw (
      read_past _ c.args.sectors c.args.lba c.args.count (length-unit_sectors c.args.self.now c.args.addr
          ∙ c.requires.sectors_same) past,
      past,
    )
    (serves_check c.args.self.now c.args.addr logical_block_address_out_of_range c.check.result c.check.ensures)

pub returns-clause-serves : goal.returns-clause-serves
returns-clause-serves g c =
    let within : nat_lt c.args.sectors (c.args.lba + c.args.count) ≡ false =
    sym c.is_past_end.ensures ∙ c.if-is_past_end.false in
    let from : c.from.result ≡ c.args.count = c.from.ensures in
    rw (
      read_within c.args.self.now c.args.addr c.args.sectors c.args.lba c.args.count c.requires.sectors_same within
          (not_below c.args.sectors (c.args.lba + c.args.count) within),
      within,
    )
    (rw from at c.read_range.ensures.serves)

pub returns-then-is_past_end-clause-settles : goal.returns-then-is_past_end-clause-settles
returns-then-is_past_end-clause-settles g c =
    settles_check c.args.self.now c.args.addr (Ok (Read c.args.lba c.args.count)) logical_block_address_out_of_range
    c.check.result c.check.ensures

pub returns-then-is_broken-clause-settles : goal.returns-then-is_broken-clause-settles
returns-then-is_broken-clause-settles g c =
    settles_check c.args.self.now c.args.addr (Ok (Read c.args.lba c.args.count)) internal_target_failure
    c.check-then-is_broken.result c.check-then-is_broken.ensures

pub returns-clause-settles : goal.returns-clause-settles
returns-clause-settles g c =
    let sound : is_broken c.args.self.now ≡ false =
    sym (ap is_broken c.self.view_is) ∙ sym c.is_broken.ensures.broken ∙ c.if-is_broken.false in
    let from : c.from.result ≡ c.args.count = c.from.ensures in
    settles_read c.args.self.now c.read_range.new.self c.args.addr c.args.lba c.args.count c.read_range.result sound
    (rw from at c.read_range.ensures.begun) (rw from at c.read_range.ensures.got)
    (rw from at c.read_range.ensures.busy_read) c.read_range.ensures.failed

use Rattle.std.proofs.Common.{◌∙◌, sym}
use Rattle.std.specs.Map.{keys_of}
use Rattle.std.proofs.lemmas.Map.Entries.{length-keys_of}
use Rattle.ar_disks.specs.Addresses.{same_addr}
use Rattle.ar_index.proofs.Orders.{no_place}
use Rattle.ar_index.proofs.choices.place_of.Goals as goal

pub returns-in-None : goal.returns-in-None
returns-in-None g c =
    c.len.ensures.len
    ∙ sym (no_place (same_addr c.args.addr) (keys_of c.args.units.now.entries) (sym c.in-None.ensures.index)
    ∙ length-keys_of c.args.units.now.entries)

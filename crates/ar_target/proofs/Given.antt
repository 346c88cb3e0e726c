-- The commands of the array are given to the port.
use Rattle.std.proofs.Common.{◌≡◌, ℕ, List, Ok}
use Rattle.ar_scsi.specs.declared.command.Command.{Command}
use Rattle.ar_scsi.specs.Block.{Says, test_unit_ready, inquiry, read_capacity_10, read_capacity_10_pmi, read_10}
use Rattle.ar_scsi.specs.Block.{write_10, read_16, write_16}
use Rattle.ar_scsi.specs.Reading.{reading}
use Rattle.ar_scsi.proofs.Blocks.{says-reading}
use Rattle.ar_target.specs.Laws.{GivesCdb}
use Rattle.ar_target.specs.Request.{request_of}
use Rattle.ar_target.specs.Translation.{transfer_request}

-- a block that says a command is given
given-says : (cdb : List ℕ) (c : Command) → Says cdb c → GivesCdb (request_of cdb)
unfolding request_of transfer_request
given-says cdb _ (test_unit_ready code naca_0) = rw code tt
given-says cdb _ (inquiry code naca_0 evpd_0 page_0) = rw (code, evpd_0) tt
given-says cdb _ (read_capacity_10 code naca_0 pmi_0 address_0) = rw code tt
given-says cdb _ (read_capacity_10_pmi code naca_0 pmi_1) = rw code tt
given-says cdb _ (read_10 code naca_0 protect_0) = rw code tt
given-says cdb _ (write_10 code naca_0 protect_0) = rw code tt
given-says cdb _ (read_16 code naca_0 protect_0 short) = rw code tt
given-says cdb _ (write_16 code naca_0 protect_0 short) = rw code tt

-- a block that reads as a command is given
pub given-reading : (cdb : List ℕ) (command : Command) → reading cdb ≡ Ok command → GivesCdb (request_of cdb)
given-reading cdb command e = given-says cdb command (says-reading cdb command e)

use Rattle.ar_target.proofs.Names.{name-tells, serial-tells, vendor-tells, naa-tells}
use Rattle.ar_target.proofs.names_differ.Goals as goal

pub returns : goal.returns
returns c = record {
  names = name-tells;
  serial_numbers = serial-tells;
  vendor_designators = vendor-tells;
  naa_designators = naa-tells;
}

use Rattle.ar_disks.proofs.Xor.{xor_comm, xor_assoc, xor-zeros, xor_self, length-xor}
use Rattle.ar_disks.proofs.laws.xor_laws.Goals as goal

pub returns : goal.returns
returns c =
    record { commutative = xor_comm; associative = xor_assoc; unit = xor-zeros; inverse = xor_self; len = length-xor }

-- The LUNs that are found.
use Rattle.std.proofs.Common.{◌≤◌, ◌+◌, ℕ, Bool, true, false, List, length, length-append, arith}
use Rattle.ar_frames.specs.Conversation.{Commands}
use Rattle.ar_target.specs.Luns.{lun_if, SeeksLun}

-- at most one at a LUN
length-lun_if : (there : Bool) (lun : ℕ) → length (lun_if there lun) ≤ 1
length-lun_if true lun = omega arith
length-lun_if false lun = omega arith

-- no more than LUNs that were looked for
pub one_more :
    {P : Type 0} {commands : Commands P} {old new : P} (lun : ℕ) (luns luns' : List ℕ) → length luns ≤ lun
    → SeeksLun commands old lun luns luns' new → length luns' ≤ lun + 1
one_more lun luns luns' few seeks =
    rw seeks.appended (omega (arith, length-append luns (lun_if seeks.there lun), length-lun_if seeks.there lun))

-- Fronts of lists that aren't empty.
use Rattle.std.proofs.Common.{◌≢◌, ◌<◌, ◌++◌, ℕ, zero, suc, Bool, true, false, List, [], ◌∷◌, length, take, slice_set}
use Rattle.std.proofs.Common.{arith}
use Rattle.std.proofs.lemmas.List.{length-set, length-append}
use Rattle.ar_target.specs.Answer.{over_target_port, version_descriptors}
use Rattle.ar_target.specs.declared.request.ModeSense.{ModeSense}
use Rattle.ar_target.specs.Mode.{mode_header, mode_data}

-- some of a list that has some
pub taken_some : (n : ℕ) (l : List ℕ) → 0 < n → 0 < length l → take n l ≢ []
taken_some zero l some long = absurd (omega arith)
taken_some (suc n) [] some long = absurd (omega arith)
taken_some (suc n) (x ∷ xs) some long = λ e. cc

-- what begins with a header
header_some :
    (is_long : Bool) (descriptor pages : ℕ) (rest : List ℕ) → 0 < length (mode_header is_long descriptor pages ++ rest)
header_some false descriptor pages rest = omega arith
header_some true descriptor pages rest = omega arith

-- mode data
pub mode_data_some : (write_back : Bool) (sense : ModeSense) (last : ℕ) → 0 < length (mode_data write_back sense last)
unfolding mode_data
mode_data_some write_back sense last = header_some sense.is_long _ _ _

-- standard INQUIRY data
pub over_target_port_some : (bytes : List ℕ) → 0 < length (over_target_port bytes)
unfolding over_target_port
over_target_port_some bytes =
    let all = bytes ++ version_descriptors in
    omega (
      arith,
      length-set (slice_set (slice_set all 4 0x45) 5 0x10) 7 0x02,
      length-set (slice_set all 4 0x45) 5 0x10,
      length-set all 4 0x45,
      length-append bytes version_descriptors,
    )

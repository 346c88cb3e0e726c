-- the entries of the LUNs so far
use Rattle.std.proofs.Common.{◌≡◌, ◌+◌, ◌*◌, ◌++◌, [], ◌∷◌, length, take, vec_len}
use Rattle.std.specs.Int.{w32, to_be_bytes}
use Rattle.std.specs.List.{flat_map}
use Rattle.ar_target.specs.Luns.{lun_entry}
use Rattle.ar_target.proofs.luns.lun_list.Given as goal

abbrev pub invariant-loop-lun : goal.invariant-loop-lun
invariant-loop-lun l = record {
  entries :
      l.list.items
      ≡ (to_be_bytes w32 (8 * length l.found) ++ (0 ∷ 0 ∷ 0 ∷ 0 ∷ [])) ++ flat_map lun_entry (take l.lun-index l.found);
  size : vec_len l.list ≡ 8 + 8 * l.lun-index;
}

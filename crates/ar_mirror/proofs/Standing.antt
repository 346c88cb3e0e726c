-- What stands in a slot is the block that it holds.
use Rattle.std.proofs.Common.{◌≡◌, ◌≢◌, inl, inr, ℕ, ◌<◌, List}
use Rattle.ar_disks.specs.declared.address.Members.{Members}
use Rattle.ar_disks.specs.Members.{AreApart}
use Rattle.ar_extents.specs.declared.health.Health.TheVariants.{Broken}
use Rattle.ar_extents.specs.Set.{SetState}
use Rattle.ar_extents.proofs.Losses.{lost_or_sound, lost_missing_or_broken, other_sound}
use Rattle.ar_mirror.specs.Slots.{mirror_slots_of, one_of, other_of}
use Rattle.ar_mirror.specs.Holds.{Holds, standing}
use Rattle.ar_mirror.proofs.SlotLemmas.{pair_apart}

-- while the set isn't broken, what stands in a slot is the block that it holds
pub standing_is : (s : SetState) (m : Members) (slot : ℕ) (block : List ℕ) → AreApart m
    → slot < mirror_slots_of s.geometry
    → s.health ≢ Broken
    → Holds s m slot block → standing s m slot ≡ block
standing_is s m slot block apart lt healthy has =
    let one = one_of s.geometry m slot in
    let other = other_of s.geometry m slot in
    elim (lost_or_sound s one) [
      | inr sound ↦ rw sound (has.one_has sound)
      | inl lost ↦
          elim (lost_missing_or_broken s one lost) [
            | inl missing ↦
                rw lost (has.other_has (other_sound s one other missing (pair_apart s.geometry m slot apart lt)))
            | inr broken ↦ absurd (healthy broken)
          ]
    ]

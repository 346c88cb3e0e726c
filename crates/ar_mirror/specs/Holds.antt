-- The block that a slot of a mirrored group holds.
use Rattle.std.specs.Prelude.{◌≡◌, ℕ, List, if◌then◌else◌}
use Rattle.ar_disks.specs.declared.address.Place.{Place}
use Rattle.ar_disks.specs.declared.address.Members.{Members}
use Rattle.ar_extents.specs.Health.{is_lost}
use Rattle.ar_extents.specs.Set.{SetState, content, IsSound}
use Rattle.ar_mirror.specs.Slots.{one_of, other_of, row_of}

-- each of two extents that is usable has this block in the row
pub record BothHave (s : SetState) (one other : Place) (row : ℕ) (block : List ℕ) : Type 0 where
  pub one_has : IsSound s one → content s one row ≡ block
  pub other_has : IsSound s other → content s other row ≡ block

-- the slot holds this block: each usable member of its pair has it
abbrev pub Holds : SetState → Members → ℕ → List ℕ → Type 0
Holds s m slot block = BothHave s (one_of s.geometry m slot) (other_of s.geometry m slot) (row_of s.geometry slot) block

-- the content of the first of two extents if that one is usable, else of the other
abbrev pub content_of_pair : SetState → Place → Place → ℕ → List ℕ
content_of_pair s one other row =
    if is_lost s.health one.disk one.extent then content s other row else content s one row

-- the block stored in a slot: the content of its first member if that one is usable, else of the other
abbrev pub standing : SetState → Members → ℕ → List ℕ
standing s m slot = content_of_pair s (one_of s.geometry m slot) (other_of s.geometry m slot) (row_of s.geometry slot)

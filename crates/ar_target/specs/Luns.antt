-- REPORT LUNS: which of the host's units there are.
use Rattle.std.specs.Prelude.{◌≡◌, ◌<◌, ℕ, ◌+◌, ◌*◌, Bool, true, if◌then◌else◌, List, [], ◌∷◌, ◌++◌, length, take}
use Rattle.std.specs.Prelude.{None}
use Rattle.std.specs.Int.{w32, to_be_bytes}
use Rattle.std.specs.List.{flat_map}
use Rattle.ar_scsi.specs.declared.reply.Reply.{Reply}
use Rattle.ar_scsi.specs.Reply.{good, busy}
use Rattle.ar_frames.specs.Conversation.{Commands}
use Rattle.ar_target.specs.OwnCommands.{inquiry_cdb, presence_of, handed_on, IsReturned, LooksFor}

-- the number of LUNs that a host's units may have
abbrev pub lun_count : ℕ
lun_count = 8

-- a LUN in eight bytes, single level (SAM-3, Single level logical unit number structure)
abbrev pub lun_entry : ℕ → List ℕ
lun_entry lun = 0x00 ∷ lun ∷ 0x00 ∷ 0x00 ∷ 0x00 ∷ 0x00 ∷ 0x00 ∷ 0x00 ∷ []

-- REPORT LUNS parameter data: LUN LIST LENGTH in bytes, four reserved bytes, the LUNs (SPC-3, REPORT LUNS command)
abbrev pub lun_list : List ℕ → List ℕ
lun_list luns = to_be_bytes w32 (8 * length luns) ++ ((0x00 ∷ 0x00 ∷ 0x00 ∷ 0x00 ∷ []) ++ flat_map lun_entry luns)

-- the LUN, if there is a unit
abbrev pub lun_if : Bool → ℕ → List ℕ
lun_if there lun = if there then lun ∷ [] else []

-- a LUN was looked for, and is appended if there is a unit
pub record SeeksLun {P : Type 0} (commands : Commands P) (old : P) (lun : ℕ) (luns luns' : List ℕ)
    (new : P) : Type 0 where
  pub there : Bool
  pub looked : LooksFor commands old lun there new
  pub appended : luns' ≡ luns ++ lun_if there lun

-- the LUNs below a number were looked for, ascending, and there are units at these
pub data FindsLuns {P : Type 0} (commands : Commands P) (old : P) : ℕ → List ℕ → P → Type 0 where
  none_sought : FindsLuns commands old 0 [] old
  one_sought :
      (lun : ℕ) (luns luns' : List ℕ) (mid new : P) → FindsLuns commands old lun luns mid
      → SeeksLun commands mid lun luns luns' new → FindsLuns commands old (lun + 1) luns' new

-- INQUIRY at a LUN didn't state whether there is a unit, and its reply is the answer; or memory for the LUN ran out
pub data StopsLooking {P : Type 0} (commands : Commands P) (old : P) (lun : ℕ) : Reply → P → Type 0 where
  unstated :
      (own_reply : Reply) (new : P) → commands old lun inquiry_cdb [] own_reply new → presence_of own_reply ≡ None
      → StopsLooking commands old lun (handed_on own_reply) new
  unheld : (new : P) → LooksFor commands old lun true new → StopsLooking commands old lun busy new

-- the LUNs of all units were returned, or the search for them has stopped
pub data ReportsLuns {P : Type 0} (commands : Commands P) (len : ℕ) (old : P) : Reply → P → Type 0 where
  all_reported :
      (luns : List ℕ) (reply : Reply) (new : P) → FindsLuns commands old lun_count luns new
      → IsReturned (good (take len (lun_list luns))) reply → ReportsLuns commands len old reply new
  search_stopped :
      (lun : ℕ) (luns : List ℕ) (reply : Reply) (mid new : P) → lun < lun_count → FindsLuns commands old lun luns mid
      → StopsLooking commands mid lun reply new → ReportsLuns commands len old reply new

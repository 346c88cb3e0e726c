-- What calls on a parity group return.
use Rattle.std.specs.Prelude.{◌≡◌, ◌≢◌, ◌<◌, ℕ, List}
use Rattle.ar_disks.specs.declared.address.Members.{Members}
use Rattle.ar_disks.specs.Block.{with_sectors}
use Rattle.ar_disks.specs.Members.{member}
use Rattle.ar_extents.specs.declared.health.Health.TheVariants.{Broken as AllBroken}
use Rattle.ar_extents.specs.Health.{IsRebuilding}
use Rattle.ar_extents.specs.Set.{SetState, content}
use Rattle.ar_extents.specs.Access.{next_place, IsGivenUp}
use Rattle.ar_extents.specs.Groups.{outcome_of}
use Rattle.ar_extents.specs.Plans.{CarriesOut}
use Rattle.ar_disks.specs.declared.completion.Completion.{Completion}
use Rattle.ar_disks.specs.declared.completion.Completion.TheVariants.{Done, Broken}
use Rattle.ar_extents.specs.declared.outcome.RowOutcome.{RowOutcome}
use Rattle.ar_extents.specs.declared.outcome.RowOutcome.TheVariants.{Done as RowDone, GivenUp, Broken as RowBroken}
use Rattle.ar_parity.specs.Row.{Blocks, block, changed, parity_position}
use Rattle.ar_parity.specs.Group.{Holds, RowAgrees}
use Rattle.ar_parity.specs.Plans.{parity_write}

-- a call returns `Broken` exactly where the set has failed after it
abbrev pub ReportsFailure : SetState → Completion → Type 0
ReportsFailure s Done = s.health ≢ AllBroken
ReportsFailure s Broken = s.health ≡ AllBroken

-- one slot was written, with exactly these accesses: every other slot keeps its block
pub record WritesOneSlot (old new : SetState) (m : Members) (slot : ℕ) (result : Completion) : Type 0 where
  pub outcome : result ≡ outcome_of new.health
  pub slots : (k : ℕ) → k ≢ slot → (b : List ℕ) → Holds old m k b → Holds new m k b
  pub plan : CarriesOut (parity_write m slot) old new

-- Whatever four blocks the stripe agreed on, it agrees on them with the new block at its position and the new parity.
pub record UpdatesStripe (old new : SetState) (m : Members) (row position : ℕ) (bytes : List ℕ) : Type 0 where
  pub agrees : (blocks : Blocks) → RowAgrees old m row blocks
      → RowAgrees new m row (changed blocks position (parity_position row) bytes)

-- the same of a block of which a part is overwritten, from sector `first` on
pub record UpdatesPart (old new : SetState) (m : Members) (row position first : ℕ) (bytes : List ℕ) : Type 0 where
  pub agrees : (blocks : Blocks) → RowAgrees old m row blocks
      → RowAgrees new m row
      (changed blocks position (parity_position row) (with_sectors (block blocks position) first bytes))

-- the member at this position is the extent that is rebuilt next
pub record IsRebuiltNext (s : SetState) (m : Members) (position : ℕ) : Type 0 where
  pub below : position < 4
  pub rebuilding : IsRebuilding s.health
  pub next : member m position ≡ next_place s

-- The member's row has the block that agrees with the three others, and health is unchanged.
pub record IsRebuilt (old new : SetState) (m : Members) (position row : ℕ) : Type 0 where
  pub agrees : (blocks : Blocks) → RowAgrees old m row blocks
      → content new (member m position) row ≡ block blocks position
  pub health : new.health ≡ old.health

-- what each outcome of a row's rebuild means
abbrev pub Rebuilds : SetState → SetState → Members → ℕ → ℕ → RowOutcome → Type 0
Rebuilds old new m position row RowDone = IsRebuilt old new m position row
Rebuilds old new m position row GivenUp = IsGivenUp old new
Rebuilds old new m position row RowBroken = new.health ≡ AllBroken

-- What a demotion and a cleaning step do.
use Rattle.std.specs.Prelude.{◌≡◌, ◌≢◌, ◌↔◌, ◌≤◌, IsTrue}
use Rattle.ar_extents.specs.declared.health.Health.TheVariants.{Broken as AllBroken}
use Rattle.ar_book.specs.Tables.{free_groups}
use Rattle.ar_moves.specs.declared.step.Move.{Move}
use Rattle.ar_moves.specs.declared.step.Move.TheVariants.{Idle, Broken}
use Rattle.ar_moves.specs.Moves.{IfMoved, LeavesBlocks, IsLeft}
use Rattle.ar_moves.specs.Demotion.{DemotesBlock, NamesNoDemotion, MayHaveOpened, LeavesReady, CarriesOutDemotion}
use Rattle.ar_moves.specs.Cleaning.{CleansBlock, NothingToClean, CarriesOutCleaning}
use Rattle.ar_volume.specs.Image.{ArrayState, is_broken}

-- Both keep the contents of every block, and the cache. Broken is returned exactly if the array has failed afterwards.
pub record MovesBlock (old : ArrayState) (answer : Move) (new : ArrayState) : Type 0 where
  pub leaves : LeavesBlocks old.store new.store
  pub cache : new.cache ≡ old.cache
  pub broken : (answer ≡ Broken) ↔ IsTrue (is_broken new)

-- The block that the rule of demotion names moved to the slot that it names, in a group that was opened if the rule
-- says so; or the rule names nothing, and nothing changed. If the step fails the array, a group that the rule opens is
-- open. The other slots of the block's new group keep their blocks, and exactly the move's accesses were made.
pub record DemotesOne (old : ArrayState) (answer : Move) (new : ArrayState) : Type 0 where
  pub moves : MovesBlock old answer new
  pub moved : IfMoved answer (DemotesBlock old.store new.store)
  pub idle : answer ≡ Idle → IsLeft old.store new.store (NamesNoDemotion old.store.book)
  pub nothing : NamesNoDemotion old.store.book → new.store ≡ old.store
  pub opened : answer ≡ Broken → MayHaveOpened old.store.book new.store.book
  pub ready : answer ≡ Broken → old.store.disks.health ≢ AllBroken → LeavesReady old.store.book new.store.book
  pub plan : CarriesOutDemotion old.store new.store

-- The block that the rule of cleaning names moved to the slot that it names, and less is left to clean; or the rule
-- names nothing, and nothing changed. No group is opened. The other slots of the block's new group keep their blocks,
-- and exactly the move's accesses were made.
pub record CleansOne (old : ArrayState) (answer : Move) (new : ArrayState) : Type 0 where
  pub moves : MovesBlock old answer new
  pub moved : IfMoved answer (CleansBlock old.store new.store)
  pub idle : answer ≡ Idle → IsLeft old.store new.store (NothingToClean old.store.book)
  pub nothing : NothingToClean old.store.book → new.store ≡ old.store
  pub unmoved : answer ≡ Broken → new.store.book ≡ old.store.book
  pub free : free_groups old.store.book ≤ free_groups new.store.book
  pub plan : CarriesOutCleaning old.store new.store

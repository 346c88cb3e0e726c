-- What a step of balancing does.
use Rattle.std.specs.Prelude.{◌≡◌, ◌↔◌, ◌+◌, ◌<◌, IsTrue}
use Rattle.ar_book.specs.Tables.{room}
use Rattle.ar_balance.specs.declared.step.Balance.{Balance}
use Rattle.ar_balance.specs.declared.step.Balance.TheVariants.{Broken}
use Rattle.ar_balance.specs.Balance.{Balances, LeavesAll, IfChanged, gained}
use Rattle.ar_balance.specs.Measure.{balance_left}
use Rattle.ar_volume.specs.Image.{ArrayState, is_broken}

-- The step that the rule of balancing names was done, or the answer says why not. Every block keeps its contents, and
-- the cache stays. The room for units grows by a parity group where a group was formed, and stays otherwise; each
-- change leaves less to balance.
pub record BalancesOne (old : ArrayState) (answer : Balance) (new : ArrayState) : Type 0 where
  pub does : Balances old.store new.store answer
  pub leaves : LeavesAll old.store new.store
  pub more_room : room new.store.book ≡ room old.store.book + gained old.store.book.geometry answer
  pub less : IfChanged answer (balance_left new.store.disks < balance_left old.store.disks)
  pub broken : (answer ≡ Broken) ↔ IsTrue (is_broken new)
  pub cache : new.cache ≡ old.cache

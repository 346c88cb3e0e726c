-- Whatever changes a table leaves less to be balanced.
use Rattle.std.proofs.Common.{◌≡◌, ◌<◌, ℕ, sym, ap, subst}
use Rattle.ar_disks.specs.declared.address.Place.{Place}
use Rattle.ar_extents.specs.Set.{SetState, IsValidSet}
use Rattle.ar_book.specs.Tables.{Tables, class_of}
use Rattle.ar_store.specs.Store.{StoreState, store_of}
use Rattle.ar_store.specs.Kept.{IsSpace}
use Rattle.ar_balance.specs.declared.step.Balance.{Balance}
use Rattle.ar_balance.specs.declared.step.Balance.TheVariants.{Formed, Shifted, GivenUp, NoMemory, Idle, Broken}
use Rattle.ar_balance.specs.Rule.{NamesShift}
use Rattle.ar_balance.specs.Copies.{IsFilled}
use Rattle.ar_balance.specs.Balance.{Balances, IfChanged, switched}
use Rattle.ar_balance.specs.Measure.{balance_left}
use Rattle.ar_balance.proofs.Less.{formed_falls, switched_falls}
use Rattle.ar_balance.proofs.Switching.{target_there, target_loose, source_there, source_used, filled_written}

-- the sum goes by the marks alone
pub switched_marks : (a b : SetState) (from to : Place) → b.loose ≡ a.loose
    → balance_left (switched b from to) ≡ balance_left (switched a from to)
switched_marks a b from to same = ap (λ l. balance_left (switched (record a { loose = l }) from to)) same

-- an extent was copied to another disk, and moved there
pub shifted_falls : (a b : SetState) (t : Tables) (g p : ℕ) (from to : Place) → IsValidSet a → IsSpace (store_of a t)
    → NamesShift (store_of a t) g p from to
    → IsFilled (class_of t g) a b from to → balance_left (switched b from to) < balance_left a
shifted_falls a b t g p from to kept space names filled =
    let written = filled_written (class_of t g) a b from to names.whole filled in
    let falls = switched_falls a from to kept (source_there a t g p from to kept space names)
    (target_there a t g p from to kept space names)
    (source_used a t g p from to kept space names) (target_loose a t g p from to kept space names) names.uneven in
    subst (λ n. n < balance_left a) (sym (switched_marks a b from to written.loose)) falls

pub balances_fall : (old new : StoreState) (answer : Balance) → IsSpace old → IsValidSet old.disks
    → Balances old new answer
    → IfChanged answer (balance_left new.disks < balance_left old.disks)
balances_fall old new (Formed group) space kept done =
    subst (λ (s : StoreState). balance_left s.disks < balance_left old.disks) (sym done.formed)
    (formed_falls old.disks done.members kept done.names.fullest)
balances_fall old new (Shifted group from to) space kept done =
    subst (λ (s : StoreState). balance_left s.disks < balance_left old.disks) (sym done.tables)
    (shifted_falls old.disks done.copied old.book group done.position done.from done.to kept space done.names
    done.filled)
balances_fall old new GivenUp space kept done = tt
balances_fall old new NoMemory space kept done = tt
balances_fall old new Idle space kept done = tt
balances_fall old new Broken space kept done = tt

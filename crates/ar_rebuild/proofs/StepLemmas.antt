-- What a step of a rebuild leaves of a store.
use Rattle.std.proofs.Common.{◌≡◌, ◌≢◌, ℕ, ◌+◌, ◌<◌, List, refl, sym, ap, subst, ◌∙◌}
use Rattle.ar_disks.specs.declared.address.Place.{Place}
use Rattle.ar_disks.specs.Geometry.{block_len_of}
use Rattle.ar_extents.specs.declared.health.Health.{Health}
use Rattle.ar_extents.specs.declared.health.Health.TheVariants.{Whole, Out, Rebuilding, Broken}
use Rattle.ar_extents.specs.declared.outcome.RowOutcome.TheVariants.{Done as RowDone, GivenUp as RowGivenUp}
use Rattle.ar_extents.specs.declared.outcome.RowOutcome.TheVariants.{Broken as RowBroken}
use Rattle.ar_extents.specs.Health.{IsRebuilding, rebuilt_disk, next_extent}
use Rattle.ar_extents.specs.Set.{SetState, faults_of}
use Rattle.ar_extents.specs.Changes.{with_done}
use Rattle.ar_book.specs.Tables.{Tables, free_groups}
use Rattle.ar_store.specs.Store.{StoreState, store_of}
use Rattle.ar_store.specs.Slots.{SlotsHold, AllStand}
use Rattle.ar_store.specs.Kept.{IsSpace, FieldsAgree}
use Rattle.ar_store.specs.declared.space.Space.{Space}
use Rattle.ar_store.specs.Spaces.{store_in, IsReady}
use Rattle.ar_store.proofs.Spaces.{HaveShape}
use Rattle.ar_store.proofs.Alike.{slots_alike, space_alike, all_alike}
use Rattle.ar_rebuild.specs.Plans.{after_answer, CarriesOutRebuild}
use Rattle.ar_rebuild.specs.Rows.{WritesNext, CanBeDone, StopsWriting}
use Rattle.ar_rebuild.specs.declared.step.Rebuild.{Rebuild}
use Rattle.ar_rebuild.specs.declared.step.Rebuild.TheVariants.{Rebuilt, Finished, Idle, GivenUp, Broken as Lost}
use Rattle.ar_rebuild.specs.Rebuild.{NothingToRebuild, IsRebuildFailed, RebuildsExtent, StopsRebuild, MarksDone}
use Rattle.ar_rebuild.specs.Rebuild.{Advances}
use Rattle.ar_rebuild.proofs.Writing.{writes_alike}
use Rattle.ar_rebuild.proofs.ExtentLemmas.{rebuilding_is}
use Rattle.ar_rebuild.proofs.Advancing.{rebuilding_not_broken}

-- each slot holds what it held, each block stands, and the tables agree with the disks
pub record IsUnharmed (a b : SetState) (t u : Tables) : Type 0 where
  pub space : IsSpace (store_of b u)
  pub slots : SlotsHold (store_of a t) (store_of b u)
  pub stand : AllStand (store_of a t) (store_of b u)

unharmed : (a b : SetState) (t u : Tables) (place : Place) → u ≡ t → IsSpace (store_of a t)
    → a.health ≡ Rebuilding place.disk place.extent → HaveShape a b
    → SlotsHold (store_of a t) (store_of b t) → IsUnharmed a b t u
unharmed a b t u place same space is shape slots =
    subst (λ (x : Tables). IsUnharmed a b t x) (sym same) (record {
      space = space_alike a b t space shape slots;
      slots = slots;
      stand = all_alike a b t space shape slots
          (λ sound broken. rebuilding_not_broken place.disk place.extent (sym is ∙ broken));
    })

writes_shape : (a b : SetState) → WritesNext a b → HaveShape a b
writes_shape a b writes =
    record {
      geometry = writes.follows.geometry;
      extents = writes.follows.extents;
      count = writes.follows.count;
      loose = writes.loose;
    }

-- rows were written, and no extent counts as done
pub unharmed_stopped : (a b : SetState) (t u : Tables) (place : Place) → u ≡ t → IsSpace (store_of a t)
    → a.health ≡ Rebuilding place.disk place.extent → WritesNext a b
    → IsUnharmed a b t u
unharmed_stopped a b t u place same space is writes =
    unharmed a b t u place same space is (writes_shape a b writes)
    (slots_alike a b t (writes_alike a b (rebuilding_is a place is) writes))

-- all were, and it does
pub unharmed_done : (a b d : SetState) (t u : Tables) (place : Place) → u ≡ t → IsSpace (store_of a t)
    → a.health ≡ Rebuilding place.disk place.extent → WritesNext a b
    → CanBeDone (store_of a t) (store_of b u) → d ≡ with_done b → IsUnharmed a d t u
unharmed_done a b d t u place same space is writes done counted =
    subst (λ (x : SetState). IsUnharmed a x t u) (sym counted)
    (let shape = writes_shape a b writes in
    unharmed a (with_done b) t u place same space is
    (record { geometry = shape.geometry; extents = shape.extents; count = shape.count; loose = shape.loose })
    (subst (λ (x : Tables). SlotsHold (store_of a t) (store_of (with_done b) x)) same done.slots))

-- what is returned of an extent that counts as done
pub counted : (r : Rebuild) (a b d : SetState) → b.health ≡ a.health → b.extents ≡ a.extents
    → ((x : ℕ) → faults_of b x ≡ faults_of a x)
    → MarksDone b d r → RebuildsExtent a d r
counted (Rebuilt extent left) a b d health extents calm counts = record {
  was = sym health ∙ counts.was ∙ ap (λ h. Rebuilding (rebuilt_disk h) extent) health;
  rest = counts.rest ∙ extents;
  some = counts.some;
  health = counts.health ∙ ap (λ h. Rebuilding (rebuilt_disk h) (extent + 1)) health;
  calm = λ x. counts.calm x ∙ calm x;
}
counted Finished a b d health extents calm counts = record {
  was = subst (λ (h : Health). IsRebuilding h) health counts.was;
  last = ap (λ h. next_extent h + 1) (sym health) ∙ counts.last ∙ extents;
  health = counts.health;
  calm = λ x. counts.calm x ∙ calm x;
}
counted Idle a b d health extents calm counts = absurd counts
counted GivenUp a b d health extents calm counts = absurd counts
counted Lost a b d health extents calm counts = absurd counts

-- then it does
pub counted_is : (r : Rebuild) (b d : SetState) → d ≡ with_done b → MarksDone b d r → d ≡ after_answer r b
counted_is (Rebuilt extent left) b d is counts = is
counted_is Finished b d is counts = is
counted_is Idle b d is counts = absurd counts
counted_is GivenUp b d is counts = absurd counts
counted_is Lost b d is counts = absurd counts

-- and no row was left
pub done_stops : (r : Rebuild) (s : StoreState) (b d : SetState) → MarksDone b d r → StopsRebuild s d r
done_stops (Rebuilt extent left) s b d counts = tt
done_stops Finished s b d counts = tt
done_stops Idle s b d counts = absurd counts
done_stops GivenUp s b d counts = absurd counts
done_stops Lost s b d counts = absurd counts

-- where a disk is being rebuilt there is something to rebuild
pub was_rebuilding : (h : Health) → IsRebuilding h → NothingToRebuild h → ⊥
was_rebuilding Whole is quiet = is
was_rebuilding (Out x) is quiet = is
was_rebuilding (Rebuilding x done) is quiet = quiet
was_rebuilding Broken is quiet = is

-- no disk is being rebuilt, and nothing is accessed
unasked : (s : StoreState) (r : Rebuild) → (IsRebuilding s.disks.health → ⊥) → after_answer r s.disks ≡ s.disks
    → CarriesOutRebuild s r s.disks
unasked s r none same = record {
  written = s.disks;
  accesses = record { plan = λ g i next. absurd (none next.rebuilding); nothing = λ _. refl; idle = λ _. refl };
  done = sym same;
}

pub idle_accesses : (s : StoreState) → NothingToRebuild s.disks.health → CarriesOutRebuild s Idle s.disks
idle_accesses s quiet = unasked s Idle (λ is. was_rebuilding s.disks.health is quiet) refl

pub failed_accesses : (s : StoreState) → s.disks.health ≡ Broken → CarriesOutRebuild s Lost s.disks
failed_accesses s broken = unasked s Lost (λ is. subst (λ (h : Health). IsRebuilding h) broken is) refl

-- an array that had failed before
pub failed_before : (s : SetState) → s.health ≡ Broken → IsRebuildFailed s s
failed_before s broken = record {
  was = λ quiet. subst (λ (h : Health). NothingToRebuild h) broken quiet;
  failed = record { broken = broken; spared = refl };
}

pub failed_stops : (s : StoreState) → s.disks.health ≡ Broken → StopsWriting s s.disks
failed_stops s broken =
    record { stops = λ g i next. absurd (subst (λ (h : Health). IsRebuilding h) broken next.rebuilding) }

-- a row that wasn't written isn't done
pub given_up_not_done : RowGivenUp ≢ RowDone
given_up_not_done e = cc

pub broken_not_done : RowBroken ≢ RowDone
broken_not_done e = cc

-- a store whose disk is rebuilt keeps what it kept
pub fields_advanced : {X : Type 0} (a b : Space X) (block : List ℕ) → a.disks.health ≢ Broken
    → FieldsAgree (store_in a) block a.scratch.geometry → IsReady b
    → b.book ≡ a.book → Advances a.disks b.disks → FieldsAgree (store_in b) block b.scratch.geometry
fields_advanced a b block sound old ready book advances = record {
  kept = record
      { space = ready.space; free = λ _. subst (λ (t : Tables). 0 < free_groups t) (sym book) (old.kept.free sound) };
  block_len = old.block_len ∙ ap block_len_of (sym advances.geometry);
  scratch_same = ready.scratch;
}

-- A store of which a disk is taken out.
use Rattle.std.proofs.Common.{◌≡◌, ◌≢◌, ℕ, List, Result, Ok, Err, OnOk, OnErr, refl, sym, ap, subst}
use Rattle.std.proofs.lemmas.List.{set-get_or}
use Rattle.ar_disks.specs.Disk.{DiskState}
use Rattle.ar_disks.specs.declared.geometry.Geometry.{Geometry}
use Rattle.ar_extents.specs.declared.health.Health.TheVariants.{Broken}
use Rattle.ar_extents.specs.Health.{after_fault}
use Rattle.ar_extents.specs.Set.{SetState, no_disk, disk_in}
use Rattle.ar_extents.specs.Changes.{failed}
use Rattle.ar_extents.specs.Groups.{without_disk}
use Rattle.ar_book.specs.Tables.{Tables, group_in, class_of}
use Rattle.ar_store.specs.Store.{store_of}
use Rattle.ar_store.specs.Slots.{SlotHolds, SlotsHold, AllStand}
use Rattle.ar_store.specs.Kept.{IsSpace, FieldsAgree}
use Rattle.ar_store.proofs.Alike.{space_alike, all_alike}
use Rattle.ar_store.proofs.Classes.{class_without}
use Rattle.ar_store.proofs.Spaces.{HaveShape}

-- a disk that is taken out is lost, with what stands on it
without_itself : (s : SetState) (d : ℕ) → without_disk s d (disk_in s.disks d) ≡ failed s d
without_itself s d =
    ap (λ (disks : List DiskState). let new : SetState = record s { disks = disks; health = after_fault s.health d } in
    new) (set-get_or s.disks d no_disk)

-- a set that isn't broken once a disk is out wasn't before
sound_before : (s : SetState) (d : ℕ) → (failed s d).health ≢ Broken → s.health ≢ Broken
sound_before s d sound broken = sound (ap (λ h. after_fault h d) broken)

-- every slot holds what it held, on disks of the same shape
failed_slots : (s : SetState) (t : Tables) (d : ℕ) → SlotsHold (store_of s t) (store_of (failed s d) t)
failed_slots s t d = record {
  slots = λ slot block has holds.
      subst (λ (x : SetState). SlotHolds (store_of x t) slot block) (without_itself s d)
      (class_without (class_of t slot.group) s (group_in t.groups slot.group).members slot.slot block d
      (disk_in s.disks d) holds);
}

failed_shape : (s : SetState) (d : ℕ) → HaveShape s (failed s d)
failed_shape s d = record { geometry = refl; extents = refl; count = refl; loose = refl }

-- the store keeps what it kept
pub fields_failed : (s : SetState) (t : Tables) (d : ℕ) (block : List ℕ) (g : Geometry)
    → FieldsAgree (store_of s t) block g → FieldsAgree (store_of (failed s d) t) block g
fields_failed s t d block g old = record {
  kept = record {
    space = space_alike s (failed s d) t old.kept.space (failed_shape s d) (failed_slots s t d);
    free = λ sound. old.kept.free (sound_before s d sound);
  };
  block_len = old.block_len;
  scratch_same = old.scratch_same;
}

-- every block stands as it did
pub all_failed : (s : SetState) (t : Tables) (d : ℕ) → IsSpace (store_of s t)
    → AllStand (store_of s t) (store_of (failed s d) t)
all_failed s t d space =
    all_alike s (failed s d) t space (failed_shape s d) (failed_slots s t d) (λ sound. sound_before s d sound)

-- a call of the disks that leaves them alone where it is refused
pub after_failing : {A E : Type 0} (r : Result A E) (P : SetState → Type 0) (old new changed : SetState)
    → OnOk r (new ≡ changed) → OnErr r (new ≡ old) → P changed → P old → P new
after_failing (Ok x) P old new changed is same then before = subst P (sym is) then
after_failing (Err e) P old new changed is same then before = subst P (sym same) before

-- A store of which a disk is replaced: none of its extents is used before it is rebuilt, as none was while it was out.
use Rattle.std.proofs.Common.{◌≡◌, ◌≢◌, inl, inr, ℕ, Bool, true, false, eqb, leb, ◌&&◌, List}
use Rattle.std.proofs.Common.{None, refl, sym, ap, ◌∙◌, true≢false, arith}
use Rattle.std.proofs.lemmas.Bool.{le-leb}
use Rattle.std.proofs.lemmas.Bool.Decides.{eqb_tells}
use Rattle.std.proofs.lemmas.List.{length-set}
use Rattle.ar_disks.specs.Disk.{DiskState}
use Rattle.ar_disks.specs.declared.address.Place.{Place}
use Rattle.ar_disks.specs.declared.geometry.Geometry.{Geometry}
use Rattle.ar_extents.specs.declared.health.Health.TheVariants.{Out, Broken}
use Rattle.ar_extents.specs.Health.{is_lost}
use Rattle.ar_extents.specs.Set.{SetState, IsSound}
use Rattle.ar_extents.specs.Changes.{is_broken_set, replace_refusal, replaced}
use Rattle.ar_extents.proofs.Changes.{taken_out}
use Rattle.ar_extents.proofs.Follows.{keeps_replaced}
use Rattle.ar_book.specs.Tables.{Tables}
use Rattle.ar_store.specs.Store.{store_of}
use Rattle.ar_store.specs.Slots.{SlotsHold, AllStand}
use Rattle.ar_store.specs.Kept.{IsSpace, FieldsAgree}
use Rattle.ar_store.proofs.Spaces.{HaveShape}
use Rattle.ar_store.proofs.Alike.{AreAlike, slots_alike, space_alike, all_alike}

both : (b c : Bool) → c ≡ true → (b && c) ≡ false → b ≡ false
both true c is none = absurd (true≢false (sym is ∙ none))
both false c is none = refl

-- an extent that is used isn't the new disk's, and was used before
sound_replaced : (s : SetState) (d : ℕ) (disk : DiskState) (p : Place) → s.health ≡ Out d
    → IsSound (replaced s d disk) p → (p.disk ≢ d) × IsSound s p
sound_replaced s d disk p was used =
    let other : eqb p.disk d ≡ false = both (eqb p.disk d) (leb 0 p.extent) (le-leb 0 p.extent (omega arith)) used in (
      (λ same. elim (eqb_tells p.disk d) [ inl is ↦ true≢false (sym is.0 ∙ other) | inr apart ↦ apart.1 same ]),
      ap (λ h. is_lost h p.disk p.extent) was ∙ other,
    )

replaced_alike : (s : SetState) (d : ℕ) (disk : DiskState) → s.health ≡ Out d → AreAlike s (replaced s d disk)
replaced_alike s d disk was = record {
  geometry = refl;
  sound = λ p used. (sound_replaced s d disk p was used).1;
  same = λ p row used. (keeps_replaced s d disk).rows p (sound_replaced s d disk p was used).0 row;
}

replaced_shape : (s : SetState) (d : ℕ) (disk : DiskState) → HaveShape s (replaced s d disk)
replaced_shape s d disk = record { geometry = refl; extents = refl; count = length-set s.disks d disk; loose = refl }

out_sound : (s : SetState) (d : ℕ) → s.health ≡ Out d → s.health ≢ Broken
out_sound s d was broken = true≢false (sym (ap is_broken_set (sym was ∙ broken)))

module _ (s : SetState) (t : Tables) (d : ℕ) (disk : DiskState) (taken : replace_refusal s d disk ≡ None) where
  -- every slot holds what it held,
  pub slots_replaced : SlotsHold (store_of s t) (store_of (replaced s d disk) t)
  slots_replaced = slots_alike s (replaced s d disk) t (replaced_alike s d disk (taken_out s d disk taken))

  -- the store keeps what it kept,
  pub fields_replaced : (block : List ℕ) (g : Geometry) → FieldsAgree (store_of s t) block g
      → FieldsAgree (store_of (replaced s d disk) t) block g
  fields_replaced block g old = record {
    kept = record {
      space = space_alike s (replaced s d disk) t old.kept.space (replaced_shape s d disk) slots_replaced;
      free = λ sound. old.kept.free (out_sound s d (taken_out s d disk taken));
    };
    block_len = old.block_len;
    scratch_same = old.scratch_same;
  }

  -- and every block stands as it did
  pub all_replaced : IsSpace (store_of s t) → AllStand (store_of s t) (store_of (replaced s d disk) t)
  all_replaced space =
      all_alike s (replaced s d disk) t space (replaced_shape s d disk) slots_replaced
      (λ sound. out_sound s d (taken_out s d disk taken))

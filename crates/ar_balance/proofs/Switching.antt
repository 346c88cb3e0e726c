-- A group's extent moves to another disk, or is left where it was as a disk faulted.
use Rattle.std.proofs.Common.{◌≡◌, ◌≢◌, inl, inr, ℕ, ◌<◌, true, false, length, Some, refl, sym, ap, subst, ◌∙◌, arith}
use Rattle.std.proofs.Common.{true≢false}
use Rattle.std.proofs.lemmas.Bool.Decides.{eqb_tells}
use Rattle.ar_disks.specs.declared.address.Members.{Members}
use Rattle.ar_disks.specs.declared.address.Place.{Place}
use Rattle.ar_disks.specs.Geometry.{rows_of}
use Rattle.ar_disks.specs.Members.{member, with_member}
use Rattle.ar_extents.specs.declared.health.Health.{Health}
use Rattle.ar_extents.specs.declared.health.Health.TheVariants.{Whole, Broken}
use Rattle.ar_extents.specs.Changes.{is_broken_set}
use Rattle.ar_extents.specs.Health.{is_lost}
use Rattle.ar_extents.specs.Set.{SetState, HasExtent, IsValidSet, IsSound, content}
use Rattle.ar_extents.specs.Loose.{is_loose, taken}
use Rattle.ar_extents.specs.Follows.{Anywhere}
use Rattle.ar_extents.proofs.Follows.{keeps_disks, keeps_refl, follows_refl, follows_then, follows_loose}
use Rattle.ar_extents.proofs.Follows.{has_extent_then}
use Rattle.ar_extents.proofs.LooseLemmas.{is_loose-taken, is_loose-marked_other}
use Rattle.ar_book.specs.declared.class.Class.{Class}
use Rattle.ar_book.specs.declared.class.Class.TheVariants.{Free, Mirrored, Parity}
use Rattle.ar_book.specs.Tables.{Tables, group_in, class_of}
use Rattle.ar_book.specs.Changes.{shifted}
use Rattle.ar_book.specs.Choices.{IsUnused}
use Rattle.ar_book.proofs.GroupChanges.{member_same, member_other}
use Rattle.ar_book.proofs.AfterForm.{shifted_group_count, shifted_class, shifted_key, shifted_members}
use Rattle.ar_book.proofs.AfterForm.{shifted_members_other, shifted_agrees}
use Rattle.ar_store.specs.Store.{store_of}
use Rattle.ar_store.specs.Kept.{IsSpace}
use Rattle.ar_store.proofs.Copies.{IsCopy}
use Rattle.ar_balance.specs.Rule.{NamesShift}
use Rattle.ar_balance.specs.Copies.{HasWritten, IsCutShort, IsFilled}
use Rattle.ar_balance.specs.Balance.{LeavesAll, switched}
use Rattle.ar_balance.proofs.Loose.{lowest_there, member_not_loose, loose_unused, used_taken}
use Rattle.ar_balance.proofs.Carrying.{IsCarried, space_carried, all_carried}

whole_not_broken : Whole ≢ Broken
whole_not_broken e = true≢false (sym (ap is_broken_set e))

-- on whole disks every extent is sound
whole_sound : (s : SetState) (p : Place) → s.health ≡ Whole → IsSound s p
whole_sound s p whole = ap (λ (h : Health). is_lost h p.disk p.extent) whole

-- what was written where no disk faulted, also where nothing was
pub filled_written : (class : Class) (a b : SetState) (from to : Place) → a.health ≡ Whole → IsFilled class a b from to
    → HasWritten a b to
filled_written Free a b from to whole same =
    subst (λ (x : SetState). HasWritten a x to) (sym same)
    (record {
      follows = follows_refl a;
      loose = refl;
      keeps = keeps_refl (λ p. p ≢ to) a;
      health = whole;
      faults = λ d. refl;
    })
filled_written Mirrored a b from to whole all = all.copied.written
filled_written Parity a b from to whole all = all.copied.written

-- and which rows stand in the new extent
filled_rows : (class : Class) (a b : SetState) (from to : Place) → class ≢ Free → IsFilled class a b from to
    → (row : ℕ) → row < rows_of a.geometry → content b to row ≡ content a from row
filled_rows Free a b from to taken_up same = absurd (taken_up refl)
filled_rows Mirrored a b from to taken_up all = all.copied.rows
filled_rows Parity a b from to taken_up all = all.copied.rows

-- an extent that is there and not loose
record IsUsed (s : SetState) (p : Place) : Type 0 where
  there : HasExtent s p
  used : is_loose s p ≡ false

module _ (a : SetState) (t : Tables) (g p : ℕ) (from to : Place) (kept : IsValidSet a) (space : IsSpace (store_of a t))
    (names : NamesShift (store_of a t) g p from to) where
  -- the new extent is there, loose, and in no group
  pub target_there : HasExtent a to
  target_there = (lowest_there a to kept names.most.below names.to_is).there

  pub target_loose : is_loose a to ≡ true
  target_loose = (lowest_there a to kept names.most.below names.to_is).loose

  pub target_unused : IsUnused t to
  target_unused = loose_unused (store_of a t) to space target_loose

  -- the old one is the group's
  pub source_there : HasExtent a from
  source_there =
      subst (λ (x : Place). HasExtent a x) names.from_is
      (space.extents g p names.can.there names.can.stands.range).there

  pub source_used : is_loose a from ≡ false
  source_used =
      subst (λ (x : Place). is_loose a x ≡ false) names.from_is
      (space.extents g p names.can.there names.can.stands.range).used

  pub ends_apart : from ≢ to
  ends_apart same = true≢false (sym target_loose ∙ ap (λ x. is_loose a x) (sym same) ∙ source_used)

  -- A disk faulted: the groups stand where they stood, and no member was written.
  module _ (b : SetState) (cut : IsCutShort a b from to) where
    cut_carried : IsCarried a b t t
    cut_carried = record {
      geometry = cut.follows.geometry;
      sound = λ _ broken. whole_not_broken (sym names.whole ∙ broken);
      agree = space.tables;
      rows = refl;
      homes = λ k. refl;
      keys = λ slot. refl;
      classes = λ h lt. refl;
      parity = λ h lt is. lt;
      copies = λ h lt taken_up. record {
        geometry = cut.follows.geometry;
        usable = λ j range sound. cut.follows.usable (member (group_in t.groups h).members j) sound;
        rows = λ j row range fits.
            cut.keeps.rows (member (group_in t.groups h).members j)
            (member_not_loose (store_of a t) h j to space lt range target_loose) row;
      };
      extents = λ h i lt range.
          let q = member (group_in t.groups h).members i in
          let was = space.extents h i lt range in
          record {
            there = has_extent_then a b q cut.follows was.there;
            used = ap (λ l. is_loose (record a { loose = l }) q) cut.loose ∙ was.used;
          };
    }

    pub space_cut : IsSpace (store_of b t)
    space_cut = space_carried a b t t space cut_carried

    pub leaves_cut : LeavesAll (store_of a t) (store_of b t)
    leaves_cut = record {
      stands = all_carried a b t t space cut_carried;
      units = record { geometry = refl; units = refl; puts = refl };
      follows = cut.follows;
    }

  -- All was copied, and the group has the new extent.
  module _ (b : SetState) (filled : IsFilled (class_of t g) a b from to) where
    written : HasWritten a b to
    written = filled_written (class_of t g) a b from to names.whole filled

    -- of the others none became loose
    used_switched : (q : Place) → q ≢ from → is_loose b q ≡ false → is_loose (switched b from to) q ≡ false
    used_switched q ne used =
        is_loose-marked_other (taken b to.disk (Some to.extent)) from q true ne ∙ used_taken b to q used

    target_used : is_loose (switched b from to) to ≡ false
    target_used =
        is_loose-marked_other (taken b to.disk (Some to.extent)) from to true (λ same. ends_apart (sym same))
        ∙ is_loose-taken b to

    used_then : (q : Place) → q ≢ from → IsUsed a q → IsUsed (switched b from to) q
    used_then q ne was =
        let there = has_extent_then a b q written.follows was.there in
        record {
          there = record { disk = there.disk; extent = there.extent };
          used = used_switched q ne (ap (λ l. is_loose (record a { loose = l }) q) written.loose ∙ was.used);
        }

    was_used : (h i : ℕ) → h < length t.groups → i < 4 → IsUsed a (member (group_in t.groups h).members i)
    was_used h i lt range = let was = space.extents h i lt range in record { there = was.there; used = was.used }

    target_taken : IsUsed (switched b from to) to
    target_taken =
        let there = has_extent_then a b to written.follows target_there in
        record { there = record { disk = there.disk; extent = there.extent }; used = target_used }

    -- the group's extents
    here_used : (i : ℕ) → i < 4
        → IsUsed (switched b from to) (member (with_member (group_in t.groups g).members p to) i)
    here_used i range =
        let m = (group_in t.groups g).members in
        let lt = names.can.there in
        let at = names.can.stands.range in
        elim (eqb_tells i p) [
          | inl same ↦
              subst (λ (x : Place). IsUsed (switched b from to) x)
              (sym (ap (λ k. member (with_member m p to) k) same.1 ∙ member_same m p to)) target_taken
          | inr ne ↦
              subst (λ (x : Place). IsUsed (switched b from to) x) (sym (member_other m p i to at range ne.1))
              (used_then (member m i)
              (λ is. space.tables.groups.apart g lt i p range at ne.1
              (ap (λ (x : Place). x.disk) (is ∙ sym names.from_is)))
              (was_used g i lt range))
        ]

    -- and those of another
    other_used : (h i : ℕ) → h < length t.groups → h ≢ g → i < 4
        → IsUsed (switched b from to) (member (group_in t.groups h).members i)
    other_used h i lt ne range =
        used_then (member (group_in t.groups h).members i)
        (λ is.
        let same = is ∙ sym names.from_is in
        space.tables.groups.disjoint h g lt names.can.there ne i p range names.can.stands.range
        (ap (λ (x : Place). x.disk) same) (ap (λ (x : Place). x.extent) same))
        (was_used h i lt range)

    all_used : (h i : ℕ) → h < length (shifted t g p to).groups → i < 4
        → IsUsed (switched b from to) (member (group_in (shifted t g p to).groups h).members i)
    all_used h i lt range =
        let before : h < length t.groups = subst (λ n. h < n) (shifted_group_count t g p to) lt in
        elim (eqb_tells h g) [
          | inl same ↦
              subst (λ (x : Members). IsUsed (switched b from to) (member x i))
              (sym (ap (λ k. (group_in (shifted t g p to).groups k).members) same.1
              ∙ shifted_members t g p to names.can.there)) (here_used i range)
          | inr ne ↦
              subst (λ (x : Members). IsUsed (switched b from to) (member x i))
              (sym (shifted_members_other t g p to h ne.1)) (other_used h i before ne.1 range)
        ]

    -- what stands in the sets' extents is the same
    content_same : (q : Place) (row : ℕ) → content (switched b from to) q row ≡ content b q row
    content_same q row = (keeps_disks Anywhere b (switched b from to) refl).rows q tt row

    here_copy : class_of t g ≢ Free
        → IsCopy a (switched b from to) (group_in t.groups g).members (with_member (group_in t.groups g).members p to)
    here_copy taken_up =
        let m = (group_in t.groups g).members in
        let lt = names.can.there in
        let at = names.can.stands.range in
        record {
          geometry = written.follows.geometry;
          usable = λ j range sound. whole_sound a (member m j) names.whole;
          rows = λ j row range fits. elim (eqb_tells j p) [
            | inl same ↦
                content_same (member (with_member m p to) j) row
                ∙ ap (λ k. content b (member (with_member m p to) k) row) same.1
                ∙ ap (λ x. content b x row) (member_same m p to)
                ∙ filled_rows (class_of t g) a b from to taken_up filled row fits
                ∙ ap (λ x. content a x row) (sym names.from_is)
                ∙ ap (λ k. content a (member m k) row) (sym same.1)
            | inr ne ↦
                content_same (member (with_member m p to) j) row
                ∙ ap (λ x. content b x row) (member_other m p j to at range ne.1)
                ∙ written.keeps.rows (member m j) (member_not_loose (store_of a t) g j to space lt range target_loose)
                row
          ];
        }

    other_copy : (h : ℕ) → h < length t.groups
        → IsCopy a (switched b from to) (group_in t.groups h).members (group_in t.groups h).members
    other_copy h lt = record {
      geometry = written.follows.geometry;
      usable = λ j range sound. whole_sound a (member (group_in t.groups h).members j) names.whole;
      rows = λ j row range fits.
          content_same (member (group_in t.groups h).members j) row
          ∙ written.keeps.rows (member (group_in t.groups h).members j)
          (member_not_loose (store_of a t) h j to space lt range target_loose) row;
    }

    copies : (h : ℕ) → h < length t.groups → class_of t h ≢ Free
        → IsCopy a (switched b from to) (group_in t.groups h).members (group_in (shifted t g p to).groups h).members
    copies h lt taken_up = elim (eqb_tells h g) [
      | inl same ↦
          (let P : ℕ → Type 0 = λ k. IsCopy a (switched b from to) (group_in t.groups k).members
          (group_in (shifted t g p to).groups k).members in
          subst P (sym same.1)
          (subst (λ (x : Members). IsCopy a (switched b from to) (group_in t.groups g).members x)
          (sym (shifted_members t g p to names.can.there))
          (here_copy (λ is. taken_up (ap (λ k. class_of t k) same.1 ∙ is)))))
      | inr ne ↦
          subst (λ (x : Members). IsCopy a (switched b from to) (group_in t.groups h).members x)
          (sym (shifted_members_other t g p to h ne.1)) (other_copy h lt)
    ]

    switched_carried : IsCarried a (switched b from to) t (shifted t g p to)
    switched_carried =
        let few_disks = kept.at_most in
        let few_extents = kept.few_extents in
        let disk = target_there.disk in
        let extent = target_there.extent in
        record {
          geometry = written.follows.geometry;
          sound = λ _ broken. whole_not_broken (sym names.whole ∙ broken);
          agree = shifted_agrees t g p to space.tables names.can.there names.can.stands.range target_unused
              (λ i range ne. names.can.apart i range) (omega arith) (omega arith);
          rows = refl;
          homes = λ k. refl;
          keys = shifted_key t g p to;
          classes = λ h lt. shifted_class t g p to h;
          parity = λ h lt is. subst (λ n. h < n) (shifted_group_count t g p to) lt;
          copies = copies;
          extents = λ h i lt range. let now = all_used h i lt range in record { there = now.there; used = now.used };
        }

    pub space_switched : IsSpace (store_of (switched b from to) (shifted t g p to))
    space_switched = space_carried a (switched b from to) t (shifted t g p to) space switched_carried

    pub leaves_switched : LeavesAll (store_of a t) (store_of (switched b from to) (shifted t g p to))
    leaves_switched = record {
      stands = all_carried a (switched b from to) t (shifted t g p to) space switched_carried;
      units = record { geometry = refl; units = refl; puts = refl };
      follows = follows_then a b (switched b from to) written.follows (follows_loose b (switched b from to).loose);
    }

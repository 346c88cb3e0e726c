use Rattle.std.proofs.Common.{◌≡◌, ◌+◌, ◌*◌, ◌≤◌, Option, length, None, refl, sym, ap, subst, ◌∙◌}
use Rattle.ar_extents.specs.Plans.{CarriesOut, stops}
use Rattle.ar_extents.proofs.Plans.{carries_broken}
use Rattle.ar_disks.specs.Block.{part_at}
use Rattle.ar_disks.specs.Geometry.{block_len_of}
use Rattle.ar_extents.specs.declared.health.Health.TheVariants.{Broken}
use Rattle.ar_extents.specs.Groups.{outcome_of}
use Rattle.ar_extents.proofs.Outcomes.{done_sound, sound_done}
use Rattle.ar_book.specs.Tables.{home}
use Rattle.ar_book.proofs.Homes.{home_slot}
use Rattle.ar_book.specs.declared.class.Slot.{Slot}
use Rattle.ar_store.specs.Store.{StoreState}
use Rattle.ar_store.specs.Slots.{stands, KeepsContents}
use Rattle.ar_store.specs.Plans.{home_read, get_plan}
use Rattle.ar_store.specs.Spaces.{store_in}
use Rattle.ar_store.proofs.Overwriting.{part_at_zeros}
use Rattle.ar_store.proofs.Standing.{stands_nowhere}
use Rattle.ar_store.proofs.Planned.{home_plan}
use Rattle.ar_store.proofs.Fields.{ready_in, fields_stay, free_then, given_stands, given_done}
use Rattle.ar_store.proofs.Fills.{same_free, done_not_broken}
use Rattle.ar_store.proofs.store.Store.get_part.Goals as goal

pub read_part_at-requires : goal.read_part_at-requires
read_part_at-requires g c =
    let a = c.self.inside.space in
    record {
      ready = ready_in a c.self.inside.block c.self.invariant;
      slot = home_slot a.book c.self.invariant.kept.space.tables c.args.key c.in-Some.slot (sym c.home.ensures
          ∙ c.in-Some.is);
      within = subst (λ (s : StoreState). 512 * c.args.first + length c.args.into.now
          ≤ block_len_of s.disks.geometry) (sym c.self.view_is) c.requires.within;
    }

pub invariant_of-self : goal.invariant_of-self
invariant_of-self g c =
    let a = c.self.inside.space in
    let b = c.read_part_at.new.self in
    let read = c.read_part_at.ensures in
    fields_stay a b c.self.inside.block c.self.inside.block c.self.invariant read.stays
    (free_then a b c.self.invariant.kept.free read.stays (same_free a.book b.book read.book)) refl

pub returns-in-Some : goal.returns-in-Some
returns-in-Some g c =
    let a = c.self.inside.space in
    let b = c.read_part_at.new.self in
    let view = c.self.view_is in
    let read = c.read_part_at.ensures in
    let is = sym c.home.ensures ∙ c.in-Some.is in
    record {
      outcome = read.outcome;
      given = λ done.
          given_stands c.args.self.now a.disks b.disks a.book c.args.key c.in-Some.slot
          (λ block. part_at block c.args.first (length c.read_part_at.new.into)) c.read_part_at.new.into view
          c.self.invariant.kept.space is
          read.stays.accessed.follows (done_sound b.disks.health (sym done ∙ read.outcome))
          (given_done c.read_part_at.result _ done read.given)
          ∙ ap (λ n. part_at (stands c.args.self.now c.args.key) c.args.first n) c.read_part_at.auto.into;
      plan = subst (λ (s : StoreState). CarriesOut (get_plan s c.args.key) s.disks b.disks) view
          (home_plan (store_in a) c.args.key c.in-Some.slot b.disks is read.plan);
      keeps = subst (λ (s : StoreState). KeepsContents s (store_in b)) view
          (record { book = read.book; stands = read.stand });
    }

pub returns-in-None : goal.returns-in-None
returns-in-None g c =
    let s = c.args.self.now in
    let view = c.self.view_is in
    let none : home s.book c.args.key ≡ None =
    ap (λ (x : StoreState). home x.book c.args.key) (sym view) ∙ sym c.home.ensures ∙ c.in-None.is in
    let sound = λ (broken : s.disks.health ≡ Broken). c.in_default.not-Broken (c.health.ensures.same
    ∙ ap (λ (x : StoreState). x.disks.health) view ∙ broken) in
    record {
      outcome = sym (sound_done s.disks.health sound);
      given = λ _. c.zero.ensures
          ∙ sym (part_at_zeros (block_len_of s.disks.geometry) c.args.first (length c.args.into.now) c.requires.within)
          ∙ ap (λ block. part_at block c.args.first (length c.args.into.now)) (sym (stands_nowhere s c.args.key none));
      plan = (let P : Option Slot → Type 0 = λ h. CarriesOut (home_read s h) s.disks s.disks in
          subst P (sym none) (stops s.disks));
      keeps = record { book = refl; stands = record { blocks = λ _ k. refl } };
    }

pub returns-in-Broken : goal.returns-in-Broken
returns-in-Broken g c =
    let s = c.args.self.now in
    let broken =
    ap (λ (x : StoreState). x.disks.health) (sym c.self.view_is) ∙ sym c.health.ensures.same ∙ c.in-Broken.is in
    record {
      outcome = sym (ap outcome_of broken);
      given = λ done. absurd (done_not_broken (sym done));
      plan = carries_broken (get_plan s c.args.key) s.disks broken;
      keeps = record { book = refl; stands = record { blocks = λ _ k. refl } };
    }

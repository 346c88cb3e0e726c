use Rattle.std.proofs.Common.{inl, inr, sym, refl, ap, subst, ◌∙◌, arith}
use Rattle.ar_extents.proofs.Outcomes.{done_sound, broken_is}
use Rattle.ar_extents.specs.Groups.{IsMember}
use Rattle.ar_book.specs.Tables.{Tables}
use Rattle.ar_book.specs.Changes.{opened}
use Rattle.ar_store.specs.Store.{store_of, members_of}
use Rattle.ar_store.specs.Spaces.{store_in}
use Rattle.ar_disks.specs.Geometry.{rows_of}
use Rattle.ar_parity.proofs.Reported.{stripes_reported}
use Rattle.ar_store.specs.Calls.{IsAccessed}
use Rattle.ar_store.proofs.Changes.{mirrored_not_parity}
use Rattle.ar_extents.specs.Plans.{stops, CarriesOut}
use Rattle.ar_book.specs.declared.class.Class.{Class}
use Rattle.ar_store.specs.Plans.{open_plan}
use Rattle.ar_store.proofs.Planned.{opened_plan, only_opened}
use Rattle.ar_store.proofs.Openings.{zeroed, opened_group, opened_there, opened_free, after_opening, class_mirrored}
use Rattle.ar_store.proofs.Openings.{not_many, opened_not_broken, idle_not_broken}
use Rattle.ar_store.proofs.Fills.{accessed_refl, accessed_work}
use Rattle.ar_store.proofs.space.Space.open_group.Goals as goal

pub returns-in_default : goal.returns-in_default
returns-in_default g c =
    let s = c.args.self.now in
    let u = c.open_group.new.self in
    let none = c.in_default.ensures in
    let after = after_opening s.disks s.book u c.requires.ready.space (inl none.unchanged) in
    record {
      opens = record { few = not_many s.book none.when; same = ap (λ (x : Tables). store_of s.disks x) none.unchanged };
      answer = (λ broke. absurd (idle_not_broken broke), λ broken. absurd (c.requires.sound broken));
      parity = λ _. tt;
      free = after.free;
      stand = after.stand;
      plan = λ group many lowest. absurd (let few = not_many s.book none.when in omega arith);
      stays = record {
        ready = record { space = after.space; scratch = c.requires.ready.scratch };
        units = after.units;
        accessed = accessed_refl s.disks;
      };
    }

pub returns-in-Mirrored : goal.returns-in-Mirrored
returns-in-Mirrored g c =
    let s = c.args.self.now in
    let u = c.open_group.new.self in
    let opening = c.in-Some.ensures in
    let class = class_mirrored c.args.class c.in-Mirrored.is c.requires.class in
    let after = after_opening s.disks s.book u c.requires.ready.space (inr (record {
      group = c.in-Some.group;
      lowest = opening.opens.lowest;
      many = opening.when.0 refl;
      tables = opening.opens.opened ∙ ap (λ x. opened s.book c.in-Some.group x) class;
    })) in
    record {
      opens = record { many = opening.when.0 refl; lowest = opening.opens.lowest; tables = opening.opens.opened };
      answer = (λ broke. absurd (opened_not_broken c.in-Some.group broke), λ broken. absurd (c.requires.sound broken));
      parity = λ is. absurd (mirrored_not_parity (sym class ∙ is));
      free = after.free;
      stand = after.stand;
      plan = λ group many lowest.
          let m = members_of (store_in s) group in
          let P : Class → Type 0 = λ x. CarriesOut (open_plan x s.disks.geometry m) s.disks s.disks in
          subst P (sym class) (stops s.disks);
      stays = record {
        ready = record { space = after.space; scratch = c.requires.ready.scratch };
        units = after.units;
        accessed = accessed_refl s.disks;
      };
    }

pub members-members-requires : goal.members-members-requires
members-members-requires g c =
    let opening = c.in-Some.ensures in
    opened_there c.args.self.now.book c.open_group.new.self c.in-Some.group c.args.class opening.opens.lowest opening.opens.opened

pub open_zero-requires : goal.open_zero-requires
open_zero-requires g c =
    let opening = c.in-Some.ensures in
    record {
      group = opened_group c.args.self.now.disks c.args.self.now.book c.open_group.new.self c.in-Some.group c.args.class
          c.members-members.result
          c.requires.ready.space opening.opens.lowest opening.opens.opened c.members-members.ensures;
      scratch = c.requires.ready.scratch;
    }

pub returns-in-Done : goal.returns-in-Done
returns-in-Done g c =
    let s = c.args.self.now in
    let u = c.open_group.new.self in
    let b = c.open_zero.new.set in
    let opening = c.in-Some.ensures in
    let zero = c.open_zero.ensures in
    let reported = stripes_reported c.members-members.result 0 (rows_of s.disks.geometry) s.disks b zero.plan in
    let answer = sym c.in-Done.is ∙ zero.outcome in
    let tables = opening.opens.opened ∙ ap (λ x. opened s.book c.in-Some.group x) c.in-Parity.is in
    let access : IsAccessed s.disks b = accessed_work (IsMember c.members-members.result) s.disks b reported.works in
    let zeros = zeroed s.disks b s.book u c.in-Some.group c.members-members.result c.requires.ready.space opening.opens.lowest
    tables c.members-members.ensures
    access reported.keeps zero.slots in
    record {
      opens = record { many = opening.when.0 refl; lowest = opening.opens.lowest; tables = opening.opens.opened };
      answer = (
        λ broke. absurd (opened_not_broken c.in-Some.group broke),
        λ broken. absurd (done_sound b.health answer broken),
      );
      parity = λ _. zeros.zeros_in;
      free = λ _. opened_free s.book u c.in-Some.group c.args.class c.requires.ready.space.tables opening.opens.lowest
          (opening.when.0 refl) c.requires.class opening.opens.opened;
      stand = zeros.stand;
      plan = λ group many lowest.
          only_opened (store_in s) b c.args.class c.in-Some.group c.in-Parity.is opening.opens.lowest
          (opened_plan s.disks b s.book u c.in-Some.group c.args.class c.members-members.result opening.opens.opened
          c.members-members.ensures zero.plan) group lowest;
      stays = record {
        ready = record {
          space = zeros.space;
          scratch = zero.scratch ∙ c.requires.ready.scratch
              ∙ sym reported.works.follows.geometry;
        };
        units = zeros.units;
        accessed = access;
      };
    }

pub returns-in-Broken : goal.returns-in-Broken
returns-in-Broken g c =
    let s = c.args.self.now in
    let u = c.open_group.new.self in
    let b = c.open_zero.new.set in
    let opening = c.in-Some.ensures in
    let zero = c.open_zero.ensures in
    let reported = stripes_reported c.members-members.result 0 (rows_of s.disks.geometry) s.disks b zero.plan in
    let broken = broken_is b.health (sym c.in-Broken.is ∙ zero.outcome) in
    let tables = opening.opens.opened ∙ ap (λ x. opened s.book c.in-Some.group x) c.in-Parity.is in
    let access : IsAccessed s.disks b = accessed_work (IsMember c.members-members.result) s.disks b reported.works in
    let zeros = zeroed s.disks b s.book u c.in-Some.group c.members-members.result c.requires.ready.space opening.opens.lowest
    tables c.members-members.ensures
    access reported.keeps zero.slots in
    record {
      opens = record {
        broken = broken;
        tables = inr
            (c.in-Some.group, record { many = opening.when.0 refl; lowest = opening.opens.lowest; tables = opening.opens.opened });
      };
      answer = (λ _. broken, λ _. refl);
      parity = λ _. tt;
      free = λ _. opened_free s.book u c.in-Some.group c.args.class c.requires.ready.space.tables opening.opens.lowest
          (opening.when.0 refl) c.requires.class opening.opens.opened;
      stand = zeros.stand;
      plan = λ group many lowest.
          only_opened (store_in s) b c.args.class c.in-Some.group c.in-Parity.is opening.opens.lowest
          (opened_plan s.disks b s.book u c.in-Some.group c.args.class c.members-members.result opening.opens.opened
          c.members-members.ensures zero.plan) group lowest;
      stays = record {
        ready = record {
          space = zeros.space;
          scratch = zero.scratch ∙ c.requires.ready.scratch
              ∙ sym reported.works.follows.geometry;
        };
        units = zeros.units;
        accessed = access;
      };
    }

use Rattle.std.proofs.Common.{inl, inr, sym, subst, ap, ◌∙◌, refl, arith}
use Rattle.ar_book.specs.declared.class.Class.TheVariants.{Mirrored}
use Rattle.ar_book.specs.Tables.{Tables, home, free_groups}
use Rattle.ar_store.specs.declared.way.Way.TheVariants.{Hole}
use Rattle.ar_store.specs.Store.{store_of}
use Rattle.ar_store.specs.Slots.{AllStand}
use Rattle.ar_store.specs.Kept.{IsSpace}
use Rattle.ar_store.specs.Placing.{put_case, prepared, case_way, BySqueeze, SameUnits, HasNoHole}
use Rattle.ar_store.specs.Calls.{LeavesHole}
use Rattle.ar_store.specs.Plans.{CarriesOutSearch}
use Rattle.ar_store.specs.Spaces.{store_in}
use Rattle.ar_store.proofs.Fills.{accessed_refl}
use Rattle.ar_store.proofs.Openings.{after_opening}
use Rattle.ar_store.proofs.Ways.{ready_there, direct_search, waits}
use Rattle.ar_store.proofs.space.Space.find_way.Goals as goal

pub way_in-requires : goal.way_in-requires
way_in-requires g c = c.requires.ready.space.tables

pub returns-in-Some : goal.returns-in-Some
returns-in-Some g c =
    let s = c.args.self.now in
    let u = c.way_in.new.book in
    let found = c.in-Some.ensures in
    let after = after_opening s.disks s.book u c.requires.ready.space found.opens in
    record {
      found = record {
        finds = inl (found.way.goes, found.way.tables);
        ready = ready_there s.disks u c.args.key c.in-Some.way found.way.there;
        zeros = λ squeeze. absurd (found.way.direct squeeze);
        home_same = after.homes c.args.key;
        free = λ _. after.free c.requires.free;
        stand = after.stand;
        search = direct_search (put_case s.book c.args.key) (store_in s) (store_of s.disks u) found.way.direct refl;
        stays = record {
          ready = record { space = after.space; scratch = c.requires.ready.scratch };
          units = after.units;
          accessed = accessed_refl s.disks;
        };
      };
      len = refl;
    }

pub squeeze-requires : goal.squeeze-requires
squeeze-requires g c =
    let s = c.args.self.now in
    let t = s.book in
    let none = c.in-None.ensures.none in
    let same = none.mirrored.same in
    let few = none.mirrored.few in
    let some = c.requires.free in
    record {
      ready = record {
        space = subst (λ (x : Tables). IsSpace (store_of s.disks x)) (sym same) c.requires.ready.space;
        scratch = c.requires.ready.scratch;
      };
      needs = record {
        waiting = waits t c.way_in.new.book c.args.key same c.requires.unit none.unplaced;
        mirrored = subst (λ (x : Tables). HasNoHole x Mirrored) (sym same) none.mirrored.none;
        parity = none.parity;
        free = ap (λ (x : Tables). free_groups x) same ∙ omega arith;
      };
      sound = c.requires.sound;
      whole = c.requires.whole;
    }

pub returns-in-Some-squeeze : goal.returns-in-Some-squeeze
returns-in-Some-squeeze g c =
    let s = c.args.self.now in
    let t = s.book in
    let k = c.args.key in
    let new = c.squeeze.new.self in
    let none = c.in-None.ensures.none in
    let same = none.mirrored.same in
    let squeezed = c.in-Some-squeeze.ensures in
    let still = squeezed.unplaced k (ap (λ (x : Tables). home x k) same ∙ none.unplaced) in
    let slot = c.in-Some-squeeze.slot in
    let left = subst (λ (x : Tables). LeavesHole (store_of s.disks x) (store_in new) slot) same squeezed.hole in
    record {
      found = record {
        finds = inl (
          ap Hole left.slot ∙ ap (case_way t k) (sym none.needs),
          left.tables ∙ ap (prepared t) (sym none.needs),
        );
        ready = left.empty;
        zeros = λ _. left.zeros;
        home_same = still ∙ sym none.unplaced;
        free = λ _. left.free;
        stand = subst (λ (x : Tables). AllStand (store_of s.disks x) (store_in new)) same squeezed.stand;
        search = subst (λ c. CarriesOutSearch c (store_in s) (store_in new)) (sym none.needs)
            (subst (λ (x : Tables). CarriesOutSearch BySqueeze (store_of s.disks x) (store_in new)) same
            squeezed.steps);
        stays = record {
          ready = squeezed.stays.ready;
          units = subst (λ (x : Tables). SameUnits x new.book) same squeezed.stays.units;
          accessed = squeezed.stays.accessed;
        };
      };
      len = squeezed.len;
    }

pub returns-in-None-squeeze : goal.returns-in-None-squeeze
returns-in-None-squeeze g c =
    let s = c.args.self.now in
    let k = c.args.key in
    let new = c.squeeze.new.self in
    let none = c.in-None.ensures.none in
    let same = none.mirrored.same in
    let squeezed = c.in-None-squeeze.ensures in
    let still = squeezed.unplaced k (ap (λ (x : Tables). home x k) same ∙ none.unplaced) in
    record {
      found = record {
        finds = inr (refl, none.needs, squeezed.none.unmoved ∙ same);
        ready = squeezed.none.broken;
        zeros = λ _. tt;
        home_same = still ∙ sym none.unplaced;
        free = λ sound. absurd (sound squeezed.none.broken);
        stand = subst (λ (x : Tables). AllStand (store_of s.disks x) (store_in new)) same squeezed.stand;
        search = subst (λ c. CarriesOutSearch c (store_in s) (store_in new)) (sym none.needs)
            (subst (λ (x : Tables). CarriesOutSearch BySqueeze (store_of s.disks x) (store_in new)) same
            squeezed.steps);
        stays = record {
          ready = squeezed.stays.ready;
          units = subst (λ (x : Tables). SameUnits x new.book) same squeezed.stays.units;
          accessed = squeezed.stays.accessed;
        };
      };
      len = squeezed.len;
    }

use Rattle.std.proofs.Common.{◌≤◌, sym, refl, ap, subst, ◌∙◌}
use Rattle.ar_book.specs.Tables.{Tables, free_groups, HasBlock}
use Rattle.ar_book.specs.Changes.{assigned}
use Rattle.ar_extents.proofs.Outcomes.{done_sound}
use Rattle.ar_store.specs.Store.{StoreState, store_of}
use Rattle.ar_store.specs.Slots.{OtherSlotsHold, BesideHold, SlotHolds}
use Rattle.ar_store.specs.Placing.{IsVacant, put_in}
use Rattle.ar_store.specs.Kept.{IsSpace}
use Rattle.ar_store.specs.Spaces.{store_in}
use Rattle.ar_store.proofs.Fills.{filled, beside_filled, beside_same, stamped_then, puts_done, puts_none}
use Rattle.ar_store.proofs.Zeros.{beside_hold_stamped}
use Rattle.ar_store.proofs.space.Space.put_in.Goals as goal

pub write_at-requires : goal.write_at-requires
write_at-requires g c = record { ready = c.requires.ready; slot = c.requires.hole.there; whole = c.requires.whole }

pub place-requires : goal.place-requires
place-requires g c =
    let same = sym c.write_at.ensures.rest.book in
    let vacant = subst (λ (x : Tables). IsVacant x c.args.vacant) same c.requires.hole in
    record {
      block = subst (λ (x : Tables). HasBlock x c.args.key) same c.requires.block;
      slot = vacant.there;
      empty = vacant.empty;
    }

pub returns-in-Done : goal.returns-in-Done
returns-in-Done g c =
    let s = c.args.self.now in
    let b = c.write_at.new.self.disks in
    let t : Tables = assigned s.book c.args.key c.args.vacant in
    let wrote = c.write_at.ensures.rest in
    let answer = sym c.in-Done.is ∙ wrote.outcome in
    let now = ap (λ (x : Tables). store_of b x) wrote.book in
    let slots = subst (λ (x : StoreState). OtherSlotsHold (store_in s) x c.args.vacant) now wrote.others in
    let fills = filled s.disks b s.book t c.args.key c.args.vacant c.args.from.now c.requires.ready.space
    (subst (λ (x : StoreState). IsSpace x) now wrote.stays.ready.space) c.requires.block c.requires.hole
    c.requires.whole wrote.stays.accessed slots
    (subst (λ (x : StoreState). SlotHolds x c.args.vacant c.args.from.now) now c.write_at.ensures.here) refl in
    let tables = c.place.ensures.placed ∙ ap (λ (x : Tables). put_in x c.args.key c.args.vacant) wrote.book in
    let stamps =
    stamped_then (store_in s) b s.book t c.place.new.self c.args.key c.args.from.now fills.space c.requires.block
    fills.units (fills.here (done_sound b.health answer)) fills.others tables in
    record {
      puts = puts_done s _ c.args.key _ c.args.from.now answer tables
          (subst (λ (x : Tables). free_groups s.book ≤ free_groups x) (sym tables) fills.free) stamps
          wrote.stays.ready.scratch wrote.stays.accessed;
      beside = subst (λ (x : Tables). BesideHold (store_in s) (store_of b x) c.args.vacant) (sym tables)
          (beside_hold_stamped (store_in s) b t c.args.key c.args.vacant
          (beside_filled s.disks b s.book t c.args.key c.args.vacant c.requires.ready.space c.requires.block
          c.requires.hole slots refl));
      writes = wrote.writes;
    }

pub returns-in-Broken : goal.returns-in-Broken
returns-in-Broken g c =
    let s = c.args.self.now in
    let new = c.write_at.new.self in
    let wrote = c.write_at.ensures.rest in
    record {
      puts = puts_none s new c.args.key c.args.vacant _ c.args.from.now c.write_at.result c.in-Broken.is wrote;
      beside = beside_same (store_in s) (store_in new) c.args.vacant wrote.others;
      writes = wrote.writes;
    }

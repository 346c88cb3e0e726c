use Rattle.std.proofs.Common.{sym, ap, subst, ◌∙◌}
use Rattle.ar_book.specs.Tables.{Tables, HasBlock}
use Rattle.ar_book.specs.Changes.{assigned}
use Rattle.ar_extents.proofs.Outcomes.{done_sound}
use Rattle.ar_store.specs.Store.{StoreState, store_of}
use Rattle.ar_store.specs.Slots.{OtherSlotsHold, SlotHolds}
use Rattle.ar_store.specs.Placing.{IsVacant}
use Rattle.ar_store.specs.Kept.{IsSpace}
use Rattle.ar_store.specs.Spaces.{store_in}
use Rattle.ar_store.proofs.Fills.{filled, beside_filled, beside_same, puts_done, puts_none, IsWrittenAs}
use Rattle.ar_store.proofs.space.Space.fill.Goals as goal

pub write_at-requires : goal.write_at-requires
write_at-requires g c = record { ready = c.requires.ready; slot = c.requires.hole.there; whole = c.requires.whole }

pub assign-requires : goal.assign-requires
assign-requires g c =
    let same = sym c.write_at.ensures.rest.book in
    let vacant = subst (λ (x : Tables). IsVacant x c.args.to) same c.requires.hole in
    record {
      block = subst (λ (x : Tables). HasBlock x c.args.key) same c.requires.block;
      slot = vacant.there;
      empty = vacant.empty;
    }

pub returns-in-Done : goal.returns-in-Done
returns-in-Done g c =
    let s = c.args.self.now in
    let b = c.write_at.new.self.disks in
    let wrote = c.write_at.ensures.rest in
    let answer = sym c.in-Done.is ∙ wrote.outcome in
    let now = ap (λ (x : Tables). store_of b x) wrote.book in
    let tables = c.assign.ensures.assigned ∙ ap (λ (x : Tables). assigned x c.args.key c.args.to) wrote.book in
    let slots = subst (λ (x : StoreState). OtherSlotsHold (store_in s) x c.args.to) now wrote.others in
    let fills = filled s.disks b s.book c.assign.new.self c.args.key c.args.to c.args.from.now c.requires.ready.space
    (subst (λ (x : StoreState). IsSpace x) now wrote.stays.ready.space) c.requires.block c.requires.hole
    c.requires.whole wrote.stays.accessed slots
    (subst (λ (x : StoreState). SlotHolds x c.args.to c.args.from.now) now c.write_at.ensures.here) tables in
    let written : IsWrittenAs (store_in s) b s.book c.assign.new.self c.args.key c.args.from.now = record {
      space = fills.space;
      units = fills.units;
      here = fills.here (done_sound b.health answer);
      others = fills.others;
    } in
    record {
      puts = puts_done s _ c.args.key _ c.args.from.now answer tables fills.free written wrote.stays.ready.scratch
          wrote.stays.accessed;
      beside = beside_filled s.disks b s.book c.assign.new.self c.args.key c.args.to c.requires.ready.space
          c.requires.block c.requires.hole slots tables;
      writes = wrote.writes;
    }

pub returns-in-Broken : goal.returns-in-Broken
returns-in-Broken g c =
    let s = c.args.self.now in
    let new = c.write_at.new.self in
    let wrote = c.write_at.ensures.rest in
    record {
      puts = puts_none s new c.args.key c.args.to _ c.args.from.now c.write_at.result c.in-Broken.is wrote;
      beside = beside_same (store_in s) (store_in new) c.args.to wrote.others;
      writes = wrote.writes;
    }

use Rattle.std.proofs.Common.{◌≤◌, ℕ, List, sym, ap, subst, refl, ◌∙◌}
use Rattle.ar_disks.specs.Block.{with_sectors}
use Rattle.ar_book.specs.Tables.{Tables, free_groups, HasBlock}
use Rattle.ar_book.specs.Changes.{stamped}
use Rattle.ar_book.proofs.Homes.{home_key, home_slot}
use Rattle.ar_extents.proofs.Outcomes.{done_sound}
use Rattle.ar_store.specs.Store.{StoreState, store_of}
use Rattle.ar_store.specs.Slots.{OtherSlotsHold, SlotHolds}
use Rattle.ar_store.specs.Kept.{IsSpace}
use Rattle.ar_store.specs.Spaces.{store_in}
use Rattle.ar_store.proofs.Fills.{rewritten, stamped_then, same_free, puts_done, puts_none}
use Rattle.ar_store.proofs.Changes.{units_refl}
use Rattle.ar_store.proofs.Standing.{stands_held, was_sound}
use Rattle.ar_store.proofs.space.Space.rewrite_part.Goals as goal

pub write_part_at-requires : goal.write_part_at-requires
write_part_at-requires g c =
    let space = c.requires.ready.space in
    let book = c.args.self.now.book in
    record {
      ready = c.requires.ready;
      slot = home_slot book space.tables c.args.key c.args.slot c.requires.home;
      held = space.named c.args.slot c.args.key (home_key book space.tables c.args.key c.args.slot c.requires.home);
      within = c.requires.within;
    }

pub stamp-requires : goal.stamp-requires
stamp-requires g c =
    subst (λ (x : Tables). HasBlock x c.args.key) (sym c.write_part_at.ensures.rest.book) c.requires.block

pub returns-in-Done : goal.returns-in-Done
returns-in-Done g c =
    let s = c.args.self.now in
    let old = c.requires.ready.space in
    let b = c.write_part_at.new.self.disks in
    let wrote = c.write_part_at.ensures.rest in
    let held = old.named c.args.slot c.args.key (home_key s.book old.tables c.args.key c.args.slot c.requires.home) in
    let after : List ℕ = with_sectors held.block c.args.first c.args.from.now in
    let answer = sym c.in-Done.is ∙ wrote.outcome in
    let sound = done_sound b.health answer in
    let now = ap (λ (x : Tables). store_of b x) wrote.book in
    let space = subst (λ (x : StoreState). IsSpace x) now wrote.stays.ready.space in
    let writes =
    rewritten s.disks b s.book c.args.key c.args.slot after old space c.requires.home wrote.stays.accessed.follows
    (subst (λ (x : StoreState). OtherSlotsHold (store_in s) x c.args.slot) now wrote.others)
    (subst (λ (x : StoreState). SlotHolds x c.args.slot after) now
    (c.write_part_at.ensures.here held.block held.holds)) in
    let tables = c.stamp.ensures.stamped ∙ ap (λ (x : Tables). stamped x c.args.key) wrote.book in
    let was = stands_held (store_in s) c.args.key c.args.slot held.block old
    (was_sound s.disks b wrote.stays.accessed.follows sound) c.requires.home held.holds in
    let stamps =
    stamped_then (store_in s) b s.book s.book c.stamp.new.self c.args.key _ space c.requires.block
    (units_refl s.book)
    (writes.here sound ∙ ap (λ (x : List ℕ). with_sectors x c.args.first c.args.from.now) (sym was)) writes.others
    tables in
    record {
      puts = puts_done s _ c.args.key _ _ answer tables
          (subst (λ (x : Tables). free_groups s.book ≤ free_groups x) (sym tables) (same_free s.book s.book refl))
          stamps wrote.stays.ready.scratch wrote.stays.accessed;
      writes = wrote.writes;
    }

pub returns-in-Broken : goal.returns-in-Broken
returns-in-Broken g c =
    let wrote = c.write_part_at.ensures.rest in
    record {
      puts = puts_none c.args.self.now c.write_part_at.new.self c.args.key c.args.slot _ _ c.write_part_at.result
          c.in-Broken.is wrote;
      writes = wrote.writes;
    }

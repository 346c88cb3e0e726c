use Rattle.std.proofs.Common.{◌<◌, ◌*◌, refl, sym, subst, ◌∙◌}
use Rattle.ar_store.specs.Store.{members_of}
use Rattle.ar_store.specs.Spaces.{store_in}
use Rattle.ar_store.proofs.Copied.{opened_can, has_moved, copies_zeros, moved_members}
use Rattle.ar_store.proofs.Fills.{accessed_refl}
use Rattle.ar_store.proofs.Squeezing.{slots_end, squeezed_tables, squeezed_slot, squeezed_empty, free_counted}
use Rattle.ar_store.proofs.space.Space.move_homes.Goals as goal

pub move_group-requires : goal.move_group-requires
move_group-requires g c =
    let opening = c.open_last-to.ensures in
    record {
      can = opened_can c.args.self.now.book c.open_last-to.new.self c.args.from c.open_last-to.result c.requires.full
          opening.lowest opening.opened opening.empty;
    }

pub returns : goal.returns
returns g c =
    let s = c.args.self.now in
    let t = s.book in
    let mid = c.open_last-to.new.self in
    let new = c.move_group.new.self in
    let from = c.args.from in
    let to = c.open_last-to.result in
    let full = c.requires.full in
    let opening = c.open_last-to.ensures in
    let moved = c.move_group.ensures.moved in
    let copies = c.requires.copies to opening.lowest in
    let has = has_moved s.disks t mid new from to c.requires.ready.space c.requires.sound full opening.lowest
    opening.opened opening.empty copies moved in
    let slots = slots_end c.rows.result c.geometry.result t.geometry c.rows.ensures
    (c.geometry.ensures ∙ sym c.requires.ready.space.geometry) in
    record {
      hole = record {
        slot = squeezed_slot t mid new from to full opening.lowest opening.opened moved (2 * c.rows.result) slots;
        tables = squeezed_tables t mid new from to full opening.lowest opening.opened moved;
        empty = squeezed_empty t mid new from to full opening.lowest opening.opened moved (2 * c.rows.result) slots
            has.hole;
        free = free_counted new from has.after.space.tables
            (subst (λ n. from < n) (sym has.after.units.groups) full.there) has.emptied;
        zeros = copies_zeros s.disks new (members_of (store_in s) from) (members_of (store_in s) to) to
            (2 * c.rows.result) (moved_members t mid new from to opening.opened moved) has.opened
            (slots_end c.rows.result c.geometry.result s.disks.geometry c.rows.ensures c.geometry.ensures) copies;
      };
      disks = refl;
      unplaced = has.unplaced;
      stand = has.after.stand;
      stays = record {
        ready = record { space = has.after.space; scratch = c.requires.ready.scratch };
        units = has.after.units;
        accessed = accessed_refl s.disks;
      };
    }

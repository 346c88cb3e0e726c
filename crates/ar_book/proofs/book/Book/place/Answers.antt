use Rattle.std.proofs.Common.{◌≡◌, ◌≢◌, ◌≤◌, ◌∙◌, None, length, sym, ap, subst, arith}
use Rattle.ar_disks.specs.Geometry.{rows_of}
use Rattle.ar_book.specs.declared.class.Level.TheVariants.{Unplaced, Mirrored}
use Rattle.ar_book.specs.Tables.{Tables, key_at, home, level, level_in, HasBlock, HasSlot}
use Rattle.ar_book.specs.Changes.{assigned}
use Rattle.ar_book.proofs.AfterStamp.{stamped_home, stamped_block}
use Rattle.ar_book.proofs.Placed.{stamped_first}
use Rattle.ar_book.proofs.book.Book.place.Goals as goal

pub assign-requires : goal.assign-requires
assign-requires c = record {
  block = subst (λ (x : Tables). HasBlock x c.args.key) (sym c.stamp.ensures.stamped)
      (stamped_block c.args.self.now c.args.key c.args.key c.requires.block);
  slot = subst (λ (x : Tables). HasSlot x c.args.slot) (sym c.stamp.ensures.stamped) c.requires.slot;
  empty = subst (λ (x : Tables). key_at x c.args.slot ≡ None) (sym c.stamp.ensures.stamped) c.requires.empty;
}

pub returns-clause-placed : goal.returns-clause-placed
returns-clause-placed c =
    c.assign.ensures.assigned ∙ ap (λ (x : Tables). assigned x c.args.key c.args.slot) c.stamp.ensures.stamped
    ∙ stamped_first c.args.self.now c.args.key c.args.slot c.requires.block

pub returns-clause-few : goal.returns-clause-few
returns-clause-few c = λ low most.
    let still = c.stamp.ensures.unlooked low in
    let few = c.assign.ensures.few
    (subst (λ (x : Tables). length x.groups ≤ 4096) (sym c.stamp.ensures.stamped) most) in
    let rows = ap (λ (x : Tables). rows_of x.geometry) c.stamp.ensures.stamped in
    omega arith

not_mirrored : Unplaced ≢ Mirrored
not_mirrored e = cc

pub returns-clause-first : goal.returns-clause-first
returns-clause-first c = λ none most.
    let low : level c.args.self.now c.args.key ≢ Mirrored =
    λ e. not_mirrored (sym (ap (level_in c.args.self.now.groups) none) ∙ e) in
    let still = c.stamp.ensures.unlooked low in
    let here : home c.stamp.new.self c.args.key ≡ None =
    ap (λ (x : Tables). home x c.args.key) c.stamp.ensures.stamped
    ∙ stamped_home c.args.self.now c.args.key c.args.key ∙ none in
    let few = c.assign.ensures.first here
    (subst (λ (x : Tables). length x.groups ≤ 4096) (sym c.stamp.ensures.stamped) most) in
    let rows = ap (λ (x : Tables). rows_of x.geometry) c.stamp.ensures.stamped in
    omega arith

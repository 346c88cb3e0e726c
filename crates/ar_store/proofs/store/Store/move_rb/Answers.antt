use Rattle.std.proofs.Common.{refl, sym, ap, subst, ◌∙◌}
use Rattle.ar_extents.specs.Groups.{outcome_of}
use Rattle.ar_extents.proofs.Plans.{carries_broken}
use Rattle.ar_book.specs.Tables.{home}
use Rattle.ar_store.specs.Store.{StoreState}
use Rattle.ar_store.specs.Placing.{IsVacant}
use Rattle.ar_store.specs.Plans.{move_plan}
use Rattle.ar_store.specs.Spaces.{store_in, MoveDone}
use Rattle.ar_store.proofs.Changes.{units_refl}
use Rattle.ar_store.proofs.Fills.{done_not_broken}
use Rattle.ar_store.proofs.Options.{none_not_some}
use Rattle.ar_store.proofs.Fields.{ready_in, fields_stay, free_then}
use Rattle.ar_store.proofs.store.Store.move_rb.Goals as goal

pub move_block-requires : goal.move_block-requires
move_block-requires g c = record {
  ready = ready_in c.self.inside.space c.self.inside.block c.self.invariant;
  home = sym c.home.ensures ∙ c.in-Some.is;
  hole = subst (λ (s : StoreState). IsVacant s.book c.args.slot) (sym c.self.view_is) c.requires.hole;
  whole = c.self.invariant.block_len;
}

pub invariant_of-self : goal.invariant_of-self
invariant_of-self g c =
    let a = c.self.inside.space in
    let b = c.move_block.new.self in
    let moved = c.move_block.ensures in
    fields_stay a b c.self.inside.block c.move_block.new.block c.self.invariant moved.stays
    (free_then a b c.self.invariant.kept.free moved.stays moved.free) moved.len

pub returns-clause-done : goal.returns-clause-done
returns-clause-done g c =
    subst (λ (s : StoreState). MoveDone s c.args.key c.args.slot c.move_block.result (store_in c.move_block.new.self))
    c.self.view_is c.move_block.ensures.done

pub returns-in-Broken : goal.returns-in-Broken
returns-in-Broken g c =
    let s = c.args.self.now in
    let broken =
    ap (λ (x : StoreState). x.disks.health) (sym c.self.view_is) ∙ sym c.health.ensures.same ∙ c.in-Broken.is in
    record {
      done = record {
        outcome = sym (ap outcome_of broken);
        moved = λ done. absurd (done_not_broken (sym done));
        unmoved = λ _. refl;
        stands = record { blocks = λ _ k. refl };
        beside = record { slots = λ slot block there same ne holds. holds };
        plan = carries_broken (move_plan s c.args.key c.args.slot) s.disks broken;
      };
      units = units_refl s.book;
      broken = λ _. refl;
    }

pub unreachable-requires : goal.unreachable-requires
unreachable-requires g c =
    none_not_some (home c.args.self.now.book c.args.key) c.requires.placed
    (ap (λ (s : StoreState). home s.book c.args.key) (sym c.self.view_is) ∙ sym c.home.ensures ∙ c.in_default-home.is)

use Rattle.std.proofs.Common.{inl, sym, ap, ◌∙◌, refl}
use Rattle.ar_extents.proofs.Plans.{carries_broken}
use Rattle.ar_store.specs.Plans.{open_plan}
use Rattle.ar_store.specs.Store.{StoreState, members_of}
use Rattle.ar_store.proofs.Standing.{was_sound}
use Rattle.ar_store.proofs.Changes.{units_refl}
use Rattle.ar_store.proofs.Fields.{ready_in, fields_stay}
use Rattle.ar_store.proofs.store.Store.open_group.Goals as goal

pub open_group-requires : goal.open_group-requires
open_group-requires g c = record {
  ready = ready_in c.self.inside.space c.self.inside.block c.self.invariant;
  class = c.requires;
  sound = λ broken. c.in_default.not-Broken (c.health.ensures.same ∙ broken);
}

pub invariant_of-self : goal.invariant_of-self
invariant_of-self g c =
    let a = c.self.inside.space in
    let b = c.open_group.new.self in
    let opening = c.open_group.ensures in
    fields_stay a b c.self.inside.block c.self.inside.block c.self.invariant opening.stays
    (λ sound. opening.free
    (c.self.invariant.kept.free (was_sound a.disks b.disks opening.stays.accessed.follows sound))) refl

pub returns-in-Broken : goal.returns-in-Broken
returns-in-Broken g c =
    let s = c.args.self.now in
    let broken =
    ap (λ (x : StoreState). x.disks.health) (sym c.self.view_is) ∙ sym c.health.ensures.same ∙ c.in-Broken.is in
    record {
      opens = record { broken = broken; tables = inl (record { was = broken; same = refl }) };
      answer = (λ _. broken, λ _. refl);
      parity = λ _. tt;
      stands = record { blocks = λ _ k. refl };
      units = units_refl s.book;
      plan = λ group many lowest. carries_broken (open_plan c.args.class s.disks.geometry (members_of s group)) s.disks
          broken;
      broken = λ _. refl;
    }

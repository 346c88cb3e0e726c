use Rattle.std.proofs.Common.{◌≡◌, ◌<◌, ◌∙◌, sym, ap, subst}
use Rattle.ar_extents.specs.Set.{SetState}
use Rattle.ar_store.specs.Store.{StoreState}
use Rattle.ar_store.proofs.Fields.{ready_in}
use Rattle.ar_rebuild.proofs.Advancing.{rebuilding_not_broken}
use Rattle.ar_rebuild.proofs.StepLemmas.{fields_advanced}
use Rattle.ar_rebuild.proofs.step.rebuild_one.Goals as goal

pub rebuild_extent-requires : goal.rebuild_extent-requires
rebuild_extent-requires g c =
    let disks : c.disks.result.now ≡ c.store.inside.space.disks =
    c.disks.ensures ∙ ap (λ (s : StoreState). s.disks) (sym c.store.view_is) in
    let reported = c.in-Rebuilding.ensures in
    record {
      ready = ready_in c.store.inside.space c.store.inside.block c.store.invariant;
      rebuilding = sym (reported.same ∙ ap (λ (s : SetState). s.health) disks);
      exists = subst (λ (s : SetState). c.in-Rebuilding.extent < s.extents) disks reported.fits.1;
    }

pub invariant_of-store : goal.invariant_of-store
invariant_of-store g c =
    let a = c.store.inside.space in
    let disks : c.disks.result.now ≡ a.disks =
    c.disks.ensures ∙ ap (λ (s : StoreState). s.disks) (sym c.store.view_is) in
    let is = c.in-Rebuilding.ensures.same ∙ ap (λ (s : SetState). s.health) disks in
    let step = c.rebuild_extent.ensures in
    fields_advanced a c.rebuild_extent.new.space c.store.inside.block
    (λ broken. rebuilding_not_broken c.in-Rebuilding.disk c.in-Rebuilding.extent (is ∙ broken))
    c.store.invariant step.ready step.book step.advances

use Rattle.std.proofs.Common.{◌≡◌, List, Option, IfErr, map, refl, sym, ap, subst, ◌∙◌}
use Rattle.std.specs.Option.{unwrap_or}
use Rattle.ar_disks.specs.Disk.{DiskState}
use Rattle.ar_disks.specs.Geometry.{block_len_of}
use Rattle.ar_extents.specs.declared.refusal.StartFault.{StartFault}
use Rattle.ar_extents.specs.declared.refusal.StartFault.TheVariants.{NoMemory}
use Rattle.ar_extents.specs.Changes.{start_fault, started}
use Rattle.ar_store.specs.Forming.{IsPlanFor}
use Rattle.ar_store.proofs.Options.{on_ok_always}
use Rattle.ar_store.proofs.store.Store.start.Goals as goal

pub returns-in-Some : goal.returns-in-Some
returns-in-Some g c =
    let is = ap (λ xs. start_fault (map g.D.Disk.state xs)) (sym c.deref.ensures.value) ∙ sym c.fault_of.ensures
    ∙ c.in-Some.is in
    record {
      taken = tt;
      started = tt;
      refused = ap (λ (o : Option StartFault). unwrap_or o NoMemory) (sym is);
      handed_back = refl;
    }

pub make_plan-requires : goal.make_plan-requires
make_plan-requires g c =
    ap (λ xs. start_fault (map g.D.Disk.state xs)) (c.deref-2.ensures.value ∙ sym c.deref.ensures.value)
    ∙ sym c.fault_of.ensures ∙ c.in_default.is

pub start_planned-requires : goal.start_planned-requires
start_planned-requires g c =
    let read : map g.D.Disk.state c.deref-2.result.now ≡ map g.D.Disk.state c.args.disks.items =
    ap (λ xs. map g.D.Disk.state xs) c.deref-2.ensures.value in
    let plan = c.in-Ok.ensures in
    record {
      counting = c.requires;
      taken = ap (λ xs. start_fault (map g.D.Disk.state xs)) (sym c.deref.ensures.value) ∙ sym c.fault_of.ensures
          ∙ c.in_default.is;
      book = subst (λ (ds : List DiskState). IsPlanFor (started ds) c.in-Ok.plan.book) read plan.book;
      block = plan.block ∙ ap (λ (ds : List DiskState). block_len_of (started ds).geometry) read;
      scratch = plan.scratch ∙ ap (λ (ds : List DiskState). (started ds).geometry) read;
    }

pub returns-in-Ok : goal.returns-in-Ok
returns-in-Ok g c =
    let none = ap (λ xs. start_fault (map g.D.Disk.state xs)) (sym c.deref.ensures.value) ∙ sym c.fault_of.ensures
    ∙ c.in_default.is in
    let plan = c.start_planned.ensures in
    record {
      taken = on_ok_always c.start_planned.result _ none;
      started = plan.started;
      refused = subst (λ (o : Option StartFault). IfErr c.start_planned.result (λ back. back.0 ≡ unwrap_or o NoMemory))
          (sym none) plan.refused;
      handed_back = plan.handed_back;
    }

pub returns-in-Err : goal.returns-in-Err
returns-in-Err g c =
    let none = ap (λ xs. start_fault (map g.D.Disk.state xs)) (sym c.deref.ensures.value) ∙ sym c.fault_of.ensures
    ∙ c.in_default.is in
    record {
      taken = tt;
      started = tt;
      refused = ap (λ (o : Option StartFault). unwrap_or o NoMemory) (sym none);
      handed_back = refl;
    }

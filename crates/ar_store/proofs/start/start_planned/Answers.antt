use Rattle.std.proofs.Common.{map, sym, ap, subst, ◌∙◌}
use Rattle.ar_disks.specs.Geometry.{block_len_of}
use Rattle.ar_extents.specs.Set.{SetState}
use Rattle.ar_store.specs.Store.{store_of}
use Rattle.ar_store.specs.Forming.{IsPlanFor, IsFormed, empty_book, members_list}
use Rattle.ar_store.proofs.start.start_planned.Goals as goal

pub form-requires : goal.form-requires
form-requires g c =
    let disks = map g.D.Disk.state c.args.disks.items in
    let set = sym c.in_ok-set.ensures.started in
    record {
      fresh = record { disks = disks; taken = c.requires.taken; set = c.in_ok-set.ensures.started };
      book = subst (λ (s : SetState). IsPlanFor s c.args.plan.book) set c.requires.book;
      block = c.requires.block ∙ ap (λ (s : SetState). block_len_of s.geometry) set;
      scratch = c.requires.scratch ∙ ap (λ (s : SetState). s.geometry) set;
    }

pub returns : goal.returns
returns g c = record {
  started = record {
    formed = subst
        (λ (s : SetState). IsFormed (store_of s (empty_book s.geometry)) (members_list c.form.result.book)
        c.form.result) c.in_ok-set.ensures.started c.form.ensures;
  };
  refused = tt;
  handed_back = tt;
}

use Rattle.std.proofs.Common.{◌∙◌, refl, sym, ap, subst}
use Rattle.ar_extents.specs.Set.{SetState}
use Rattle.ar_store.specs.Spaces.{store_in}
use Rattle.ar_rebuild.specs.Rebuild.{Advances}
use Rattle.ar_rebuild.proofs.ExtentLemmas.{rebuilding_is}
use Rattle.ar_rebuild.proofs.Writing.{calm}
use Rattle.ar_rebuild.proofs.Advancing.{advances_given_up, advances_lost, advances_done}
use Rattle.ar_rebuild.proofs.StepLemmas.{unharmed_stopped, unharmed_done, counted, counted_is, done_stops}
use Rattle.ar_rebuild.proofs.StepLemmas.{given_up_not_done, broken_not_done, was_rebuilding}
use Rattle.ar_rebuild.proofs.extent.rebuild_extent.Goals as goal

pub returns-in-Done : goal.returns-in-Done
returns-in-Done g c =
    let s = c.args.space.now in
    let b = c.write_extent.new.space in
    let d = c.count_done.new.set in
    let call = c.write_extent.ensures in
    let health = c.in-Done.ensures.answer.health in
    let is = c.count_done.ensures.done in
    let left = unharmed_done s.disks b.disks d s.book b.book c.args.place call.book c.requires.ready.space
    c.requires.rebuilding
    call.writes c.in-Done.ensures.answer is in
    record {
      answer = counted c.count_done.result s.disks b.disks d health call.writes.follows.extents
          (calm s.disks b.disks call.writes.follows
          (rebuilding_is b.disks c.args.place (health ∙ c.requires.rebuilding))) c.count_done.ensures.counts;
      plan = record {
        written = b.disks;
        accesses = call.plan;
        done = counted_is c.count_done.result b.disks d is c.count_done.ensures.counts;
      };
      stops = done_stops c.count_done.result (store_in s) b.disks d c.count_done.ensures.counts;
      ready = record {
        space = left.space;
        scratch = call.scratch ∙ c.requires.ready.scratch
            ∙ sym call.writes.follows.geometry ∙ ap (λ (x : SetState). x.geometry) (sym is);
      };
      book = call.book;
      stand = left.stand;
      slots = left.slots;
      advances = subst (λ (x : SetState). Advances s.disks x) (sym is)
          (advances_done s.disks b.disks c.args.place c.requires.rebuilding
          (rebuilding_is s.disks c.args.place c.requires.rebuilding) call.writes health);
    }

pub returns-in-GivenUp : goal.returns-in-GivenUp
returns-in-GivenUp g c =
    let s = c.args.space.now in
    let b = c.write_extent.new.space in
    let call = c.write_extent.ensures in
    let given_up = c.in-GivenUp.ensures.answer in
    let rebuilding = rebuilding_is s.disks c.args.place c.requires.rebuilding in
    let left = unharmed_stopped s.disks b.disks s.book b.book c.args.place call.book c.requires.ready.space
    c.requires.rebuilding call.writes in
    record {
      answer = record { was = rebuilding; given_up = given_up };
      plan = record { written = b.disks; accesses = call.plan; done = refl };
      stops = call.stopped (λ done. given_up_not_done (sym c.in-GivenUp.is ∙ done));
      ready = record {
        space = left.space;
        scratch = call.scratch ∙ c.requires.ready.scratch
            ∙ sym call.writes.follows.geometry;
      };
      book = call.book;
      stand = left.stand;
      slots = left.slots;
      advances = advances_given_up s.disks b.disks c.args.place c.requires.rebuilding rebuilding call.writes given_up;
    }

pub returns-in-Broken : goal.returns-in-Broken
returns-in-Broken g c =
    let s = c.args.space.now in
    let b = c.write_extent.new.space in
    let call = c.write_extent.ensures in
    let failed = c.in-Broken.ensures.answer in
    let left = unharmed_stopped s.disks b.disks s.book b.book c.args.place call.book c.requires.ready.space
    c.requires.rebuilding call.writes in
    record {
      answer = record {
        was = was_rebuilding s.disks.health (rebuilding_is s.disks c.args.place c.requires.rebuilding);
        failed = failed;
      };
      plan = record { written = b.disks; accesses = call.plan; done = refl };
      stops = call.stopped (λ done. broken_not_done (sym c.in-Broken.is ∙ done));
      ready = record {
        space = left.space;
        scratch = call.scratch ∙ c.requires.ready.scratch
            ∙ sym call.writes.follows.geometry;
      };
      book = call.book;
      stand = left.stand;
      slots = left.slots;
      advances = advances_lost s.disks b.disks c.args.place c.requires.rebuilding call.writes failed.broken;
    }

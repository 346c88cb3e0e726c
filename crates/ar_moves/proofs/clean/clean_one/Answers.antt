use Rattle.std.proofs.Common.{sym, subst, ◌∙◌}
use Rattle.ar_book.specs.declared.class.Slot.{Slot}
use Rattle.ar_disks.specs.declared.address.Key.{Key}
use Rattle.ar_book.specs.Tables.{Tables}
use Rattle.ar_moves.specs.Moves.{IsMovedTo}
use Rattle.ar_store.specs.Slots.{BesideHold}
use Rattle.ar_moves.specs.Cleaning.{NamesCleaning, NothingToClean, CleansBlock}
use Rattle.ar_moves.proofs.Answers.{if_moved_then, named_cleaned, moved_free}
use Rattle.ar_moves.proofs.Readiness.{cleaning_ready}
use Rattle.ar_moves.proofs.Ending.{cleans_fall}
use Rattle.ar_moves.proofs.Single.{cleaned_single}
use Rattle.ar_extents.specs.Plans.{CarriesOut}
use Rattle.ar_extents.proofs.Plans.{carries_broken}
use Rattle.ar_store.specs.Plans.{move_plan}
use Rattle.ar_moves.proofs.Planned.{cleans_nothing}
use Rattle.ar_moves.proofs.clean.clean_one.Goals as goal

pub move_to-requires : goal.move_to-requires
move_to-requires g c =
    let t = c.args.store.now.book in
    let names = subst (λ (x : Tables). NamesCleaning x c.in-Some.key c.in-Some.to) c.book.ensures
    c.in-Some.ensures.names in
    let ready = cleaning_ready t c.in-Some.key c.in-Some.to c.health.ensures.kept.space.tables names in
    record { placed = ready.placed; hole = ready.hole }

pub returns-in-Some : goal.returns-in-Some
returns-in-Some g c =
    let t = c.args.store.now.book in
    let new = c.move_to.new.store.book in
    let names = subst (λ (x : Tables). NamesCleaning x c.in-Some.key c.in-Some.to) c.book.ensures
    c.in-Some.ensures.names in
    let moves = c.move_to.ensures in
    record {
      moved = if_moved_then c.move_to.result (IsMovedTo t c.in-Some.key c.in-Some.to new)
          (CleansBlock c.args.store.now c.move_to.new.store) moves.moved
          (λ k s moved.
          let cleans = named_cleaned t new c.in-Some.key c.in-Some.to names k s moved in
          record {
            tables = cleans;
            less = cleans_fall t new k s c.health.ensures.kept.space.tables cleans;
            beside = subst (λ x. BesideHold c.args.store.now c.move_to.new.store x) (sym moved.slot_is) moves.beside;
          });
      idle = λ idle. absurd (moves.idle idle);
      nothing = λ none. absurd (cleans_nothing t c.in-Some.key c.in-Some.to none names);
      broken = moves.broken;
      unmoved = moves.unmoved;
      free = moved_free c.move_to.result t new c.in-Some.key c.in-Some.to moves.moved moves.idle moves.unmoved;
      plan = λ key to named.
          let a = c.args.store.now in
          let b = c.move_to.new.store in
          let same = cleaned_single t c.in-Some.key key c.in-Some.to to names named in
          let P : Key → Type 0 = λ k. CarriesOut (move_plan a k to) a.disks b.disks in
          let Q : Slot → Type 0 = λ s. CarriesOut (move_plan a c.in-Some.key s) a.disks b.disks in
          subst P same.keys (subst Q same.slots moves.plan);
      leaves = moves.leaves;
    }

pub returns-in-None-clause-plan : goal.returns-in-None-clause-plan
returns-in-None-clause-plan g c = λ key to named.
    absurd (cleans_nothing c.args.store.now.book key to
    (subst (λ (x : Tables). NothingToClean x) c.book.ensures c.in-None.ensures.none) named)

pub returns-in-Broken-clause-plan : goal.returns-in-Broken-clause-plan
returns-in-Broken-clause-plan g c = λ key to named.
    carries_broken (move_plan c.args.store.now key to) c.args.store.now.disks (sym c.health.ensures.health
    ∙ c.in-Broken.is)

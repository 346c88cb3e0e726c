use Rattle.std.proofs.Common.{inl, inr, refl, sym, ap, subst, rules}
use Rattle.ar_moves.specs.Moves.{IsMovedTo}
use Rattle.ar_book.specs.declared.class.Class.TheVariants.{Parity}
use Rattle.ar_book.specs.Tables.{Tables}
use Rattle.ar_book.specs.Changes.{slot_at}
use Rattle.ar_moves.specs.Demotion.{DemotesTo, IsSlotFor, MayHaveOpened}
use Rattle.ar_moves.proofs.Answers.{if_moved_then, leaves_then, hole_made, ready_for, opens_slot, cut_tables}
use Rattle.ar_moves.proofs.Answers.{cut_nothing, idle_not_broken}
use Rattle.ar_store.proofs.Accesses.{open_accessed, opens_accessed}
use Rattle.ar_store.specs.Store.{StoreState, members_of}
use Rattle.ar_moves.proofs.Planned.{moved_to_new, opens_nothing, opening_cut}
use Rattle.ar_moves.proofs.Single.{leaves_ready, cut_ready}
use Rattle.ar_moves.proofs.Readiness.{opened_first, zeros_beside}
use Rattle.ar_moves.proofs.demote.demote_to_new.Goals as goal

pub move_to-requires-clause-hole : goal.move_to-requires-clause-hole
move_to-requires-clause-hole g c =
    opened_first c.args.store.now.book c.open_group.new.self.book c.in-Opened.group c.requires.kept.space.tables
    c.in-Opened.ensures.opens

pub returns-in-Opened : goal.returns-in-Opened
returns-in-Opened g c =
    let old = c.args.store.now in
    let t = old.book in
    let mid = c.open_group.new.self in
    let new = c.move_to.new.store in
    let key = c.args.key in
    let group = c.in-Opened.group in
    let to = slot_at group 0 in
    let none = c.requires.none in
    let opening = c.open_group.ensures in
    let opened = c.in-Opened.ensures.opens in
    let zeros = c.in-Opened.ensures.parity refl in
    let moves = c.move_to.ensures in
    let filled = opening.plan group opened.many opened.lowest in
    let access = open_accessed Parity old.disks.geometry (members_of old group) old.disks mid.disks filled in
    let slot : IsSlotFor t to mid.book =
    inr (record { none = none; group = group; opened = opened; first = refl }) in
    record {
      moved = if_moved_then c.move_to.result (IsMovedTo mid.book key to new.book) (DemotesTo old key new) moves.moved
          (hole_made old mid new key group none opened
          (zeros_beside old mid new group c.requires.kept opened zeros moves.beside access.follows.geometry
          moves.leaves.accessed.follows.geometry));
      idle = λ idle. absurd (moves.idle idle);
      nothing = λ named. absurd (opens_slot t mid.book group none opened named);
      done = record {
        broken = moves.broken;
        opened = λ broke. subst (λ (x : Tables). MayHaveOpened t x) (sym (moves.unmoved broke))
            (ready_for t mid.book key c.requires.oldest none (inr (group, opened)));
        ready = λ broke _. leaves_ready t new.book mid.book to slot (moves.unmoved broke);
        plan = moved_to_new old mid new key group c.requires.kept.space.tables c.requires.oldest none opened filled
            zeros moves.plan;
        leaves = leaves_then old mid new opening.stands opening.units access opening.broken moves.leaves;
      };
    }

pub returns-in-Idle-clause-done : goal.returns-in-Idle-clause-done
returns-in-Idle-clause-done g c =
    let old = c.args.store.now in
    let opening = c.open_group.ensures in
    let idle = c.in-Idle.ensures.opens in
    record {
      broken = search rules;
      opened = λ _. inl (ap (λ (s : StoreState). s.book) idle.same);
      ready = λ is _. absurd (idle_not_broken is);
      plan = opens_nothing old c.open_group.new.self c.requires.none idle.few;
      leaves = record {
        stands = opening.stands;
        units = opening.units;
        accessed = opens_accessed old c.open_group.new.self Parity c.open_group.result opening.opens opening.plan;
        broken = opening.broken;
      };
    }

pub returns-in-Broken-clause-done : goal.returns-in-Broken-clause-done
returns-in-Broken-clause-done g c =
    let old = c.args.store.now in
    let new = c.open_group.new.self in
    let opening = c.open_group.ensures in
    let cut = c.in-Broken.ensures.opens in
    record {
      broken = search rules;
      opened = λ _. ready_for old.book new.book c.args.key c.requires.oldest c.requires.none (cut_tables old new cut);
      ready = λ _ sound. cut_ready old new c.requires.none sound cut;
      plan = opening_cut old new c.requires.none cut.broken opening.plan;
      leaves = record {
        stands = opening.stands;
        units = opening.units;
        accessed = opens_accessed old new Parity c.open_group.result opening.opens opening.plan;
        broken = opening.broken;
      };
    }

pub returns-in-Broken-clause-nothing : goal.returns-in-Broken-clause-nothing
returns-in-Broken-clause-nothing g c =
    cut_nothing c.args.store.now c.open_group.new.self c.requires.none c.in-Broken.ensures.opens

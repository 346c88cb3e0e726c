use Rattle.std.proofs.Common.{inl, refl, subst}
use Rattle.ar_book.specs.declared.class.Class.TheVariants.{Parity}
use Rattle.ar_book.specs.Tables.{Tables}
use Rattle.ar_store.specs.Placing.{IsLowestHole}
use Rattle.ar_moves.specs.Moves.{IsMovedTo}
use Rattle.ar_moves.specs.Demotion.{DemotesTo, IsSlotFor}
use Rattle.ar_moves.proofs.Answers.{if_moved_then, hole_there}
use Rattle.ar_moves.proofs.Planned.{moved_there}
use Rattle.ar_moves.proofs.Single.{leaves_ready}
use Rattle.ar_moves.proofs.demote.demote.Goals as goal

pub returns-in-Some : goal.returns-in-Some
returns-in-Some g c =
    let old = c.args.store.now in
    let t = old.book in
    let new = c.move_to.new.store in
    let key = c.args.key in
    let to = c.in-Some.to in
    let moves = c.move_to.ensures in
    let found = c.in-Some.ensures in
    let lowest =
    subst (λ (x : Tables). IsLowestHole x Parity to) c.book.ensures
    (record { hole = found.found; least = found.least }) in
    let slot : IsSlotFor t to t = inl (record { lowest = lowest; same = refl }) in
    record {
      moved = if_moved_then c.move_to.result (IsMovedTo t key to new.book) (DemotesTo old key new) moves.moved
          (hole_there old new key to lowest moves.beside);
      idle = λ idle. absurd (moves.idle idle);
      nothing = λ named. absurd (named.none to t slot);
      done = record {
        broken = moves.broken;
        opened = λ broke. inl (moves.unmoved broke);
        ready = λ broke _. leaves_ready t new.book t to slot (moves.unmoved broke);
        plan = moved_there old new key to c.requires.kept.space.tables c.requires.oldest lowest moves.plan;
        leaves = moves.leaves;
      };
    }

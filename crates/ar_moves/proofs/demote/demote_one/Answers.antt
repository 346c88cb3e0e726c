use Rattle.std.proofs.Common.{inl, refl, sym, subst, ◌∙◌, rules}
use Rattle.ar_book.specs.Tables.{Tables}
use Rattle.ar_book.specs.Choices.{IsMirrored}
use Rattle.ar_moves.specs.Demotion.{IsOldestMirrored, DemotesBlock, DemotesTo}
use Rattle.ar_moves.proofs.Answers.{if_moved_then, idle_not_broken, oldest_demoted}
use Rattle.ar_moves.proofs.Planned.{demotes_none, demotes_nothing}
use Rattle.ar_moves.proofs.demote.demote_one.Goals as goal

pub returns-in-Some : goal.returns-in-Some
returns-in-Some g c =
    let old = c.args.store.now in
    let new = c.demote.new.store in
    let found = c.in-Some.ensures in
    let oldest =
    subst (λ (x : Tables). IsOldestMirrored x c.in-Some.key) c.book.ensures
    (record { mirrored = found.found; oldest = found.oldest }) in
    let demoted = c.demote.ensures in
    record {
      moved = if_moved_then c.demote.result (DemotesTo old c.in-Some.key new) (DemotesBlock old new) demoted.moved
          (oldest_demoted old new c.in-Some.key oldest);
      idle = λ idle.
          let left = demoted.idle idle in
          record { why = record { none = λ key to ready names. left.why.none to ready names.slot }; same = left.same };
      nothing = λ named. demoted.nothing
          (record {
            none = λ to ready slot. named.none c.in-Some.key to ready
                (record { oldest = oldest; slot = slot });
          });
      done = demoted.done;
    }

pub returns-in-None-clause-done : goal.returns-in-None-clause-done
returns-in-None-clause-done g c = record {
  broken = search rules;
  opened = λ _. inl refl;
  ready = λ is _. absurd (idle_not_broken is);
  plan = demotes_nothing c.args.store.now
      (λ k is. c.in-None.ensures.none k (subst (λ (x : Tables). IsMirrored x k) (sym c.book.ensures) is));
  leaves = search rules;
}

pub returns-in-Broken-clause-done : goal.returns-in-Broken-clause-done
returns-in-Broken-clause-done g c =
    let broken = sym c.health.ensures.health ∙ c.in-Broken.is in
    record {
      broken = search rules;
      opened = λ _. inl refl;
      ready = λ _ sound. absurd (sound broken);
      plan = demotes_none c.args.store.now broken;
      leaves = search rules;
    }

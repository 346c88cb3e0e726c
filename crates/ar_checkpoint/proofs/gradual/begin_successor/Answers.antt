use Rattle.std.proofs.Common.{◌≡◌, ℕ, None, List, refl, sym, ap, subst, ◌∙◌}
use Rattle.ar_log.specs.Log.{batches_of}
use Rattle.ar_log.specs.declared.log.Log.{Log}
use Rattle.ar_journal.specs.declared.journal.Journal.{Journal}
use Rattle.ar_checkpoint.specs.Gradual.{WritesFirst, is_other_clean}
use Rattle.ar_checkpoint.specs.declared.gradual.Writer.{Writer}
use Rattle.ar_checkpoint.proofs.Graduating.{keeps_all, writing_begun}
use Rattle.ar_checkpoint.proofs.gradual.begin_successor.Goals as goal

pub returns-clause-done : goal.returns-clause-done
returns-clause-done g c =
    let seen = g.M.Media.seen in
    let old = c.args.journal.now in
    let new = c.take_spare.new.self in
    let taken = c.take_spare.ensures.taken c.requires.is_open in
    let writer : Writer g.row.M.Denot = record { log = c.in-Ok.log; rest = None; units = c.args.replay.units } in
    let active : new.active ≡ old.active = ap (λ (j : Journal _). j.active) taken.1 in
    let some : c.args.place.number ≡ 0 → ⊥ = c.if-place-eq0.false in
    let written : WritesFirst seen g.M.Media.may_leave g.M.Media.is_clean c.in_ok-next.next.items
    c.args.replay.disks.items c.in-Some.spare c.in-Ok.log =
    subst (λ (l : List ℕ). WritesFirst seen g.M.Media.may_leave g.M.Media.is_clean l c.args.replay.disks.items
    c.in-Some.spare c.in-Ok.log) c.deref.ensures.value
    (subst (λ (l : List ℕ). WritesFirst seen g.M.Media.may_leave g.M.Media.is_clean c.deref.result.now l
    c.in-Some.spare c.in-Ok.log) c.deref-2.ensures.value c.in-Ok.ensures.written) in
    record {
      keeps =
          keeps_all seen g.M.Media.may_leave g.M.Media.moment g.M.Media.left_since g.M.Media.is_clean old new None
          taken.1;
      follows = λ now.
          writing_begun seen g.M.Media.may_leave g.M.Media.moment g.M.Media.left_since g.M.Media.is_clean old new
          c.in_ok-next.next.items c.args.replay writer c.in-Some.spare c.args.place
          (ap (λ (l : Log _). batches_of (seen l.media)) active) (ap (λ (l : Log _). l.media) active) some refl refl
          written c.requires.replaying;
      head = tt;
      clean =
          written.clean
          ∙ ap (is_other_clean g.M.Media.is_clean) (sym c.in-Some.is ∙ taken.0);
    }

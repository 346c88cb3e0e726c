use Rattle.std.proofs.Common.{◌∙◌, ℕ, List, IsTrue, length, ap, sym, subst}
use Rattle.ar_media.specs.Media.{LeavesOnly, Only}
use Rattle.ar_media.proofs.Moments.{then_goes_on}
use Rattle.ar_log.specs.Zeroed.{IsStillHeld, EndsAt}
use Rattle.ar_log.proofs.Whole.{read_run}
use Rattle.ar_log.proofs.Beginning.{held_now}
use Rattle.ar_log.proofs.zeroed_start.recover_zeroed.Goals as goal

pub returns-in-Err-clause-any_moment : goal.returns-in-Err-clause-any_moment
returns-in-Err-clause-any_moment g c clean holds =
    let old = c.args.media.now in
    let x = g.M.Media.seen old in
    read_run g.M.Media.seen g.M.Media.may_leave g.M.Media.moment g.M.Media.left_since g.M.Media.is_clean old
    c.read_medium.new.media (IsStillHeld x) c.read_medium.ensures.reads
    (λ f left. held_now x holds f (c.requires f (g.met.M.Media.only_now old f left)))
    (λ f now. held_now x holds f (c.requires f now))

pub returns-in-Ok-clause-any_moment : goal.returns-in-Ok-clause-any_moment
returns-in-Ok-clause-any_moment g c clean holds =
    let old = c.args.media.now in
    let mid = c.read_medium.new.media in
    let x = g.M.Media.seen old in
    let y = g.M.Media.seen mid in
    let reads = c.read_medium.ensures.reads in
    let back : IsTrue (g.M.Media.is_clean mid) = subst IsTrue c.zero_after.ensures.clean clean in
    let whole = c.in-Ok.ensures.whole back in
    let P : List ℕ → Type 0 = λ f. EndsAt f c.in-Ok.log.end in
    let Q : List ℕ → Type 0 = λ f. LeavesOnly g.M.Media.moment g.M.Media.left_since mid c.zero_after.new.media
    (IsStillHeld f) in
    let only : Only y (g.M.Media.may_leave mid) = λ f now. c.requires f (reads.crash f now) ∙ sym reads.same in
    let run = c.zero_after.ensures.any_moment (subst P (sym reads.same) whole.ends)
    (c.in-Ok.ensures.ahead back ∙ ap length (sym reads.same)) only in
    then_goes_on g.M.Media.moment g.M.Media.left_since old mid c.zero_after.new.media (IsStillHeld x)
    (read_run g.M.Media.seen g.M.Media.may_leave g.M.Media.moment g.M.Media.left_since g.M.Media.is_clean old mid
    (IsStillHeld x) reads
    (λ f left. held_now x holds f (c.requires f (g.met.M.Media.only_now old f left)))
    (λ f now. held_now x holds f (c.requires f now)))
    (subst Q reads.same run)

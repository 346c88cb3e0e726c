use Rattle.std.proofs.Common.{arith, ◌≡◌, ◌-◌, ◌∙◌, ℕ, length, ap}
use Rattle.std.proofs.lemmas.List.{length-replicate}
use Rattle.ar_media.proofs.Moments.{started}
use Rattle.ar_log.specs.Zeroed.{IsStillHeld}
use Rattle.ar_log.proofs.Appending.{tears_on}
use Rattle.ar_log.proofs.Beginning.{held_now, ends_holds, still_held, zeroed_after}
use Rattle.ar_log.proofs.zeroed_start.zero_after.Goals as goal

pub returns-in_err-rest-clause-any_moment : goal.returns-in_err-rest-clause-any_moment
returns-in_err-rest-clause-any_moment g c ends size only =
    let x = g.M.Media.seen c.args.media.now in
    started g.M.Media.moment g.M.Media.left_since c.args.media.now (IsStillHeld x)
    (λ f left. held_now x (ends_holds x c.args.log.end ends) f
    (only f (g.met.M.Media.only_now c.args.media.now f left)))

pub returns-in_err-write_synced-clause-any_moment : goal.returns-in_err-write_synced-clause-any_moment
returns-in_err-write_synced-clause-any_moment g c ends size only =
    let x = g.M.Media.seen c.args.media.now in
    let is = c.deref.ensures.value ∙ c.in_ok-rest.ensures in
    let len : length c.deref.result.now ≡ c.args.log.ahead - c.args.log.end =
    ap length is ∙ length-replicate {A = ℕ} _ 0 in
    tears_on g.M.Media.moment g.M.Media.left_since g.M.Media.may_leave _ _ c.args.media.now c.args.media.now
    c.write_synced.new.media (IsStillHeld x)
    (started g.M.Media.moment g.M.Media.left_since c.args.media.now (IsStillHeld x)
    (λ f left. held_now x (ends_holds x c.args.log.end ends) f
    (only f (g.met.M.Media.only_now c.args.media.now f left))))
    c.write_synced.ensures.tears
    (still_held x c.args.log.end (length c.deref.result.now) (g.M.Media.may_leave c.args.media.now) ends
    (omega (arith, len, size, c.requires)) only)

pub returns-clause-any_moment : goal.returns-clause-any_moment
returns-clause-any_moment g c ends size only =
    let x = g.M.Media.seen c.args.media.now in
    let is = c.deref.ensures.value ∙ c.in_ok-rest.ensures in
    let len : length c.deref.result.now ≡ c.args.log.ahead - c.args.log.end =
    ap length is ∙ length-replicate {A = ℕ} _ 0 in
    tears_on g.M.Media.moment g.M.Media.left_since g.M.Media.may_leave _ _ c.args.media.now c.args.media.now
    c.write_synced.new.media (IsStillHeld x)
    (started g.M.Media.moment g.M.Media.left_since c.args.media.now (IsStillHeld x)
    (λ f left. held_now x (ends_holds x c.args.log.end ends) f
    (only f (g.met.M.Media.only_now c.args.media.now f left))))
    c.write_synced.ensures.tears
    (still_held x c.args.log.end (length c.deref.result.now) (g.M.Media.may_leave c.args.media.now) ends
    (omega (arith, len, size, c.requires)) only)

pub returns-clause-zeroed : goal.returns-clause-zeroed
returns-clause-zeroed g c ends size =
    let x = g.M.Media.seen c.args.media.now in
    let is = c.deref.ensures.value ∙ c.in_ok-rest.ensures in
    zeroed_after c.args.log.end (c.args.log.ahead - c.args.log.end) c.args.log.ahead c.deref.result.now x
    (g.M.Media.seen c.write_synced.new.media) ends size is (omega (arith, c.requires))
    (c.in_ok-write_synced.ensures.written ends.within)

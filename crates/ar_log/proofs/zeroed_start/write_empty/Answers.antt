use Rattle.std.proofs.Common.{rules, arith, ◌≡◌, ◌∙◌, [], ℕ, length, replicate, ap}
use Rattle.std.proofs.lemmas.List.{length-append, length-replicate}
use Rattle.ar_media.proofs.Moments.{started}
use Rattle.ar_log.specs.Zeroed.{IsBegunAhead, zeroed_magic}
use Rattle.ar_log.proofs.Appending.{tears_on}
use Rattle.ar_log.proofs.Beginning.{begun, empty_is}
use Rattle.ar_log.proofs.zeroed_start.write_empty.Goals as goal

pub returns-in_err-bytes-clause-any_moment : goal.returns-in_err-bytes-clause-any_moment
returns-in_err-bytes-clause-any_moment g c =
    started g.M.Media.moment g.M.Media.left_since c.args.media.now IsBegunAhead (λ f left. begun f)

pub returns-in_err-write_synced-clause-any_moment : goal.returns-in_err-write_synced-clause-any_moment
returns-in_err-write_synced-clause-any_moment g c =
    tears_on g.M.Media.moment g.M.Media.left_since g.M.Media.may_leave _ _ c.args.media.now c.args.media.now
    c.write_synced.new.media IsBegunAhead
    (started g.M.Media.moment g.M.Media.left_since c.args.media.now IsBegunAhead (λ f left. begun f))
    c.write_synced.ensures.tears (λ f left. begun f)

pub returns-clause-any_moment : goal.returns-clause-any_moment
returns-clause-any_moment g c =
    tears_on g.M.Media.moment g.M.Media.left_since g.M.Media.may_leave _ _ c.args.media.now c.args.media.now
    c.write_synced.new.media IsBegunAhead
    (started g.M.Media.moment g.M.Media.left_since c.args.media.now IsBegunAhead (λ f left. begun f))
    c.write_synced.ensures.tears (λ f left. begun f)

pub returns-clause-zeroed : goal.returns-clause-zeroed
returns-clause-zeroed g c =
    let x = g.M.Media.seen c.args.media.now in
    let none : x ≡ [] = c.requires x (g.met.M.Media.seen_may_stay c.args.media.now) in
    let size : c.len.result ≡ length c.deref.result.now = search rules in
    empty_is c.args.len c.len.result c.deref.result.now x (g.M.Media.seen c.write_synced.new.media)
    (c.deref.ensures.value ∙ c.in_ok-bytes.ensures) size none
    (c.in_ok-write_synced.ensures.written (omega arith))

pub returns-clause-room : goal.returns-clause-room
returns-clause-room g c =
    let size : c.len.result ≡ length c.in_ok-bytes.bytes.items = search rules in
    omega (
      arith,
      size,
      ap length c.in_ok-bytes.ensures,
      length-append zeroed_magic (replicate c.args.len 0),
      length-replicate {A = ℕ} c.args.len 0,
    )

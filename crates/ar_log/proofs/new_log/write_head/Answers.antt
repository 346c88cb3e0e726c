use Rattle.std.proofs.Common.{rules, arith, ◌≡◌, [], ◌∷◌, ℕ, List, length, vec_len, ◌∙◌, ap, length-append}
use Rattle.ar_media.proofs.Moments.{started}
use Rattle.ar_log.specs.Codec.{framed, sealed}
use Rattle.ar_log.specs.Log.{IsBegun}
use Rattle.ar_log.proofs.Standing.{length_sealed}
use Rattle.ar_log.proofs.Appending.{tears_on}
use Rattle.ar_log.proofs.Creating.{begun_first, begun_torn, begun_zeros, begun_head, headed, created}
use Rattle.ar_log.proofs.new_log.write_head.Goals as goal

pub returns-in_err-write_synced-2-clause-any_moment : goal.returns-in_err-write_synced-2-clause-any_moment
returns-in_err-write_synced-2-clause-any_moment g c =
    let media = c.args.media.now in
    let old = g.M.Media.may_leave media in
    let P : List ℕ → Type 0 = IsBegun c.args.head.now old in
    let at_start = started g.M.Media.moment g.M.Media.left_since media P
    (λ f left. begun_first c.args.head.now old f (g.met.M.Media.only_now media f left)) in
    let zeros =
    tears_on g.M.Media.moment g.M.Media.left_since g.M.Media.may_leave _ _ media media c.write_synced.new.media P
    at_start c.write_synced.ensures.tears
    (begun_torn c.args.head.now old) in
    tears_on g.M.Media.moment g.M.Media.left_since g.M.Media.may_leave _ _ media c.write_synced.new.media
    c.write_synced-2.new.media P zeros c.write_synced-2.ensures.tears
    (begun_zeros c.args.head.now old _ (g.M.Media.seen media) (g.M.Media.seen c.write_synced.new.media)
    (g.M.Media.may_leave c.write_synced.new.media)
    (c.in_ok-write_synced.ensures.written (omega arith)) c.in_ok-write_synced.ensures.durable)

pub returns-in_err-write_synced-3-clause-any_moment : goal.returns-in_err-write_synced-3-clause-any_moment
returns-in_err-write_synced-3-clause-any_moment g c =
    let media = c.args.media.now in
    let old = g.M.Media.may_leave media in
    let P : List ℕ → Type 0 = IsBegun c.args.head.now old in
    let at_start = started g.M.Media.moment g.M.Media.left_since media P
    (λ f left. begun_first c.args.head.now old f (g.met.M.Media.only_now media f left)) in
    let zeros =
    tears_on g.M.Media.moment g.M.Media.left_since g.M.Media.may_leave _ _ media media c.write_synced.new.media P
    at_start c.write_synced.ensures.tears
    (begun_torn c.args.head.now old) in
    let second =
    tears_on g.M.Media.moment g.M.Media.left_since g.M.Media.may_leave _ _ media c.write_synced.new.media
    c.write_synced-2.new.media P zeros c.write_synced-2.ensures.tears
    (begun_zeros c.args.head.now old _ (g.M.Media.seen media) (g.M.Media.seen c.write_synced.new.media)
    (g.M.Media.may_leave c.write_synced.new.media)
    (c.in_ok-write_synced.ensures.written (omega arith)) c.in_ok-write_synced.ensures.durable) in
    let behind =
    headed c.args.head.now (g.M.Media.seen media) (g.M.Media.seen c.write_synced.new.media)
    (g.M.Media.seen c.write_synced-2.new.media) c.deref.result.now
    (c.deref.ensures.value ∙ c.in_ok-bytes.ensures.bytes) c.in_ok-bytes.ensures.fits
    (c.in_ok-write_synced.ensures.written (omega arith)) c.in_ok-write_synced-2.ensures.written in
    tears_on g.M.Media.moment g.M.Media.left_since g.M.Media.may_leave _ _ media c.write_synced-2.new.media
    c.write_synced-3.new.media P second c.write_synced-3.ensures.tears
    (begun_head c.args.head.now old (g.M.Media.seen c.write_synced-2.new.media)
    (g.M.Media.may_leave c.write_synced-2.new.media) behind c.in_ok-write_synced-2.ensures.durable)

pub returns-clause-any_moment : goal.returns-clause-any_moment
returns-clause-any_moment g c =
    let media = c.args.media.now in
    let old = g.M.Media.may_leave media in
    let P : List ℕ → Type 0 = IsBegun c.args.head.now old in
    let at_start = started g.M.Media.moment g.M.Media.left_since media P
    (λ f left. begun_first c.args.head.now old f (g.met.M.Media.only_now media f left)) in
    let zeros =
    tears_on g.M.Media.moment g.M.Media.left_since g.M.Media.may_leave _ _ media media c.write_synced.new.media P
    at_start c.write_synced.ensures.tears
    (begun_torn c.args.head.now old) in
    let second =
    tears_on g.M.Media.moment g.M.Media.left_since g.M.Media.may_leave _ _ media c.write_synced.new.media
    c.write_synced-2.new.media P zeros c.write_synced-2.ensures.tears
    (begun_zeros c.args.head.now old _ (g.M.Media.seen media) (g.M.Media.seen c.write_synced.new.media)
    (g.M.Media.may_leave c.write_synced.new.media)
    (c.in_ok-write_synced.ensures.written (omega arith)) c.in_ok-write_synced.ensures.durable) in
    let behind =
    headed c.args.head.now (g.M.Media.seen media) (g.M.Media.seen c.write_synced.new.media)
    (g.M.Media.seen c.write_synced-2.new.media) c.deref.result.now
    (c.deref.ensures.value ∙ c.in_ok-bytes.ensures.bytes) c.in_ok-bytes.ensures.fits
    (c.in_ok-write_synced.ensures.written (omega arith)) c.in_ok-write_synced-2.ensures.written in
    tears_on g.M.Media.moment g.M.Media.left_since g.M.Media.may_leave _ _ media c.write_synced-2.new.media
    c.write_synced-3.new.media P second c.write_synced-3.ensures.tears
    (begun_head c.args.head.now old (g.M.Media.seen c.write_synced-2.new.media)
    (g.M.Media.may_leave c.write_synced-2.new.media) behind c.in_ok-write_synced-2.ensures.durable)

pub returns-clause-stands : goal.returns-clause-stands
returns-clause-stands g c =
    let media = c.args.media.now in
    let behind =
    headed c.args.head.now (g.M.Media.seen media) (g.M.Media.seen c.write_synced.new.media)
    (g.M.Media.seen c.write_synced-2.new.media) c.deref.result.now
    (c.deref.ensures.value ∙ c.in_ok-bytes.ensures.bytes) c.in_ok-bytes.ensures.fits
    (c.in_ok-write_synced.ensures.written (omega arith)) c.in_ok-write_synced-2.ensures.written in
    created c.args.head.now (g.M.Media.seen c.write_synced-2.new.media)
    (g.M.Media.seen c.write_synced-3.new.media) behind (c.in_ok-write_synced-3.ensures.written (omega arith))

pub returns-clause-end : goal.returns-clause-end
returns-clause-end g c =
    let size : vec_len c.in_ok-bytes.bytes ≡ length c.in_ok-bytes.bytes.items = search rules in
    omega (
      arith,
      c.len.ensures,
      size,
      ap length c.in_ok-bytes.ensures.bytes,
      length-append (sealed 0 (framed c.args.head.now)) (0 ∷ 0 ∷ []),
      length_sealed 0 (framed c.args.head.now),
      length-append (framed c.args.head.now) [],
    )

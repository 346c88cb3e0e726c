use Rattle.std.proofs.Common.{rules, arith, ◌≡◌, ◌+◌, ◌≤◌, ◌∙◌, [], ◌∷◌, ◌++◌, ℕ, List, ap, sym, length, take}
use Rattle.ar_media.proofs.Moments.{started, weaker}
use Rattle.ar_log.specs.Codec.{items_of}
use Rattle.ar_log.specs.Zeroed.{zeroed_batches, zeroed_front, IsWithOrWithout}
use Rattle.ar_log.proofs.Appending.{tears_on}
use Rattle.ar_log.proofs.Zeroing.{torn_holds, fit_push, overwritten_length}
use Rattle.ar_log.proofs.Advancing.{are_from, ahead_from, with_or_without_now, left_over, appended_front}
use Rattle.ar_log.proofs.Advancing.{appended_zeros}
use Rattle.ar_log.proofs.zeroed.ZeroedLog.append.Goals as goal

pub returns-in_err-bytes-clause-any_moment : goal.returns-in_err-bytes-clause-any_moment
returns-in_err-bytes-clause-any_moment g c still clean =
    let settled = c.requires still clean in
    let log = c.args.self.now in
    let x = g.M.Media.seen log.media in
    let batch = items_of c.args.records.now in
    started g.M.Media.moment g.M.Media.left_since log.media (IsWithOrWithout log.end (zeroed_batches x) batch)
    (λ f left. with_or_without_now log.end batch x settled.front settled.fit settled.zeros f
    (settled.durable f (g.met.M.Media.only_now log.media f left)))

pub returns-in_default-clause-any_moment : goal.returns-in_default-clause-any_moment
returns-in_default-clause-any_moment g c still clean =
    let settled = c.requires still clean in
    let log = c.args.self.now in
    let x = g.M.Media.seen log.media in
    let batch = items_of c.args.records.now in
    started g.M.Media.moment g.M.Media.left_since log.media (IsWithOrWithout log.end (zeroed_batches x) batch)
    (λ f left. with_or_without_now log.end batch x settled.front settled.fit settled.zeros f
    (settled.durable f (g.met.M.Media.only_now log.media f left)))

pub returns-in-Err-clause-any_moment : goal.returns-in-Err-clause-any_moment
returns-in-Err-clause-any_moment g c still clean =
    let settled = c.requires still clean in
    let log = c.args.self.now in
    let x = g.M.Media.seen log.media in
    let batch = items_of c.args.records.now in
    weaker g.M.Media.moment g.M.Media.left_since log.media c.make_room.new.self.media
    (λ f. take log.end f ≡ take log.end x) (IsWithOrWithout log.end (zeroed_batches x) batch)
    (c.make_room.ensures.any_moment settled)
    (λ f same. torn_holds (zeroed_batches x) batch log.end f (same ∙ settled.front) settled.fit
    c.in_ok-bytes.ensures.fits)

pub returns-in-Err-write_synced-clause-any_moment : goal.returns-in-Err-write_synced-clause-any_moment
returns-in-Err-write_synced-clause-any_moment g c still clean =
    let settled = c.requires still clean in
    let log = c.args.self.now in
    let x = g.M.Media.seen log.media in
    let batch = items_of c.args.records.now in
    let batches = zeroed_batches x in
    let P : List ℕ → Type 0 = IsWithOrWithout log.end batches batch in
    let mid = c.make_room.new.self in
    let room = c.in_default-make_room.ensures.ahead settled in
    let ends : mid.end ≡ log.end = c.make_room.ensures.end in
    let front : take log.end (g.M.Media.seen mid.media) ≡ zeroed_front batches =
    ap (λ (n : ℕ). take n (g.M.Media.seen mid.media)) (sym ends) ∙ room.front
    ∙ ap zeroed_front (c.in_default-make_room.ensures.batches settled) in
    let so_far =
    weaker g.M.Media.moment g.M.Media.left_since log.media mid.media
    (λ f. take log.end f ≡ take log.end x) P (c.make_room.ensures.any_moment settled)
    (λ f same. torn_holds batches batch log.end f (same ∙ settled.front) settled.fit c.in_ok-bytes.ensures.fits) in
    tears_on g.M.Media.moment g.M.Media.left_since g.M.Media.may_leave _ _ log.media mid.media
    c.write_synced.new.media P so_far c.write_synced.ensures.tears
    (left_over batches batch log.end mid.end _ (g.M.Media.seen mid.media) (g.M.Media.may_leave mid.media) front
    settled.fit c.in_ok-bytes.ensures.fits (omega (arith, room.within, room.ahead, ends)) ends room.durable)

pub returns-clause-any_moment : goal.returns-clause-any_moment
returns-clause-any_moment g c still clean =
    let settled = c.requires still clean in
    let log = c.args.self.now in
    let x = g.M.Media.seen log.media in
    let batch = items_of c.args.records.now in
    let batches = zeroed_batches x in
    let P : List ℕ → Type 0 = IsWithOrWithout log.end batches batch in
    let mid = c.make_room.new.self in
    let room = c.in_default-make_room.ensures.ahead settled in
    let ends : mid.end ≡ log.end = c.make_room.ensures.end in
    let front : take log.end (g.M.Media.seen mid.media) ≡ zeroed_front batches =
    ap (λ (n : ℕ). take n (g.M.Media.seen mid.media)) (sym ends) ∙ room.front
    ∙ ap zeroed_front (c.in_default-make_room.ensures.batches settled) in
    let so_far =
    weaker g.M.Media.moment g.M.Media.left_since log.media mid.media
    (λ f. take log.end f ≡ take log.end x) P (c.make_room.ensures.any_moment settled)
    (λ f same. torn_holds batches batch log.end f (same ∙ settled.front) settled.fit c.in_ok-bytes.ensures.fits) in
    tears_on g.M.Media.moment g.M.Media.left_since g.M.Media.may_leave _ _ log.media mid.media
    c.write_synced.new.media P so_far c.write_synced.ensures.tears
    (left_over batches batch log.end mid.end _ (g.M.Media.seen mid.media) (g.M.Media.may_leave mid.media) front
    settled.fit c.in_ok-bytes.ensures.fits (omega (arith, room.within, room.ahead, ends)) ends room.durable)

pub returns-clause-acknowledged : goal.returns-clause-acknowledged
returns-clause-acknowledged g c clean =
    let settled = c.requires c.if-self.false clean in
    let log = c.args.self.now in
    let x = g.M.Media.seen log.media in
    let batch = items_of c.args.records.now in
    let batches = zeroed_batches x in
    let mid = c.make_room.new.self in
    let z = g.M.Media.seen mid.media in
    let y = g.M.Media.seen c.write_synced.new.media in
    let room = c.in_default-make_room.ensures.ahead settled in
    let held : c.in-Some.end ≤ mid.ahead = c.in_default-make_room.ensures.room in
    let ends : mid.end ≡ log.end = c.make_room.ensures.end in
    let bytes = c.deref.result.now in
    let is = c.deref.ensures.value ∙ c.in_ok-bytes.ensures.bytes in
    let at_is : c.in-Some.end ≡ log.end + c.len.result = search rules in
    let size : c.len.result ≡ length bytes = search rules in
    let at_mid : c.in-Some.end ≡ mid.end + length bytes = omega (arith, at_is, size, ends) in
    let within : mid.end ≤ length z = omega (arith, room.within, room.ahead) in
    let over = c.in_default-write_synced.ensures.written within in
    let front_mid = room.front ∙ ap zeroed_front (c.in_default-make_room.ensures.batches settled) in
    let front = appended_front batches batch mid.end c.in-Some.end bytes z y front_mid within is at_mid over in
    let fit = fit_push batches batch settled.fit c.in_ok-bytes.ensures.fits in
    let zeros = appended_zeros mid.end c.in-Some.end bytes z y room.zeros within at_mid over in
    let long : length y ≡ mid.ahead =
    overwritten_length mid.end bytes z y (omega (arith, held, at_mid, room.ahead)) over ∙ room.ahead in
    record {
      ahead = ahead_from g.M.Media.seen g.M.Media.may_leave _ (batches ++ batch ∷ []) front fit held long zeros
          c.in_default-write_synced.ensures.durable;
      batches = are_from (batches ++ batch ∷ []) c.in-Some.end y front fit zeros;
    }

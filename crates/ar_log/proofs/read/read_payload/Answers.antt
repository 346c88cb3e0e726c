use Rattle.std.proofs.Common.{rules, arith, ◌≡◌, ◌+◌, ◌<◌, ◌^◌, ℕ, List, take, drop, sym, ◌∙◌, ap, subst}
use Rattle.std.proofs.lemmas.List.{drop-drop}
use Rattle.ar_log.specs.Codec.{batch_digest, encoded, items_of}
use Rattle.ar_log.specs.Log.{BeginsWith}
use Rattle.ar_log.proofs.Ahead.{other_digest, no_records, assembled}
use Rattle.ar_log.proofs.read.read_payload.Goals as goal

pub returns-then-batch_digest-digest-clause-damaged : goal.returns-then-batch_digest-digest-clause-damaged
returns-then-batch_digest-digest-clause-damaged g c _ clean head =
    let file = g.M.Media.seen c.args.media.now in
    let payload = c.in_ok-payload.payload.items in
    let is : payload ≡ take c.args.len (drop 18 (drop c.args.place.at file)) =
    c.in_ok-payload.ensures.bytes clean
    ∙ ap (λ (l : List ℕ). take c.args.len l) (sym (drop-drop 18 c.args.place.at file)) in
    let fits : c.args.len < 2 ^ 64 = search rules in
    let small : c.args.digest < 2 ^ 64 = search rules in
    let tested : c.batch_digest.result ≡ batch_digest c.args.place.number payload =
    c.batch_digest.ensures ∙ ap (λ (l : List ℕ). batch_digest c.args.place.number l) c.as_slice-bytes.ensures.value in
    let computed : c.batch_digest.result < 2 ^ 64 = search rules in
    other_digest c.args.place.number c.args.len c.args.digest (drop c.args.place.at file) payload head fits is small
    c.batch_digest.result tested computed c.if-batch_digest-digest.true

pub returns-in-Err-clause-damaged : goal.returns-in-Err-clause-damaged
returns-in-Err-clause-damaged g c damage clean head =
    let file = g.M.Media.seen c.args.media.now in
    let payload = c.in_ok-payload.payload.items in
    let is : payload ≡ take c.args.len (drop 18 (drop c.args.place.at file)) =
    c.in_ok-payload.ensures.bytes clean
    ∙ ap (λ (l : List ℕ). take c.args.len l) (sym (drop-drop 18 c.args.place.at file)) in
    let fits : c.args.len < 2 ^ 64 = search rules in
    no_records c.args.place.number c.args.len c.args.digest (drop c.args.place.at file) payload head fits is
    (λ records e. c.in-Err.ensures.damaged damage records (e ∙ sym c.as_slice-bytes.ensures.value))

pub returns-clause-batch : goal.returns-clause-batch
returns-clause-batch g c clean head =
    let file = g.M.Media.seen c.args.media.now in
    let at = c.args.place.at in
    let len = c.args.len in
    let payload = c.in_ok-payload.payload.items in
    let batch = items_of c.in-Ok.records.items in
    let is : payload ≡ take len (drop 18 (drop at file)) =
    c.in_ok-payload.ensures.bytes clean ∙ ap (λ (l : List ℕ). take len l) (sym (drop-drop 18 at file)) in
    let fits : len < 2 ^ 64 = search rules in
    let tested : c.args.digest ≡ batch_digest c.args.place.number payload =
    sym c.if-batch_digest-digest.false ∙ c.batch_digest.ensures
    ∙ ap (λ (l : List ℕ). batch_digest c.args.place.number l) c.as_slice-bytes.ensures.value in
    let coded : encoded batch ≡ payload = c.in-Ok.ensures.whole ∙ c.as_slice-bytes.ensures.value in
    let ends : at + (18 + len) ≡ at + 18 + len = omega arith in
    let P : List ℕ → Type 0 = λ r. BeginsWith c.args.place.number batch (drop at file) r in
    subst P (drop-drop (18 + len) at file ∙ ap (λ (n : ℕ). drop n file) ends)
    (assembled c.args.place.number batch (drop at file) payload len c.args.digest head c.in_ok-payload.ensures.len fits
    is tested coded)

use Rattle.std.proofs.Common.{rules, arith, ◌≡◌, ◌+◌, ◌<◌, ◌^◌, ℕ, List, take, drop, sym, ◌∙◌, ap, length-drop}
use Rattle.ar_log.specs.Codec.{number_of, number_bytes}
use Rattle.ar_log.proofs.Encoding.{number_back}
use Rattle.ar_log.proofs.Ahead.{too_short_for_gate, too_short, too_long, opens_if, head_len, head_digest}
use Rattle.ar_log.proofs.read.read_head.Goals as goal

pub returns-then-place-lt2-clause-damaged : goal.returns-then-place-lt2-clause-damaged
returns-then-place-lt2-clause-damaged g c _ clean size =
    let file = g.M.Media.seen c.args.media.now in
    too_short_for_gate c.args.place.number (drop c.args.place.at file)
    (omega (arith, c.if-place-lt2.true, size, length-drop c.args.place.at file))

pub returns-then-place-lt18-clause-damaged : goal.returns-then-place-lt18-clause-damaged
returns-then-place-lt18-clause-damaged g c _ clean size =
    let file = g.M.Media.seen c.args.media.now in
    let bytes = drop c.args.place.at file in
    let opens = opens_if c.in_ok-gate.gate.items bytes (c.in_ok-gate.ensures.bytes clean) c.in_ok-gate.ensures.len
    (λ e. c.is_shut-shut.ensures.open c.if-shut.false (c.as_slice-front.ensures.value ∙ e)) in
    too_short c.args.place.number bytes opens
    (omega (arith, c.if-place-lt18.true, size, length-drop c.args.place.at file))

pub returns-then-len-place-clause-damaged : goal.returns-then-len-place-clause-damaged
returns-then-len-place-clause-damaged g c _ clean size =
    let file = g.M.Media.seen c.args.media.now in
    let bytes = drop c.args.place.at file in
    let opens =
    opens_if c.in_ok-gate.gate.items bytes (c.in_ok-gate.ensures.bytes (c.fetch-2.ensures.reads.clean clean))
    c.in_ok-gate.ensures.len
    (λ e. c.is_shut-shut.ensures.open c.if-shut.false (c.as_slice-front.ensures.value ∙ e)) in
    let head : c.in_ok-head.head.items ≡ take 16 (drop (c.args.place.at + 2) file) =
    c.in_ok-head.ensures.bytes clean
    ∙ ap (λ (l : List ℕ). take 16 (drop (c.args.place.at + 2) l)) c.fetch.ensures.reads.same in
    let len : number_bytes c.number_at-len.result ≡ take 8 (drop 2 bytes) =
    c.number_at-len.ensures ∙ ap (λ (l : List ℕ). take 8 (drop 0 l)) c.as_slice-bytes.ensures.value
    ∙ head_len file c.in_ok-head.head.items c.args.place.at head in
    let fits : c.number_at-len.result < 2 ^ 64 = search rules in
    too_long c.args.place.number c.number_at-len.result bytes opens
    (ap number_of (sym len) ∙ number_back c.number_at-len.result fits)
    (omega (arith, c.if-len-place.true, c.if-place-lt18.false, size, length-drop c.args.place.at file))

pub returns-clause-head : goal.returns-clause-head
returns-clause-head g c clean =
    let file = g.M.Media.seen c.args.media.now in
    let bytes = drop c.args.place.at file in
    let head : c.in_ok-head.head.items ≡ take 16 (drop (c.args.place.at + 2) file) =
    c.in_ok-head.ensures.bytes clean
    ∙ ap (λ (l : List ℕ). take 16 (drop (c.args.place.at + 2) l)) c.fetch.ensures.reads.same in
    record {
      opens = opens_if c.in_ok-gate.gate.items bytes (c.in_ok-gate.ensures.bytes (c.fetch-2.ensures.reads.clean clean))
          c.in_ok-gate.ensures.len
          (λ e. c.is_shut-shut.ensures.open c.if-shut.false (c.as_slice-front.ensures.value ∙ e));
      len_is = c.number_at-len.ensures ∙ ap (λ (l : List ℕ). take 8 (drop 0 l)) c.as_slice-bytes.ensures.value
          ∙ head_len file c.in_ok-head.head.items c.args.place.at head;
      digest_is = c.number_at-digest.ensures ∙ ap (λ (l : List ℕ). take 8 (drop 8 l)) c.as_slice-bytes.ensures.value
          ∙ head_digest file c.in_ok-head.head.items c.args.place.at head;
    }

use Rattle.std.proofs.Common.{rules, arith, ◌≡◌, ◌++◌, [], ◌∷◌, ℕ, ◌+◌, List, length, inl, sym, ◌∙◌, ap, subst}
use Rattle.std.proofs.Common.{length-append}
use Rattle.ar_media.proofs.Moments.{started}
use Rattle.ar_log.specs.Codec.{Batch, encoded, sealed, items_of}
use Rattle.ar_log.specs.Log.{HoldsBatches, batches_len, IsBeforeOrAfter, batches_of}
use Rattle.ar_log.proofs.Standing.{batches_of_stands}
use Rattle.ar_log.proofs.Appending.{long_enough, staged, opened, left_behind, left_gate, batches_len-push, tears_on}
use Rattle.ar_log.proofs.log.Log.append.Goals as goal

pub returns-in_default-clause-any_moment : goal.returns-in_default-clause-any_moment
returns-in_default-clause-any_moment g c still clean =
    let settled = c.requires still clean in
    started g.M.Media.moment g.M.Media.left_since c.args.self.now.media
    (IsBeforeOrAfter (batches_of (g.M.Media.seen c.args.self.now.media)) (items_of c.args.records.now))
    (λ f left. inl (settled.durable f (g.met.M.Media.only_now c.args.self.now.media f left)))

pub returns-in-Err-clause-any_moment : goal.returns-in-Err-clause-any_moment
returns-in-Err-clause-any_moment g c still clean =
    let settled = c.requires still clean in
    let P : List ℕ → Type 0 =
    IsBeforeOrAfter (batches_of (g.M.Media.seen c.args.self.now.media)) (items_of c.args.records.now) in
    let at_start = started g.M.Media.moment g.M.Media.left_since c.args.self.now.media P
    (λ f left. inl (settled.durable f (g.met.M.Media.only_now c.args.self.now.media f left))) in
    tears_on g.M.Media.moment g.M.Media.left_since g.M.Media.may_leave _ _ c.args.self.now.media c.args.self.now.media
    c.write_synced.new.media P at_start c.write_synced.ensures.tears
    (λ f torn. inl
    (left_behind (batches_of (g.M.Media.seen c.args.self.now.media)) c.args.self.now.end settled.end _
    (g.M.Media.may_leave c.args.self.now.media) settled.durable f torn))

pub returns-in-Err-clause-kept : goal.returns-in-Err-clause-kept
returns-in-Err-clause-kept g c not_final still clean =
    let settled = c.requires still clean in
    let batches = batches_of (g.M.Media.seen c.args.self.now.media) in
    let after : (f : List ℕ) → g.M.Media.may_leave c.write_synced.new.media f → HoldsBatches batches f = λ f left.
    left_behind batches c.args.self.now.end settled.end _ (g.M.Media.may_leave c.args.self.now.media) settled.durable f
    (c.write_synced.ensures.tears.now f left) in
    let file = after (g.M.Media.seen c.write_synced.new.media) (g.met.M.Media.seen_may_stay c.write_synced.new.media) in
    let same : batches_of (g.M.Media.seen c.write_synced.new.media) ≡ batches =
    batches_of_stands batches (g.M.Media.seen c.write_synced.new.media) file in
    record {
      settled = record {
        file = let P : List Batch → Type 0 =
            λ b. HoldsBatches b (g.M.Media.seen c.write_synced.new.media) in subst P (sym same) file;
        durable = λ f left. let P : List Batch → Type 0 = λ b. HoldsBatches b f in subst P (sym same) (after f left);
        end = settled.end ∙ ap (λ b. 8 + batches_len b) (sym same);
        number = settled.number ∙ ap length (sym same);
      };
      batches = same;
    }

pub returns-in-Err-write_synced-clause-any_moment : goal.returns-in-Err-write_synced-clause-any_moment
returns-in-Err-write_synced-clause-any_moment g c still clean =
    let settled = c.requires still clean in
    let batches = batches_of (g.M.Media.seen c.args.self.now.media) in
    let batch = items_of c.args.records.now in
    let is = c.deref.ensures.value ∙ c.in_ok-bytes.ensures.bytes
    ∙ ap (λ (n : ℕ). sealed n (encoded batch) ++ 0 ∷ 0 ∷ []) settled.number in
    let at_gate =
    staged batches c.args.self.now.end settled.end batch c.deref.result.now (g.M.Media.seen c.args.self.now.media)
    (g.M.Media.seen c.write_synced.new.media) settled.file is
    (c.in_default-write_synced.ensures.written
    (long_enough batches c.args.self.now.end settled.end (g.M.Media.seen c.args.self.now.media) settled.file)) in
    let P : List ℕ → Type 0 = IsBeforeOrAfter batches batch in
    let at_start = started g.M.Media.moment g.M.Media.left_since c.args.self.now.media P
    (λ f left. inl (settled.durable f (g.met.M.Media.only_now c.args.self.now.media f left))) in
    let behind =
    tears_on g.M.Media.moment g.M.Media.left_since g.M.Media.may_leave _ _ c.args.self.now.media
    c.args.self.now.media c.write_synced.new.media P at_start c.write_synced.ensures.tears
    (λ f torn. inl
    (left_behind batches c.args.self.now.end settled.end _
    (g.M.Media.may_leave c.args.self.now.media) settled.durable f torn)) in
    tears_on g.M.Media.moment g.M.Media.left_since g.M.Media.may_leave _ _ c.args.self.now.media
    c.write_synced.new.media c.write_synced-2.new.media P behind c.write_synced-2.ensures.tears
    (left_gate batches c.args.self.now.end settled.end batch (g.M.Media.seen c.write_synced.new.media)
    (g.M.Media.may_leave c.write_synced.new.media) c.in_default-write_synced.ensures.durable at_gate
    c.in_ok-bytes.ensures.fits)

pub returns-clause-any_moment : goal.returns-clause-any_moment
returns-clause-any_moment g c still clean =
    let settled = c.requires still clean in
    let batches = batches_of (g.M.Media.seen c.args.self.now.media) in
    let batch = items_of c.args.records.now in
    let is = c.deref.ensures.value ∙ c.in_ok-bytes.ensures.bytes
    ∙ ap (λ (n : ℕ). sealed n (encoded batch) ++ 0 ∷ 0 ∷ []) settled.number in
    let at_gate =
    staged batches c.args.self.now.end settled.end batch c.deref.result.now (g.M.Media.seen c.args.self.now.media)
    (g.M.Media.seen c.write_synced.new.media) settled.file is
    (c.in_default-write_synced.ensures.written
    (long_enough batches c.args.self.now.end settled.end (g.M.Media.seen c.args.self.now.media) settled.file)) in
    let P : List ℕ → Type 0 = IsBeforeOrAfter batches batch in
    let at_start = started g.M.Media.moment g.M.Media.left_since c.args.self.now.media P
    (λ f left. inl (settled.durable f (g.met.M.Media.only_now c.args.self.now.media f left))) in
    let behind =
    tears_on g.M.Media.moment g.M.Media.left_since g.M.Media.may_leave _ _ c.args.self.now.media
    c.args.self.now.media c.write_synced.new.media P at_start c.write_synced.ensures.tears
    (λ f torn. inl
    (left_behind batches c.args.self.now.end settled.end _
    (g.M.Media.may_leave c.args.self.now.media) settled.durable f torn)) in
    tears_on g.M.Media.moment g.M.Media.left_since g.M.Media.may_leave _ _ c.args.self.now.media
    c.write_synced.new.media c.write_synced-2.new.media P behind c.write_synced-2.ensures.tears
    (left_gate batches c.args.self.now.end settled.end batch (g.M.Media.seen c.write_synced.new.media)
    (g.M.Media.may_leave c.write_synced.new.media) c.in_default-write_synced.ensures.durable at_gate
    c.in_ok-bytes.ensures.fits)

pub returns-clause-acknowledged : goal.returns-clause-acknowledged
returns-clause-acknowledged g c clean =
    let settled = c.requires c.if-self.false clean in
    let batches = batches_of (g.M.Media.seen c.args.self.now.media) in
    let batch = items_of c.args.records.now in
    let is = c.deref.ensures.value ∙ c.in_ok-bytes.ensures.bytes
    ∙ ap (λ (n : ℕ). sealed n (encoded batch) ++ 0 ∷ 0 ∷ []) settled.number in
    let at_gate =
    staged batches c.args.self.now.end settled.end batch c.deref.result.now (g.M.Media.seen c.args.self.now.media)
    (g.M.Media.seen c.write_synced.new.media) settled.file is
    (c.in_default-write_synced.ensures.written
    (long_enough batches c.args.self.now.end settled.end (g.M.Media.seen c.args.self.now.media) settled.file)) in
    let over = c.in_default-write_synced-2.ensures.written
    (omega (
      arith,
      long_enough batches c.args.self.now.end settled.end
          (g.M.Media.seen c.write_synced.new.media) at_gate.stands,
    )) in
    let file =
    opened batches c.args.self.now.end settled.end batch (g.M.Media.seen c.write_synced.new.media)
    (g.M.Media.seen c.write_synced-2.new.media) at_gate c.in_ok-bytes.ensures.fits over in
    let same : batches_of (g.M.Media.seen c.write_synced-2.new.media) ≡ batches ++ batch ∷ [] =
    batches_of_stands (batches ++ batch ∷ []) (g.M.Media.seen c.write_synced-2.new.media) file in
    let P : List Batch → Type 0 = λ b. HoldsBatches b (g.M.Media.seen c.write_synced-2.new.media) in
    let stands = subst P (sym same) file in
    let Q : List ℕ → Type 0 = λ f. HoldsBatches (batches_of (g.M.Media.seen c.write_synced-2.new.media)) f in
    let ends : c.in-Some.end ≡ c.args.self.now.end + c.len.result = search rules in
    let counts : c.in-Some.number ≡ c.args.self.now.number + 1 = search rules in
    let size = c.len.ensures ∙ c.in_ok-bytes.ensures.len in
    record {
      settled = record {
        file = stands;
        durable = λ f left. subst Q (sym (c.in_default-write_synced-2.ensures.durable f left)) stands;
        end = omega (arith, ends, size, settled.end, batches_len-push batches batch, ap batches_len same);
        number = omega
            (arith, counts, settled.number, length-append batches (batch ∷ []), ap (λ (b : List Batch). length b) same);
      };
      batches = same;
    }

use Rattle.std.proofs.Common.{rules, arith, ◌≡◌, ◌∙◌, ℕ, List, [], ◌∷◌, ◌++◌, Vec, drop, ap, sym}
use Rattle.std.proofs.Common.{subst}
use Rattle.std.specs.declared.alloc.Global.{Global}
use Rattle.ar_log.specs.Zeroed.{AllFit, zeroed_front}
use Rattle.ar_log.specs.Reading.{all_items}
use Rattle.ar_log.proofs.Found.{no_holds, read_to, reads_one, fits_one}
use Rattle.ar_log.proofs.zeroed_read.read_zeroed.Goals as goal

pub returns-in-Err-clause-damaged : goal.returns-in-Err-clause-damaged
returns-in-Err-clause-damaged c damage batches holds =
    no_holds (all_items c.reading.batches.items) batches c.reading.rest.now c.args.file.now c.reading.invariant.so_far
    c.reading.invariant.fit (c.in-Err.ensures.damaged damage) holds

pub returns-in-Ok-None-clause-whole : goal.returns-in-Ok-None-clause-whole
returns-in-Ok-None-clause-whole c =
    let got = rw c.in-Ok-None.field-0-is at c.in-Ok-None.ensures in
    read_to c.reading.batches.items c.reading.rest.now c.args.file.now _ c.reading.invariant.so_far
    c.reading.invariant.fit got.none (omega arith)

pub reading-preserved : goal.reading-preserved
reading-preserved c =
    let got = rw c.in-Ok-Some.field-0-is at c.in-Ok-Some.ensures in
    let v = c.in-Ok-Some.one.records in
    let len = c.in-Ok-Some.one.len in
    let pushed = c.in_ok-push-in-Ok-Some.ensures.items in
    let behind : c.split_at-in-Ok-Some.result.1.now ≡ drop len c.reading.rest.now = search rules in
    record {
      so_far = ap
          (λ (b : List (Vec (Vec ℕ Global) Global)). zeroed_front (all_items b) ++ c.split_at-in-Ok-Some.result.1.now)
          pushed
          ∙ ap (λ (l : List ℕ). zeroed_front (all_items (c.reading.batches.items ++ v ∷ [])) ++ l) behind
          ∙ reads_one c.reading.batches.items v len c.reading.rest.now c.args.file.now c.reading.invariant.so_far
          got.some;
      fit = subst (λ (b : List (Vec (Vec ℕ Global) Global)). AllFit (all_items b)) (sym pushed)
          (fits_one c.reading.batches.items v c.reading.invariant.fit got.fits);
    }

use Rattle.std.proofs.Common.{ℕ, [], ◌+◌, ◌∙◌, ap, sym, refl, inl, inr, arith}
use Rattle.ar_frames.proofs.Streams.{Reading-unmoved}
use Rattle.ar_frames.proofs.Replying.{judged, held_up, cut_after}
use Rattle.ar_frames.proofs.client.read_body.Goals as goal

pub returns-in-Kept : goal.returns-in-Kept
returns-in-Kept g c = λ count count_len count_is.
    let is = count_is ∙ ap (λ (n : ℕ). 10 + n) (sym c.in-Kept.ensures.0) in
    judged _ _ c.args.tag count c.args.head.now c.in-Kept.body c.judge.result count_len c.told-head is
    (omega (arith, c.requires, c.in-Kept.ensures.0)) (c.judge.ensures count count_len is) c.in-Kept.ensures.1

pub returns-in-Refused : goal.returns-in-Refused
returns-in-Refused g c = λ count count_len count_is. record {
  bytes = [];
  are = held_up count c.args.head.now [] c.args.len count_len c.told-head count_is c.requires c.in-Refused.ensures.0
      (inl refl);
  read = Reading-unmoved _ _ c.in-Refused.ensures.1;
}

pub returns-in-Lost : goal.returns-in-Lost
returns-in-Lost g c = λ count count_len count_is.
    let came = c.in-Lost.ensures.1 in
    record {
      bytes = came.bytes;
      are = held_up count c.args.head.now came.bytes c.args.len count_len c.told-head count_is c.requires
          c.in-Lost.ensures.0 (inr came.len);
      read = came.read;
    }

pub returns-in-Ended : goal.returns-in-Ended
returns-in-Ended g c = λ count count_len count_is.
    let part = c.in-Ended.ensures.0 in (
      record {
        bytes = part.bytes;
        are = cut_after 10 33553930 c.args.len count c.args.head.now part.bytes count_len count_is
            (omega (arith, c.requires)) (omega (arith, part.short, c.told-head));
        read = part.read;
      },
      c.in-Ended.ensures.1,
    )

pub returns-in-Failed : goal.returns-in-Failed
returns-in-Failed g c = λ count count_len count_is.
    let part = c.in-Failed.ensures in
    record {
      bytes = part.bytes;
      are = cut_after 10 33553930 c.args.len count c.args.head.now part.bytes count_len count_is
          (omega (arith, c.requires)) (omega (arith, part.short, c.told-head));
      read = part.read;
    }

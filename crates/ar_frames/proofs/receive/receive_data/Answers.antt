use Rattle.std.proofs.Common.{ℕ, ◌+◌, ◌∙◌, ◌++◌, ap, length-append, sym, refl, arith}
use Rattle.ar_frames.specs.declared.frame.Request.{Request}
use Rattle.ar_frames.proofs.Frames.{frame_read}
use Rattle.ar_frames.proofs.Replying.{cut_after}
use Rattle.ar_frames.proofs.Receiving.{stops_cut, stops_read}
use Rattle.ar_frames.proofs.receive.receive_data.Goals as goal

pub returns-in-Kept : goal.returns-in-Kept
returns-in-Kept g c = λ count count_len count_is.
    let head = c.head_of-tag in
    let is = count_is ∙ ap (λ (n : ℕ). 25 + n) (sym c.in-Kept.ensures.0) in
    record {
      body = c.in-Kept.payload;
      is_frame = frame_read
          (record { tag = head.result.tag; lun = head.result.lun; cdb = head.result.cdb; payload = c.in-Kept.payload })
          count c.args.head.now
          count_len is c.told-head (omega (arith, c.requires, c.in-Kept.ensures.0)) head.ensures.tag head.ensures.lun
          head.ensures.cdb;
      read = c.in-Kept.ensures.1;
    }

pub returns-in-Lost : goal.returns-in-Lost
returns-in-Lost g c = λ count count_len count_is.
    let head = c.head_of-tag in
    let came = c.in-Lost.ensures.1 in
    let is = count_is ∙ ap (λ (n : ℕ). 25 + n) (sym came.len) in
    let request : Request =
    record { tag = head.result.tag; lun = head.result.lun; cdb = head.result.cdb; payload = came.bytes } in
    record {
      request = request;
      tag_is = refl;
      cdb_is = refl;
      some = omega (arith, c.in-Lost.ensures.0, came.len);
      reads = record {
        body = came.bytes;
        is_frame = frame_read request count c.args.head.now count_len is c.told-head
            (omega (arith, c.requires, came.len)) head.ensures.tag head.ensures.lun head.ensures.cdb;
        read = came.read;
      };
    }

pub returns-in-Ended : goal.returns-in-Ended
returns-in-Ended g c = λ count count_len count_is.
    let part = c.in-Ended.ensures.0 in
    stops_cut _ _ (count ++ c.args.head.now) part.bytes
    (cut_after 25 33553945 c.args.len count c.args.head.now part.bytes count_len count_is (omega (arith, c.requires))
    (omega (arith, part.short, c.told-head)))
    (omega (arith, length-append (count ++ c.args.head.now) part.bytes, length-append count c.args.head.now, count_len))
    part.read c.in-Ended.ensures.1

pub returns-in-Failed : goal.returns-in-Failed
returns-in-Failed g c = λ count count_len count_is.
    let part = c.in-Failed.ensures in
    stops_read _ _ (count ++ c.args.head.now) part.bytes
    (cut_after 25 33553945 c.args.len count c.args.head.now part.bytes count_len count_is (omega (arith, c.requires))
    (omega (arith, part.short, c.told-head)))
    part.read

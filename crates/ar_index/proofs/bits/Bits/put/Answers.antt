use Rattle.std.proofs.Common.{◌<◌, ◌≤◌, ◌/◌, length, ap, arith}
use Rattle.ar_index.proofs.Sets.{put_topped, put_root}
use Rattle.ar_index.proofs.bits.Bits.put.Goals as goal

pub put_in-in_top-requires : goal.put_in-in_top-requires
put_in-in_top-requires c =
    omega (arith, c.requires, ap length c.self.view_is, c.self.invariant.of_words.covered)

pub put_in-in_peak-requires : goal.put_in-in_peak-requires
put_in-in_peak-requires c =
    omega (
      arith,
      c.requires,
      ap length c.self.view_is,
      c.self.invariant.of_words.covered,
      c.self.invariant.of_tops.covered,
    )

pub invariant_of-self : goal.invariant_of-self
invariant_of-self c =
    let room : length c.self.inside.peaks.items ≤ 64 = c.self.invariant.of_peaks.covered in
    let few : c.args.number / 64 / 64 / 64 < 64 =
    omega (
      arith,
      c.requires,
      ap length c.self.view_is,
      c.self.invariant.of_words.covered,
      c.self.invariant.of_tops.covered,
    ) in
    record {
      of_words =
          put_topped _ _ _ _ _ _ c.self.invariant.of_words c.put_in-in_word.ensures.put.size
          c.put_in-in_word.ensures.others c.put_in-in_word.ensures.some c.put_in-in_word.ensures.none
          c.put_in-in_top.ensures.put;
      of_tops =
          put_topped _ _ _ _ _ _ c.self.invariant.of_tops c.put_in-in_top.ensures.put.size
          c.put_in-in_top.ensures.others c.put_in-in_top.ensures.some c.put_in-in_top.ensures.none
          c.put_in-in_peak.ensures.put;
      of_peaks =
          put_topped _ _ _ _ _ _ c.self.invariant.of_peaks c.put_in-in_peak.ensures.put.size
          c.put_in-in_peak.ensures.others c.put_in-in_peak.ensures.some c.put_in-in_peak.ensures.none
          (put_root c.self.inside.root (c.args.number / 64 / 64 / 64) c.with_bit-self-inside.result
          c.put_in-in_peak.result few c.with_bit-self-inside.ensures.here c.with_bit-self-inside.ensures.others);
    }

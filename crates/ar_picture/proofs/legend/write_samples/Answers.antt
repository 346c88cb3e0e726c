use Rattle.std.proofs.Common.{codes}
use Rattle.ar_picture.specs.Drawings.{sample_svg}
use Rattle.ar_picture.proofs.DrawingLemmas.{Adds, adds_last, adds_then}
use Rattle.ar_picture.proofs.legend.write_samples.Goals as goal

pub returns : goal.returns
returns g c =
    let old = g.W.Write.contents c.args.out.now in
    let mirrored = g.W.Write.contents c.write_sample.new.out in
    let parity = g.W.Write.contents c.write_sample-2.new.out in
    let free = g.W.Write.contents c.write_sample-3.new.out in
    let loose = g.W.Write.contents c.write_sample-4.new.out in
    let new = g.W.Write.contents c.write_sample-5.new.out in
    let x = c.args.x in
    let mirrored_text : Adds old mirrored (sample_svg x 1 (codes "mirrored") (codes "in a mirrored group")) =
    record { it = c.in_ok-write_sample.ensures.text } in
    let parity_text : Adds mirrored parity (sample_svg x 2 (codes "parity") (codes "in a group with parity")) =
    record { it = c.in_ok-write_sample-2.ensures.text } in
    let free_text : Adds parity free (sample_svg x 3 (codes "free") (codes "in a free group")) =
    record { it = c.in_ok-write_sample-3.ensures.text } in
    let loose_text : Adds free loose (sample_svg x 4 (codes "loose") (codes "in no group")) =
    record { it = c.in_ok-write_sample-4.ensures.text } in
    record {
      text =
          adds_last c.write_sample-5.result new (sample_svg x 5 (codes "missing") (codes "can't be used"))
          (adds_then (adds_then (adds_then mirrored_text parity_text) free_text) loose_text)
          c.write_sample-5.ensures.text;
    }

use Rattle.std.proofs.Common.{◌≡◌, ◌∙◌, ◌+◌, ◌*◌, ◌-◌, ℕ, List, ◌++◌, length, take, drop, get_or, length-take-le}
use Rattle.std.proofs.Common.{length-drop, take_all, append_assoc, sym, ap, arith}
use Rattle.std.proofs.lemmas.Grind.{common_steps}
use Rattle.std.proofs.lemmas.Slice.{overwrites}
use Rattle.std.proofs.Math.Numerals.{suc-eq-add-one}
use Rattle.byteorder.specs.Endian.{big_bytes}
use Rattle.ar_frames.proofs.Streams.{take-filled}
use Rattle.ar_iscsi.specs.Response.{bytes_of_words, header_of}
use Rattle.ar_iscsi.proofs.Words.{words_more}
use borrow.Rule.Slice.PartMut.{put_mid, post_of}
use Rattle.ar_iscsi.proofs.response.header_of.Goals as goal

pub loop-i-preserved : goal.loop-i-preserved
loop-i-preserved c =
    let i = c.loop-i.i in
    let at = 4 + 4 * i in
    let header = c.loop-i.header in
    let part = c.write_u32.new.buf in
    let words = c.args.words.now in
    let w = get_or words i 0 in
    let size : length header ≡ 48 = c.loop-i.invariant.size in
    let room : length part ≡ 48 - at =
    c.write_u32.auto.buf
    ∙ omega (arith, length-take-le (48 - at) (drop at header) (omega (arith, length-drop at header, size)), size) in
    let four : take 4 part ≡ big_bytes 4 w = ap (take 4) c.write_u32.ensures in
    let filled = take-filled at 4 (48 - at) header part (omega (arith, size)) (omega (arith, room)) in
    let next : at + 4 ≡ 4 + 4 * (i + 1) = omega arith in
    record {
      size = grind (arith, common_steps, overwrites, post_of);
      front = ap (λ (n : ℕ). take n (put_mid at (48 - at) header part)) (sym next) ∙ sym filled
          ∙ ap (λ (l : List ℕ). take at header ++ l) four
          ∙ ap (λ (l : List ℕ). l ++ big_bytes 4 w) c.loop-i.invariant.front
          ∙ append_assoc c.args.first (bytes_of_words (take i words)) (big_bytes 4 w)
          ∙ ap (λ (l : List ℕ). c.args.first ++ l) (sym (words_more words i (omega (arith, c.told-words))))
          ∙ ap (λ (n : ℕ). c.args.first ++ bytes_of_words (take n words)) (suc-eq-add-one i);
    }

pub returns : goal.returns
unfolding header_of
returns c =
    let i = c.loop-i.i in
    let all : i ≡ 11 = omega arith in
    let header = c.loop-i.header in
    sym (take_all (4 + 4 * i) header (omega (arith, c.loop-i.invariant.size)))
    ∙ c.loop-i.invariant.front
    ∙ ap (λ (l : List ℕ). c.args.first ++ bytes_of_words l) (take_all i c.args.words.now (omega (arith, c.told-words)))

use Rattle.std.proofs.Common.{rules, ◌≡◌, ◌-◌, ◌^◌, true, false, nat_lt, [], ◌++◌, OnOk, codes}
use Rattle.std.proofs.lemmas.Result.{on_ok_weaker}
use Rattle.std.specs.Fmt.{decimal, format_spec, padded_integral}
use Rattle.std.specs.Io.KnownBytes.{Appends}
use Rattle.ar_picture.specs.Maps.{extents_text}
use Rattle.ar_picture.proofs.Appending.{appends_as}
use Rattle.ar_picture.proofs.MapLemmas.{many_extents, one_extent}
use Rattle.ar_picture.proofs.text.write_extents.Goals as goal

pub returns-then-first-last : goal.returns-then-first-last
returns-then-first-last g c =
    let old = g.W.Write.contents c.args.out.now in
    let new = g.W.Write.contents c.write.new.self in
    let first = c.args.first in
    let last = c.args.last in
    let below : nat_lt first last ≡ true = search rules in
    let text = padded_integral (format_spec 32 3 0 4 (2 ^ 64 - 1)) false [] (decimal first)
    ++ (codes ".." ++ padded_integral (format_spec 32 1 0 4 (2 ^ 64 - 1)) false [] (decimal last)) in
    let said : OnOk c.write.result (Appends old new text) = search rules in
    record {
      text = on_ok_weaker {P = Appends old new text} {Q = Appends old new (extents_text first last)} c.write.result
          (appends_as old new text (extents_text first last) (many_extents first last below)) said;
    }

pub returns-else-first-last : goal.returns-else-first-last
returns-else-first-last g c =
    let old = g.W.Write.contents c.args.out.now in
    let new = g.W.Write.contents c.write-else-first-last.new.self in
    let first = c.args.first in
    let last = c.args.last in
    let equal : nat_lt first last ≡ false = search rules in
    let text = padded_integral (format_spec 32 3 0 4 (2 ^ 64 - 1)) false [] (decimal first) ++ codes "      " in
    let said : OnOk c.write-else-first-last.result (Appends old new text) = search rules in
    record {
      text = on_ok_weaker {P = Appends old new text} {Q =
          Appends old new (extents_text first last)} c.write-else-first-last.result
          (appends_as old new text (extents_text first last) (one_extent first last equal)) said;
    }

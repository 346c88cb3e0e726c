use Rattle.std.proofs.Common.{rules, ◌≡◌, ◌+◌, ◌*◌, ◌∷◌, [], ◌++◌, OnOk, codes, refl, subst}
use Rattle.std.specs.Io.KnownBytes.{Appends}
use Rattle.ar_picture.specs.Maps.{below_text, spaces}
use Rattle.ar_picture.proofs.Appending.{appends_as, appends_then, ends_with}
use Rattle.ar_picture.proofs.MapLemmas.{spaces-more}
use Rattle.ar_picture.proofs.text.write_below.Goals as goal

pub loop-preserved : goal.loop-preserved
loop-preserved g c =
    let old = g.W.Write.contents c.args.out.now in
    let before = g.W.Write.contents c.loop.out in
    let new = g.W.Write.contents c.write-in-loop.new.self in
    let count = c.loop.counter in
    let five : Appends before new (codes "     ") = search rules in
    appends_as old new (spaces (10 + 5 * count) ++ codes "     ") (spaces (10 + 5 * (count + 1))) (spaces-more count)
    (appends_then old before new (spaces (10 + 5 * count)) (codes "     ") c.loop.invariant five)

pub returns : goal.returns
returns g c =
    let old = g.W.Write.contents c.args.out.now in
    let before = g.W.Write.contents c.loop.out in
    let new = g.W.Write.contents c.writeln.new.self in
    let disk = c.args.disk in
    let word = c.args.word.now in
    let all : c.loop.counter ≡ disk = search rules in
    let drawn = subst (λ n. Appends old before (spaces (10 + 5 * n))) all c.loop.invariant in
    let ended : OnOk c.writeln.result (Appends before new (word ++ 10 ∷ [])) = search rules in
    record {
      text =
          ends_with c.writeln.result old before new (spaces (10 + 5 * disk)) (word ++ 10 ∷ [])
          (below_text disk word) refl drawn ended;
    }

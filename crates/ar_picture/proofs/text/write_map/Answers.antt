use Rattle.std.proofs.Common.{arith, ◌∙◌, [], ◌++◌, append_assoc, append-nil, codes, subst, sym, take}
use Rattle.std.proofs.lemmas.List.{take_all}
use Rattle.std.specs.Io.KnownBytes.{Appends}
use Rattle.std.specs.List.{flat_map}
use Rattle.ar_picture.specs.Maps.{disks_text, fold_text, heads_text, signs_text, unit_text}
use Rattle.ar_picture.proofs.Appending.{appends_as, appends_then}
use Rattle.ar_picture.proofs.MapLemmas.{front_some, heads_some}
use Rattle.ar_picture.proofs.text.write_map.Goals as goal

pub loop-unit-init : goal.loop-unit-init
loop-unit-init g c =
    let old = g.W.Write.contents c.args.out.now in
    let far = g.W.Write.contents c.loop-fold.out in
    let mid = g.W.Write.contents c.writeln.new.self in
    let signed = g.W.Write.contents c.writeln-2.new.self in
    let new = g.W.Write.contents c.write_health.new.out in
    let picture = c.args.picture.now in
    let folds = c.args.folds.now in
    let heads = heads_text picture in
    let lines = flat_map (fold_text picture) folds in
    let disks = disks_text picture.extents picture.health in
    let over = c.loop-fold-test.false in
    let all = take_all c.loop-fold.fold-index folds (omega arith) in
    let drawn = subst (λ fs. Appends old far (heads ++ flat_map (fold_text picture) fs)) all c.loop-fold.invariant in
    let letters : Appends far mid (codes "M mirrored, P with parity; 0 to 9: how full, in ninths of its slots\n") =
    c.in_ok-writeln.ensures.bytes in
    let marks : Appends mid signed (codes "-- in a free group, .. in no group, ! can't be used\n") =
    c.in_ok-writeln-2.ensures.bytes in
    let signs : Appends far signed signs_text =
    appends_then far mid signed (codes "M mirrored, P with parity; 0 to 9: how full, in ninths of its slots\n")
    (codes "-- in a free group, .. in no group, ! can't be used\n") letters marks in
    let ends = appends_then far signed new signs_text disks signs c.in_ok-write_health.ensures.text in
    let whole = heads ++ (lines ++ (signs_text ++ disks)) in
    appends_as old new ((heads ++ lines) ++ (signs_text ++ disks)) (whole ++ [])
    (append_assoc heads lines (signs_text ++ disks) ∙ sym (append-nil whole))
    (appends_then old far new (heads ++ lines) (signs_text ++ disks) drawn ends)

pub returns-clause-adds : goal.returns-clause-adds
returns-clause-adds g c =
    let picture = c.args.picture.now in
    let behind =
    flat_map (fold_text picture) c.args.folds.now ++ (signs_text ++ disks_text picture.extents picture.health) in
    let units = flat_map unit_text (take c.loop-unit.unit-index picture.units.items) in
    record {
      more = (heads_text picture ++ behind) ++ units;
      appends = c.loop-unit.invariant;
      some = front_some (heads_text picture ++ behind) units
          (front_some (heads_text picture) behind (heads_some picture));
    }

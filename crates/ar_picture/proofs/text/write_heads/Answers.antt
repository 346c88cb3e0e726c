use Rattle.std.proofs.Common.{rules, ◌≡◌, ◌+◌, [], ◌∷◌, ◌++◌, ◌∙◌, ap, append_assoc, append-nil, subst, sym}
use Rattle.std.specs.Fmt.{styled_decimal}
use Rattle.std.specs.Io.KnownBytes.{Appends}
use Rattle.std.specs.List.{flat_map, range_with_len}
use Rattle.ar_picture.specs.Maps.{at_right, down_text, heads_text, sizes_text, spaces}
use Rattle.ar_picture.proofs.Appending.{appends_as, appends_then, ends_with}
use Rattle.ar_picture.proofs.MapLemmas.{columns-more, right_is}
use Rattle.ar_picture.proofs.text.write_heads.Goals as goal

pub loop-disk-init : goal.loop-disk-init
loop-disk-init g c =
    let old = g.W.Write.contents c.args.out.now in
    let mid = g.W.Write.contents c.writeln.new.self in
    let new = g.W.Write.contents c.write.new.self in
    let sizes = sizes_text c.args.picture.now in
    let first : Appends old mid sizes = c.in_ok-writeln.ensures.bytes in
    let second : Appends mid new (spaces 10) = c.in_ok-write.ensures.bytes in
    appends_as old new (sizes ++ spaces 10) ((sizes ++ spaces 10) ++ []) (sym (append-nil (sizes ++ spaces 10)))
    (appends_then old mid new sizes (spaces 10) first second)

pub loop-disk-preserved : goal.loop-disk-preserved
loop-disk-preserved g c =
    let old = g.W.Write.contents c.args.out.now in
    let before = g.W.Write.contents c.loop-disk.out in
    let new = g.W.Write.contents c.write-in-loop-disk.new.self in
    let disk = c.loop-disk.disk-counter in
    let front = sizes_text c.args.picture.now ++ spaces 10 in
    let text = front ++ flat_map (at_right 5) (range_with_len 0 disk) in
    let number : Appends before new (at_right 5 disk) =
    appends_as before new (styled_decimal c.laid_out.result disk) (at_right 5 disk)
    (ap (λ s. styled_decimal s disk) c.laid_out.ensures ∙ right_is 5 disk) c.in_ok-write-2.ensures.bytes in
    appends_as old new (text ++ at_right 5 disk) (front ++ flat_map (at_right 5) (range_with_len 0 (disk + 1)))
    (columns-more (at_right 5) front disk)
    (appends_then old before new text (at_right 5 disk) c.loop-disk.invariant number)

pub returns : goal.returns
returns g c =
    let old = g.W.Write.contents c.args.out.now in
    let before = g.W.Write.contents c.loop-disk.out in
    let mid = g.W.Write.contents c.writeln-2.new.self in
    let new = g.W.Write.contents c.write_down.new.out in
    let picture = c.args.picture.now in
    let front = sizes_text picture ++ spaces 10 in
    let columns = flat_map (at_right 5) (range_with_len 0 picture.disks) in
    let down = down_text picture.health in
    let all : c.loop-disk.disk-counter ≡ picture.disks = search rules in
    let drawn =
    subst (λ n. Appends old before (front ++ flat_map (at_right 5) (range_with_len 0 n))) all c.loop-disk.invariant in
    let ended : Appends before mid (10 ∷ []) = c.in_ok-writeln-2.ensures.bytes in
    record {
      text = ends_with c.write_down.result old mid new ((front ++ columns) ++ 10 ∷ []) down (heads_text picture)
          (append_assoc (front ++ columns) (10 ∷ []) down ∙ append_assoc front columns (10 ∷ down))
          (appends_then old before mid (front ++ columns) (10 ∷ []) drawn ended) c.write_down.ensures.text;
    }

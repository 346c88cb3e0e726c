use Rattle.std.proofs.Common.{rules, ◌≡◌, ◌+◌, ◌-◌, [], ◌∷◌, ◌++◌, OnOk, ap, append_assoc, append-nil, subst, sym}
use Rattle.std.specs.Io.KnownBytes.{Appends}
use Rattle.std.specs.List.{flat_map, range_with_len}
use Rattle.ar_picture.specs.Maps.{cell_text, column_text, extents_text, fold_text}
use Rattle.ar_picture.proofs.Appending.{appends_as, appends_then, ends_with}
use Rattle.ar_picture.proofs.MapLemmas.{columns-more}
use Rattle.ar_picture.proofs.text.write_fold.Goals as goal

pub loop-disk-init : goal.loop-disk-init
loop-disk-init g c =
    let front = extents_text c.args.fold.first (c.args.fold.end - 1) in
    appends_as (g.W.Write.contents c.args.out.now) (g.W.Write.contents c.write_extents.new.out) front (front ++ [])
    (sym (append-nil front)) c.in_ok-write_extents.ensures.text

pub loop-disk-preserved : goal.loop-disk-preserved
loop-disk-preserved g c =
    let old = g.W.Write.contents c.args.out.now in
    let before = g.W.Write.contents c.loop-disk.out in
    let new = g.W.Write.contents c.write_cell.new.out in
    let fold = c.args.fold in
    let disk = c.loop-disk.disk in
    let cell = column_text c.args.picture.now fold.first in
    let front = extents_text fold.first (fold.end - 1) in
    let text = front ++ flat_map cell (range_with_len 0 disk) in
    appends_as old new (text ++ cell disk) (front ++ flat_map cell (range_with_len 0 (disk + 1)))
    (columns-more cell front disk)
    (appends_then old before new text (cell disk) c.loop-disk.invariant
    (appends_as before new (cell_text c.cell_at.result) (cell disk)
    (ap cell_text c.cell_at.ensures) c.in_ok-write_cell.ensures.text))

pub returns : goal.returns
returns g c =
    let old = g.W.Write.contents c.args.out.now in
    let before = g.W.Write.contents c.loop-disk.out in
    let new = g.W.Write.contents c.writeln.new.self in
    let picture = c.args.picture.now in
    let fold = c.args.fold in
    let front = extents_text fold.first (fold.end - 1) in
    let cells = flat_map (column_text picture fold.first) (range_with_len 0 picture.disks) in
    let all : c.loop-disk.disk ≡ picture.disks = search rules in
    let drawn =
    subst (λ n. Appends old before
    (front ++ flat_map (column_text picture fold.first) (range_with_len 0 n))) all c.loop-disk.invariant in
    let ended : OnOk c.writeln.result (Appends before new (10 ∷ [])) = search rules in
    record {
      text =
          ends_with c.writeln.result old before new (front ++ cells) (10 ∷ []) (fold_text picture fold)
          (append_assoc front cells (10 ∷ [])) drawn ended;
    }

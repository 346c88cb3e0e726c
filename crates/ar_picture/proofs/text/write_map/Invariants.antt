-- The lines of the folds before this one are written, and then those of the units.
use Rattle.std.proofs.Common.{◌++◌, take}
use Rattle.std.specs.Io.KnownBytes.{Appends}
use Rattle.std.specs.List.{flat_map}
use Rattle.ar_picture.specs.Maps.{disks_text, fold_text, heads_text, signs_text, unit_text}
use Rattle.ar_picture.proofs.text.write_map.Given as goal

abbrev pub invariant-loop-fold : goal.invariant-loop-fold
invariant-loop-fold g l = Appends (g.W.Write.contents l.fn.out) (g.W.Write.contents l.out)
    (heads_text l.picture ++ flat_map (fold_text l.picture) (take l.fold-index l.folds))

abbrev pub invariant-loop-unit : goal.invariant-loop-unit
invariant-loop-unit g l = Appends (g.W.Write.contents l.fn.out) (g.W.Write.contents l.out)
    ((heads_text l.picture ++
    (flat_map (fold_text l.picture) l.folds ++ (signs_text ++ disks_text l.picture.extents l.picture.health)))
    ++ flat_map unit_text (take l.unit-index l.picture.units.items))

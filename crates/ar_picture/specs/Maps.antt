-- The text of a map: a column for each disk, five characters wide, and a line for each fold of extents.
use Rattle.std.specs.Prelude.{ℕ, ◌+◌, ◌-◌, ◌*◌, Bool, true, false, nat_lt, if◌then◌else◌, List, [], ◌∷◌, ◌++◌, length}
use Rattle.std.specs.Prelude.{replicate, codes}
use Rattle.std.specs.Fmt.{decimal}
use Rattle.std.specs.List.{flat_map, range_with_len}
use Rattle.ar_picture.specs.declared.cell.Cell.{Cell}
use Rattle.ar_picture.specs.declared.cell.Content.{Content}
use Rattle.ar_picture.specs.declared.cell.Content.TheVariants.{Loose, Free, Mirrored, Parity}
use Rattle.ar_picture.specs.declared.folds.Fold.{Fold}
use Rattle.ar_picture.specs.declared.picture.Health.{Health}
use Rattle.ar_picture.specs.declared.picture.Health.TheVariants.{Whole, Out, Rebuilding, Broken, Lost}
use Rattle.ar_picture.specs.declared.picture.Picture.{Picture}
use Rattle.ar_picture.specs.declared.picture.Unit.{Unit as PictureUnit}
use Rattle.ar_picture.specs.Cells.{cell_of}

-- `count` spaces
abbrev pub spaces : ℕ → List ℕ
spaces count = replicate count 32

-- a number at the right of a field of `width` characters, or at its left
abbrev pub at_right : ℕ → ℕ → List ℕ
at_right width number = spaces (width - length (decimal number)) ++ decimal number

abbrev pub at_left : ℕ → ℕ → List ℕ
at_left width number = decimal number ++ spaces (width - length (decimal number))

-- the use of an extent: a digit of fullness and a letter, or two signs
abbrev pub content_text : Content → List ℕ
content_text Loose = codes ".."
content_text Free = codes "--"
content_text (Mirrored full) = decimal full ++ codes "M"
content_text (Parity full) = decimal full ++ codes "P"

-- the mark of an extent that is missing
abbrev pub missing_mark : Bool → List ℕ
missing_mark true = codes "!"
missing_mark false = codes " "

-- a cell: mark and use
abbrev pub cell_text : Cell → List ℕ
cell_text cell = codes "  " ++ (missing_mark cell.is_missing ++ content_text cell.content)

-- the cell of a disk at an extent
abbrev pub column_text : Picture → ℕ → ℕ → List ℕ
column_text picture extent disk = cell_text (cell_of picture (record { disk = disk; extent = extent }))

-- the first and the last number of extents, or the only one
abbrev pub extents_text : ℕ → ℕ → List ℕ
extents_text first last =
    if nat_lt first last then at_right 4 first ++ (codes ".." ++ at_left 4 last) else at_right 4 first ++ spaces 6

-- the line of a fold: the numbers of its extents, and its first extent's cell on each disk
abbrev pub fold_text : Picture → Fold → List ℕ
fold_text picture fold =
    extents_text fold.first (fold.end - 1)
    ++ (flat_map (column_text picture fold.first) (range_with_len 0 picture.disks) ++ 10 ∷ [])

-- the line with a word of five characters below the number of a disk
abbrev pub below_text : ℕ → List ℕ → List ℕ
below_text disk word = spaces (10 + 5 * disk) ++ (word ++ 10 ∷ [])

-- what is below the disks' numbers
abbrev pub down_text : Health → List ℕ
down_text Whole = []
down_text (Out disk) = below_text disk (codes "  out")
down_text (Rebuilding disk done) = below_text disk (codes "  new")
down_text Broken = []
down_text (Lost one other) = below_text one (codes "  out") ++ below_text other (codes "  out")

-- the numbers of disks and of extents
abbrev pub sizes_text : Picture → List ℕ
sizes_text picture =
    decimal picture.disks ++ (codes " disks (columns) of " ++ (decimal picture.extents ++ codes " extents (lines)\n"))

-- the lines above the extents
abbrev pub heads_text : Picture → List ℕ
heads_text picture =
    (sizes_text picture ++ spaces 10)
    ++ (flat_map (at_right 5) (range_with_len 0 picture.disks) ++ 10 ∷ down_text picture.health)

-- what the signs of a cell mean
abbrev pub signs_text : List ℕ
signs_text = codes "M mirrored, P with parity; 0 to 9: how full, in ninths of its slots\n"
    ++ codes "-- in a free group, .. in no group, ! can't be used\n"

-- the health of disks of `extents` extents
abbrev pub disks_text : ℕ → Health → List ℕ
disks_text extents Whole = codes "all disks are sound\n"
disks_text extents (Out disk) = codes "disk " ++ (decimal disk ++ codes " is out\n")
disks_text extents (Rebuilding disk done) = codes "disk " ++ (decimal disk ++ (codes " is new: " ++ (decimal done
    ++ (codes " of its " ++ (decimal extents ++ codes " extents are rebuilt\n")))))
disks_text extents Broken = codes "the data are lost\n"
disks_text extents (Lost one other) =
    codes "disks " ++ (decimal one ++ (codes " and " ++ (decimal other ++ codes " are out: the data are lost\n")))

-- the line of a unit: how many of its blocks are on the disks
abbrev pub unit_text : PictureUnit → List ℕ
unit_text unit = codes "unit " ++ (decimal unit.host ++ (codes " " ++ (decimal unit.lun ++ (codes ": "
    ++ (decimal unit.placed ++ (codes " of " ++ (decimal unit.blocks ++ codes " blocks on the disks\n")))))))

-- the whole map, with a line for each of these folds and for each unit
abbrev pub map_text : Picture → List Fold → List ℕ
map_text picture folds =
    (heads_text picture
    ++ (flat_map (fold_text picture) folds ++ (signs_text ++ disks_text picture.extents picture.health)))
    ++ flat_map unit_text picture.units.items

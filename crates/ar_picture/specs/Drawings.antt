-- The text of an SVG: for each disk a column of its extents, from top to bottom, and the legend on the right.
use Rattle.std.specs.Prelude.{ℕ, ◌+◌, ◌/◌, ◌%◌, ◌*◌, Bool, true, false, ◌==◌, ◌||◌, nat_lt, if◌then◌else◌, List, []}
use Rattle.std.specs.Prelude.{◌∷◌}
use Rattle.std.specs.Prelude.{◌++◌, Option, None, Some, codes, length, slice_get, slice_index, sum, take}
use Rattle.std.specs.Fmt.{decimal}
use Rattle.std.specs.List.{flat_map, range_with_len}
use Rattle.ar_disks.specs.declared.address.Place.{Place}
use Rattle.ar_picture.specs.Cells.{content_at, group_at, is_missing_place}
use Rattle.ar_picture.specs.Layouts.{height_of, left_at, legend_at, line_top_at, outline_of, scale_of, top_at, width_of}
use Rattle.ar_picture.specs.Looks.{colour_at}
use Rattle.ar_picture.specs.declared.cell.Content.{Content}
use Rattle.ar_picture.specs.declared.cell.Content.TheVariants as contents
use Rattle.ar_picture.specs.declared.layout.Scale.{Scale}
use Rattle.ar_picture.specs.declared.palette.TheConstants.{GROUND, MIRRORED, PARITY}
use Rattle.ar_picture.specs.declared.picture.Class.{Class}
use Rattle.ar_picture.specs.declared.picture.Class.TheVariants as classes
use Rattle.ar_picture.specs.declared.picture.Group.{Group}
use Rattle.ar_picture.specs.declared.picture.Health.{Health}
use Rattle.ar_picture.specs.declared.picture.Health.TheVariants.{Whole, Out, Rebuilding, Broken, Lost}
use Rattle.ar_picture.specs.declared.picture.Held.{Held}
use Rattle.ar_picture.specs.declared.picture.Picture.{Picture}
use Rattle.ar_picture.specs.declared.picture.Unit.{Unit as PictureUnit}
use Rattle.ar_picture.specs.declared.svg.TheConstants.{HATCH, TEXTS, UNUSED}

-- the first line, with the picture's width and height
abbrev pub opening_svg : ℕ → ℕ → List ℕ
opening_svg width height =
    codes "<svg xmlns='http://www.w3.org/2000/svg' width='" ++ (decimal width ++ (codes "' height='" ++ (decimal height
    ++ (codes "' viewBox='0 0 " ++ (decimal width ++ (codes " " ++ (decimal height ++ codes "'>\n")))))))

-- the name of the picture
abbrev pub title_svg : Picture → List ℕ
title_svg picture = codes "<title>A disk array of " ++ (decimal picture.disks ++ (codes " disks of "
    ++ (decimal picture.extents ++ codes " extents</title>\n")))

-- the styles of texts and of extents
abbrev pub styles_svg : List ℕ
styles_svg = (codes "<style>\n" ++ (TEXTS.now ++ codes "\n"))
    ++ (codes ".mirrored { fill: " ++ (MIRRORED.now ++ codes "; stroke: #3D8FC4 }\n"))
    ++ (codes ".parity { fill: " ++ (PARITY.now ++ codes "; stroke: #BFA11C }\n"))
    ++ (codes ".free { fill: " ++ (GROUND.now ++ codes "; stroke: #9A9A9A }\n"))
    ++ (UNUSED.now ++ (codes "\n</style>\n" ++ (HATCH.now ++ codes "\n")))

-- the background
abbrev pub ground_svg : ℕ → ℕ → List ℕ
ground_svg width height = codes "<rect width='" ++ (decimal width ++ (codes "' height='" ++ (decimal height
    ++ (codes "' fill='" ++ (GROUND.now ++ codes "'/>\n")))))

-- the numbers of disks and of extents
abbrev pub heading_svg : Picture → List ℕ
heading_svg picture = codes "<text class='title' x='24' y='34'>" ++ (decimal picture.disks ++ (codes " disks of "
    ++ (decimal picture.extents ++ codes " extents</text>\n")))

-- the health of disks of `extents` extents
abbrev pub health_svg : ℕ → Health → List ℕ
health_svg extents Whole = codes "<text x='24' y='56'>All disks are sound.</text>\n"
health_svg extents (Out disk) = codes "<text x='24' y='56'>Disk " ++ (decimal disk ++ codes " is out.</text>\n")
health_svg extents (Rebuilding disk done) = codes "<text x='24' y='56'>Disk " ++ (decimal disk ++ (codes " is new: "
    ++ (decimal done ++ (codes " of its " ++ (decimal extents ++ codes " extents are rebuilt.</text>\n")))))
health_svg extents Broken =
    codes "<text x='24' y='56'>Two disks were lost at one moment, and the data with them.</text>\n"
health_svg extents (Lost one other) = codes "<text x='24' y='56'>Disks " ++ (decimal one ++ (codes " and "
    ++ (decimal other ++ codes " were lost at one moment, and the data with them.</text>\n")))

-- what comes before the disks
abbrev pub frame_svg : Scale → Picture → List ℕ
frame_svg scale picture =
    opening_svg (width_of picture) (height_of scale picture)
    ++ title_svg picture
    ++ styles_svg
    ++ ground_svg (width_of picture) (height_of scale picture)
    ++ heading_svg picture
    ++ health_svg picture.extents picture.health

-- the number of an extent to its left, a little below its middle, where it has one
abbrev pub number_svg : Scale → ℕ → List ℕ
number_svg scale extent =
    if extent % scale.numbered == 0
    then codes "<text class='number' x='54' y='" ++ (decimal (top_at scale extent + scale.height / 2 + 4) ++ (codes "'>"
    ++ (decimal extent ++ codes "</text>\n")))
    else []

-- the name of a disk above its column
abbrev pub name_svg : ℕ → List ℕ
name_svg disk = codes "<text class='disk' x='" ++ (decimal (left_at disk + 40) ++ (codes "' y='" ++ (decimal 98
    ++ (codes "'>disk " ++ (decimal disk ++ codes "</text>\n")))))

-- below the name of a disk that has failed, that it is out
abbrev pub out_svg : ℕ → List ℕ
out_svg disk = codes "<text class='down' x='" ++ (decimal (left_at disk + 40) ++ (codes "' y='" ++ (decimal 114
    ++ codes "'>out</text>\n")))

-- what is below the name: that the disk has failed, or how many of its extents are rebuilt
abbrev pub state_svg : ℕ → Health → List ℕ
state_svg disk Whole = []
state_svg disk (Out down) = if down == disk then out_svg disk else []
state_svg disk (Rebuilding down done) =
    if down == disk
    then codes "<text class='down' x='" ++ (decimal (left_at disk + 40) ++ (codes "' y='" ++ (decimal 114 ++ (codes "'>"
    ++ (decimal done ++ codes " rebuilt</text>\n")))))
    else []
state_svg disk Broken = []
state_svg disk (Lost one other) = if (one == disk) || (other == disk) then out_svg disk else []

-- the name of the style of extents with this use
abbrev pub style_of : Content → List ℕ
style_of contents.Loose = codes "loose"
style_of contents.Free = codes "free"
style_of (contents.Mirrored full) = codes "mirrored"
style_of (contents.Parity full) = codes "parity"

-- the rectangle of an extent in a style
abbrev pub cell_svg : Scale → Place → List ℕ → List ℕ
cell_svg scale place style = codes "<rect class='" ++ (style ++ (codes "' x='" ++ (decimal (left_at place.disk)
    ++ (codes "' y='" ++ (decimal (top_at scale place.extent) ++ (codes "' width='" ++ (decimal 80
    ++ (codes "' height='" ++ (decimal scale.height ++ codes "'/>\n")))))))))

-- in a bar `count` blocks in a unit's colour, after `from` blocks of other units: a slot is 1 wide
abbrev pub piece_svg : ℕ → ℕ → List ℕ → List ℕ
piece_svg from count colour =
    if count == 0 then [] else codes "<rect x='" ++ (decimal from ++ (codes "' width='" ++ (decimal count
    ++ (codes "' height='1' fill='" ++ (colour ++ codes "'/>")))))

-- given how many blocks there are of each unit, those of the unit with this index, after those of the units before it
abbrev pub piece_at : List ℕ → ℕ → List ℕ
piece_at blocks index = piece_svg (sum (take index blocks)) (slice_index blocks index) (colour_at index)

-- the blocks of all units, given how many there are of each
abbrev pub pieces_svg : List ℕ → List ℕ
pieces_svg blocks = flat_map (piece_at blocks) (range_with_len 0 (length blocks))

-- the beginning of a bar of this number of slots
abbrev pub slots_svg : Scale → Place → ℕ → List ℕ
slots_svg scale place slots =
    codes "<svg x='" ++ (decimal (left_at place.disk + 4) ++ (codes "' y='"
    ++ (decimal (top_at scale place.extent + scale.bar_top) ++ (codes "' width='" ++ (decimal 72 ++ (codes "' height='"
    ++ (decimal scale.bar_height ++ (codes "' viewBox='0 0 " ++ (decimal slots
    ++ codes " 1' preserveAspectRatio='none'>")))))))))

-- the bar of a group in one of its extents: its slots, of which each unit's blocks take as many as they are
abbrev pub bar_svg : Scale → Place → Group → Held → List ℕ
bar_svg scale place group held = slots_svg scale place group.slots ++ pieces_svg held.blocks ++ codes "</svg>\n"

-- the bar of a group and of the blocks that it holds, where both are known
abbrev pub bar_within : Scale → Place → Option Group → Option Held → List ℕ
bar_within scale place None held = []
bar_within scale place (Some group) None = []
bar_within scale place (Some group) (Some held) = bar_svg scale place group held

-- the bar of an extent's group, or nothing in one that is unassigned
abbrev pub bar_at : Scale → Picture → Place → Option ℕ → List ℕ
bar_at scale picture place None = []
bar_at scale picture place (Some number) =
    bar_within scale place (slice_get picture.groups.items number) (slice_get picture.held.items number)

-- an extent that is missing is hatched
abbrev pub hatch_svg : Scale → Place → Bool → List ℕ
hatch_svg scale place true = cell_svg scale place (codes "missing")
hatch_svg scale place false = []

-- the text of an extent begins with its group's number
abbrev pub label_svg : Scale → Place → ℕ → List ℕ
label_svg scale place number =
    codes "<text class='small' x='" ++ (decimal (left_at place.disk + 5) ++ (codes "' y='"
    ++ (decimal (top_at scale place.extent + 12) ++ (codes "'>" ++ (decimal number ++ codes ": ")))))

-- and ends with how many of the group's slots hold a block
abbrev pub use_svg : Class → ℕ → ℕ → List ℕ
use_svg classes.Free blocks slots = codes "free</text>\n"
use_svg classes.Mirrored blocks slots = decimal blocks ++ (codes " of " ++ (decimal slots ++ codes "</text>\n"))
use_svg classes.Parity blocks slots = decimal blocks ++ (codes " of " ++ (decimal slots ++ codes "</text>\n"))

-- the text of an extent of this group
abbrev pub words_svg : Scale → Place → ℕ → Group → List ℕ
words_svg scale place number group =
    label_svg scale place number ++ use_svg group.class group.blocks group.slots

-- the same, where the group is known
abbrev pub words_within : Scale → Place → ℕ → Option Group → List ℕ
words_within scale place number None = []
words_within scale place number (Some group) = words_svg scale place number group

-- the same of an extent's group, where there is one and room for text
abbrev pub words_at : Scale → Picture → Place → Option ℕ → List ℕ
words_at scale picture place None = []
words_at scale picture place (Some number) =
    if nat_lt 24 scale.height then words_within scale place number (slice_get picture.groups.items number) else []

-- an extent
abbrev pub extent_svg : Scale → Picture → Place → List ℕ
extent_svg scale picture place =
    cell_svg scale place (style_of (content_at picture.groups.items place))
    ++ bar_at scale picture place (group_at picture.groups.items place)
    ++ hatch_svg scale place (is_missing_place picture.health place)
    ++ words_at scale picture place (group_at picture.groups.items place)

-- an extent of a disk
abbrev pub row_svg : Scale → Picture → ℕ → ℕ → List ℕ
row_svg scale picture disk extent = extent_svg scale picture (record { disk = disk; extent = extent })

-- a disk: its name, what is below it, and its extents
abbrev pub disk_svg : Scale → Picture → ℕ → List ℕ
disk_svg scale picture disk =
    name_svg disk ++ state_svg disk picture.health
    ++ flat_map (row_svg scale picture disk) (range_with_len 0 picture.extents)

-- all disks
abbrev pub disks_svg : Scale → Picture → List ℕ
disks_svg scale picture =
    codes "<g stroke-width='" ++ (outline_of scale.height ++ codes "'>\n")
    ++ flat_map (disk_svg scale picture) (range_with_len 0 picture.disks)
    ++ codes "</g>\n"

-- a text in a line of the legend that begins at x
abbrev pub line_svg : ℕ → ℕ → List ℕ → List ℕ → List ℕ
line_svg x line style words = codes "<text class='" ++ (style ++ (codes "' x='" ++ (decimal x ++ (codes "' y='"
    ++ (decimal (line_top_at line + 12) ++ (codes "'>" ++ (words ++ codes "</text>\n")))))))

-- a small extent in a style
abbrev pub swatch_svg : ℕ → ℕ → List ℕ → List ℕ
swatch_svg x line style = codes "<rect class='" ++ (style ++ (codes "' x='" ++ (decimal x ++ (codes "' y='"
    ++ (decimal (line_top_at line) ++ codes "' width='26' height='15'/>\n")))))

-- a style of extents, and what it means
abbrev pub sample_svg : ℕ → ℕ → List ℕ → List ℕ → List ℕ
sample_svg x line style meaning = swatch_svg x line style ++ line_svg (x + 36) line [] meaning

-- all styles
abbrev pub samples_svg : ℕ → List ℕ
samples_svg x =
    sample_svg x 1 (codes "mirrored") (codes "in a mirrored group")
    ++ sample_svg x 2 (codes "parity") (codes "in a group with parity")
    ++ sample_svg x 3 (codes "free") (codes "in a free group")
    ++ sample_svg x 4 (codes "loose") (codes "in no group")
    ++ sample_svg x 5 (codes "missing") (codes "can't be used")

-- a patch in a colour
abbrev pub patch_svg : ℕ → ℕ → List ℕ → List ℕ
patch_svg x line colour = codes "<rect x='" ++ (decimal x ++ (codes "' y='" ++ (decimal (line_top_at line)
    ++ (codes "' width='26' height='15' fill='" ++ (colour ++ codes "'/>\n")))))

-- how many blocks of a unit are on the disks
abbrev pub placed_svg : ℕ → ℕ → PictureUnit → List ℕ
placed_svg x line unit = codes "<text x='" ++ (decimal x ++ (codes "' y='" ++ (decimal (line_top_at line + 12)
    ++ (codes "'>unit " ++ (decimal unit.host ++ (codes " " ++ (decimal unit.lun ++ (codes ": " ++ (decimal unit.placed
    ++ (codes " of " ++ (decimal unit.blocks ++ codes "</text>\n")))))))))))

-- a unit: its colour, and how many of its blocks are on the disks
abbrev pub unit_svg : ℕ → ℕ → PictureUnit → List ℕ
unit_svg x line unit = patch_svg x line (colour_at (8 * unit.host + unit.lun)) ++ placed_svg (x + 36) line unit

-- units, each in a line of its own
abbrev pub units_svg : ℕ → ℕ → List PictureUnit → List ℕ
units_svg x line [] = []
units_svg x line (unit ∷ units) = unit_svg x line unit ++ units_svg x (line + 1) units

-- the legend that begins at x: the styles of extents, what their text means, and the units, the first 32 of them
abbrev pub legend_svg : ℕ → List PictureUnit → List ℕ
legend_svg x units =
    line_svg x 0 (codes "head") (codes "Extents")
    ++ samples_svg x
    ++ line_svg x 6 (codes "small") (codes "1: 3 of 4 is group 1, 3 of its 4 slots hold a block")
    ++ line_svg x 8 (codes "head") (codes "Blocks of units on the disks")
    ++ units_svg x 9 (take 32 units)

-- the picture at a scale
abbrev pub picture_svg : Scale → Picture → List ℕ
picture_svg scale picture =
    frame_svg scale picture
    ++ flat_map (number_svg scale) (range_with_len 0 picture.extents)
    ++ disks_svg scale picture
    ++ legend_svg (legend_at picture.disks) picture.units.items
    ++ codes "</svg>\n"

-- the whole SVG
abbrev pub svg_text : Picture → List ℕ
svg_text picture = picture_svg (scale_of picture.extents) picture

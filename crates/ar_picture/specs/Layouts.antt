-- Where an SVG draws what, in user units (pixels at its own size), and the scale of extents.
use Rattle.std.specs.Prelude.{◌≡◌, ℕ, ◌+◌, ◌*◌, ◌<◌, ◌≤◌, nat_le, nat_lt, if◌then◌else◌, min, max, List, length, codes}
use Rattle.ar_picture.specs.declared.layout.Scale.{Scale}
use Rattle.ar_picture.specs.declared.picture.Picture.{Picture}

-- the scale for disks of `extents` extents: the more there are, the lower each is drawn
abbrev pub scale_of : ℕ → Scale
scale_of extents =
    if nat_le extents 16 then record { pitch = 36; height = 32; bar_top = 17; bar_height = 11; numbered = 1 }
    else if nat_le extents 64 then record { pitch = 14; height = 12; bar_top = 3; bar_height = 6; numbered = 8 }
    else if nat_le extents 256 then record { pitch = 6; height = 5; bar_top = 1; bar_height = 3; numbered = 32 }
    else record { pitch = 3; height = 3; bar_top = 0; bar_height = 3; numbered = 128 }

-- what is drawn of disks of `extents` extents at this scale can be told apart and read
pub record IsLegible (extents : ℕ) (scale : Scale) : Type 0 where
  -- extents don't overlap, and at most 4 units separate two
  pub apart : scale.height ≤ scale.pitch
  pub near : scale.pitch ≤ scale.height + 4
  -- each contains its bar, which is visible and takes at least a third of it
  pub bar : scale.bar_top + scale.bar_height ≤ scale.height
  pub seen : 0 < scale.bar_height
  pub thick : scale.height ≤ 3 * scale.bar_height
  -- text fits above the bar; up to 16 extents have it, and each of these its number
  pub words : 24 < scale.height → 14 ≤ scale.bar_top
  pub few : extents ≤ 16 → 24 < scale.height
  pub each : 24 < scale.height → scale.numbered ≡ 1
  -- up to 1,024 extents are at most 3,072 high in all
  pub many : extents ≤ 1024 → scale.pitch * extents ≤ 3072
  -- numbers, 11 high, don't overlap, and are at most 384 apart
  pub numbers : 11 ≤ scale.pitch * scale.numbered
  pub often : scale.pitch * scale.numbered ≤ 384

-- the thickness of the outline of an extent of this height, as text
abbrev pub outline_of : ℕ → List ℕ
outline_of height = if nat_lt height 4 then codes "0.2" else if nat_lt height 10 then codes "0.5" else codes "1"

-- the left side of a disk's column
abbrev pub left_at : ℕ → ℕ
left_at disk = 64 + 92 * disk

-- the top of an extent
abbrev pub top_at : Scale → ℕ → ℕ
top_at scale extent = 124 + scale.pitch * extent

-- the left side of the legend, after the columns of `disks` disks
abbrev pub legend_at : ℕ → ℕ
legend_at disks = 84 + 92 * disks

-- the top of a line of the legend
abbrev pub line_top_at : ℕ → ℕ
line_top_at line = 74 + 22 * line

-- the width of the picture: disks, legend and margins
abbrev pub width_of : Picture → ℕ
width_of picture = 348 + 92 * picture.disks

-- its height: that of the disks or of the legend, whichever is higher, and a margin
abbrev pub height_of : Scale → Picture → ℕ
height_of scale picture =
    max (124 + scale.pitch * picture.extents) (300 + 22 * min (length picture.units.items) 32) + 24

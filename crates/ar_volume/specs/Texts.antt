-- The texts of refusals.
use Rattle.std.specs.Prelude.{ℕ, List, codes}
use Rattle.ar_book.specs.Texts.{unit_refusal_text}
use Rattle.ar_extents.specs.Texts.{disk_refusal_text}
use Rattle.ar_volume.specs.declared.refusal.Refusal.{Refusal}
use Rattle.ar_volume.specs.declared.refusal.Refusal.TheVariants.{Unit, Broken, Disk}

-- the text of an array's refusal: that of the unit or of the disk, or that the array has lost its data
abbrev pub refusal_text : Refusal → List ℕ
refusal_text (Unit refusal) = unit_refusal_text refusal
refusal_text Broken = codes "M6 Broken"
refusal_text (Disk refusal) = disk_refusal_text refusal

-- The text of refusals.
use Rattle.std.specs.Prelude.{ℕ, List, codes}
use Rattle.ar_extents.specs.declared.refusal.DiskRefusal.{DiskRefusal}
use Rattle.ar_extents.specs.declared.refusal.DiskRefusal.TheVariants.{TooManyDisks, WrongSize, NotOut, NoSuchDisk}
use Rattle.ar_extents.specs.declared.refusal.DiskRefusal.TheVariants.{NoMemory, Broken}

-- the text of a refusal: its number and its name
abbrev pub disk_refusal_text : DiskRefusal → List ℕ
disk_refusal_text TooManyDisks = codes "E1 TooManyDisks"
disk_refusal_text WrongSize = codes "E2 WrongSize"
disk_refusal_text NotOut = codes "E3 NotOut"
disk_refusal_text NoSuchDisk = codes "E4 NoSuchDisk"
disk_refusal_text NoMemory = codes "E5 NoMemory"
disk_refusal_text Broken = codes "E6 Broken"

-- The text of a refusal.
use Rattle.std.specs.Prelude.{ℕ, List, ◌++◌, codes}
use Rattle.std.specs.Fmt.{decimal}
use Rattle.ar_book.specs.declared.refusal.Refusal.{Refusal}
use Rattle.ar_book.specs.declared.refusal.Refusal.TheVariants.{Exists, Size, NoRoom, NoMemory, Absent, BadLun}

-- a code and a word; `NoRoom` is followed by the room, in blocks
abbrev pub unit_refusal_text : Refusal → List ℕ
unit_refusal_text Exists = codes "M1 Exists"
unit_refusal_text Size = codes "M2 Size"
unit_refusal_text (NoRoom room) = codes "M3 NoRoom " ++ decimal room
unit_refusal_text NoMemory = codes "M4 NoMemory"
unit_refusal_text Absent = codes "M5 Absent"
unit_refusal_text BadLun = codes "M7 BadLun"

-- The texts of faults.
use Rattle.std.specs.Prelude.{ℕ, List, codes}
use Rattle.ar_language.specs.declared.fault.FaultKind.{FaultKind}
use Rattle.ar_language.specs.declared.fault.FaultKind.TheVariants.{UnknownWord, BadArgument, LineTooLong, TooManyLines}
use Rattle.ar_language.specs.declared.fault.FaultKind.TheVariants.{BadCharacter, NoMemory, ReadFault, WriteFault}

-- what a fault is called
abbrev pub fault_kind_text : FaultKind → List ℕ
fault_kind_text UnknownWord = codes "unknown word"
fault_kind_text BadArgument = codes "bad argument"
fault_kind_text LineTooLong = codes "line too long"
fault_kind_text TooManyLines = codes "too many lines"
fault_kind_text BadCharacter = codes "bad character"
fault_kind_text NoMemory = codes "no memory"
fault_kind_text ReadFault = codes "read fault"
fault_kind_text WriteFault = codes "write fault"

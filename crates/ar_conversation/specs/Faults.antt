-- The texts of the faults of a line.
use Rattle.std.specs.Prelude.{ℕ, List, codes}
use Rattle.ar_language.specs.Texts.{fault_kind_text}
use Rattle.ar_conversation.specs.declared.order.LineFault.{LineFault}
use Rattle.ar_conversation.specs.declared.order.LineFault.TheVariants.{Line, NotOperatorWord, Cut}

-- the text of a fault
abbrev pub line_fault_text : LineFault → List ℕ
line_fault_text (Line kind) = fault_kind_text kind
line_fault_text NotOperatorWord = codes "not an operator's word"
line_fault_text Cut = codes "cut line"

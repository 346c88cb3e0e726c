-- What queries need.
use Rattle.ar_language.specs.declared.order.Question.{Question}
use Rattle.ar_language.specs.declared.order.Question.TheVariants.{Block}

-- a query that reads no disk
abbrev pub IsView : Question → Type 0
IsView (Block disk extent row) = ⊥
IsView question = Unit {0}

-- The answers to orders, as text.
use Rattle.std.specs.Prelude.{◌≡◌, ℕ, List, [], ◌∷◌, Option, map, codes}
use Rattle.std.specs.Fmt.{decimal}
use Rattle.std.specs.Io.KnownBytes.{Appends}
use Rattle.ar_book.specs.Tables.{room}
use Rattle.ar_volume.specs.Image.{ArrayState}
use Rattle.ar_core.specs.Views.{home_of, use_of}
use Rattle.ar_language.specs.Notations.{notation_in}
use Rattle.ar_language.specs.declared.order.Order.{Order}
use Rattle.ar_language.specs.declared.order.Order.TheVariants.{Act, Ask}
use Rattle.ar_language.specs.declared.order.Question.{Question}
use Rattle.ar_language.specs.declared.order.Question.TheVariants.{Levels, Home, Groups, Room, Health, Picture, Block}
use Rattle.ar_answers.specs.Orders.{Acts, ReadsRow}
use Rattle.ar_answers.specs.Pictures.{IsMap}
use Rattle.ar_answers.specs.Texts.{groups_text, health_text, home_text, levels_text, line, outcome_text, row_text}

-- the text that answers a query of an array, which leaves the second state
abbrev pub IsAnswerTo : Question → ArrayState → ArrayState → List ℕ → Type 0
IsAnswerTo (Levels addr) old new text = text ≡ levels_text old.store.book addr
IsAnswerTo (Home addr rb) old new text = text ≡ home_text (home_of old.store.book addr rb)
IsAnswerTo Groups old new text = text ≡ groups_text 0 (map use_of old.store.book.groups)
IsAnswerTo Room old new text = text ≡ line (codes "room" ∷ decimal (room old.store.book) ∷ [])
IsAnswerTo Health old new text = text ≡ health_text old.store.disks.health
IsAnswerTo Picture old new text = IsMap old text
IsAnswerTo (Block disk extent row) old new text =
    (reads : ReadsRow (record { disk = disk; extent = extent }) row old new) × (text ≡ row_text reads.shown reads.bytes)

-- the text that answers an order: an action's is that of its outcome
abbrev pub IsAnswer : Order → ArrayState → ArrayState → List ℕ → Type 0
IsAnswer (Act action) old new text =
    (acts : Acts action old new) × (text ≡ outcome_text acts.outcome (notation_in action))
IsAnswer (Ask question) old new text = IsAnswerTo question old new text

-- an order's answer was appended
pub record AppendsAnswer (order : Order) (old new : ArrayState) (before after : Option (List ℕ)) : Type 0 where
  pub text : List ℕ
  pub is : IsAnswer order old new text
  pub appends : Appends before after text

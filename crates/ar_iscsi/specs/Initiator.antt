-- The name of an initiator (RFC 7143, 13.5), as the text of its login has it.
use Rattle.std.specs.Prelude.{ℕ, ◌==◌, List, [], ◌∷◌}
use Rattle.std.specs.List.{slice_split}
use Rattle.ar_iscsi.specs.declared.keys.Key.{Key}
use Rattle.ar_iscsi.specs.declared.keys.Key.TheVariants as key
use Rattle.ar_iscsi.specs.Text.{item_name, item_value, key_named}

-- the name after a value of this key: that of InitiatorName is the name
abbrev pub name_after_key : List ℕ → Key → List ℕ → List ℕ
name_after_key name key.InitiatorName text = text
name_after_key name other text = name

-- the name after an item
abbrev pub name_after_item : List ℕ → List ℕ → List ℕ
name_after_item name item = name_after_key name (key_named (item_name item)) (item_value item)

-- the name after items, in order
abbrev pub name_after_items : List ℕ → List (List ℕ) → List ℕ
name_after_items name [] = name
name_after_items name (item ∷ items) = name_after_items (name_after_item name item) items

-- the name after a text, which is split at its zero bytes: that of its last InitiatorName, or the one before
abbrev pub named_after : List ℕ → List ℕ → List ℕ
named_after name text = name_after_items name (slice_split (λ b. b == 0) text)

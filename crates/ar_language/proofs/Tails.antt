-- No order has more than seven words, so that those after the eighth count for nothing.
use Rattle.std.proofs.Common.{◌≡◌, ◌∙◌, ◌≤◌, ◌++◌, ◌==◌, ◌≢◌, ℕ, Bool, true, false, List, [], ◌∷◌, length, map, take}
use Rattle.std.proofs.Common.{drop, codes, bytes_eq, Option, Result, Ok, Err, MatchBool, refl, sym, ap, subst}
use Rattle.std.proofs.Common.{append-nil, length-append, inl, inr, take-append-drop, None, ◌||◌, arith}
use Rattle.std.specs.Borrow.{Bor}
use Rattle.std.specs.List.{list_any, slice_split}
use Rattle.std.proofs.lemmas.List.{length-map, length-take, length-drop, map-append}
use Rattle.ar_numbers.specs.Numbers.{IsDecimal}
use Rattle.ar_language.specs.declared.fault.FaultKind.{FaultKind}
use Rattle.ar_language.specs.declared.fault.FaultKind.TheVariants.{BadArgument}
use Rattle.ar_language.specs.declared.order.Order.{Order}
use Rattle.ar_language.specs.Forms.{Words, HasUnit, HasUnitAndNumber, HasSectors, HasSectorsAndByte, HasCommandBlock}
use Rattle.ar_language.specs.Forms.{HasUnitAndSize, HasRowAddress, HasDisk, IsNumberOf}
use Rattle.ar_language.specs.Forms.{ParsesAs, ReadsArrayOrder, ReadsUnitOrder}
use Rattle.ar_language.specs.Forms.{ReadsOrder, ReadsNamed, ReadsWords, is_silent, ReadsLine}

-- ---- of seven arguments or more no word has a form

no_alone : (words : Words) → 7 ≤ length words → ¬ (length words ≡ 0)
no_alone words many = λ has. absurd (omega arith)

no_unit : (words : Words) → 7 ≤ length words → ¬ HasUnit words
no_unit words many = λ has. let count = has.count in absurd (omega arith)

no_number : (bits : ℕ) (words : Words) → 7 ≤ length words → ¬ HasUnitAndNumber bits words
no_number bits words many = λ has. let count = has.count in absurd (omega arith)

no_size : (words : Words) → 7 ≤ length words → ¬ HasUnitAndSize words
no_size words many = λ has. let count = has.count in absurd (omega arith)

no_sectors : (bits : ℕ) (Lba : List ℕ → Type 0) (words : Words) → 7 ≤ length words → ¬ HasSectors bits Lba words
no_sectors bits Lba words many = λ has. let count = has.count in absurd (omega arith)

no_written : (Lba : List ℕ → Type 0) (words : Words) → 7 ≤ length words → ¬ HasSectorsAndByte Lba words
no_written Lba words many =
    λ has. elim has.count [
      | inl plain ↦ absurd (omega arith)
      | inr forced ↦
          (let count = forced.0 in absurd (omega arith))
    ]

no_block : (words : Words) → 7 ≤ length words → ¬ HasCommandBlock words
no_block words many =
    λ has. elim has.count [ inl plain ↦ absurd (omega arith) | inr sent ↦ (let count = sent.0 in absurd (omega arith)) ]

no_row : (words : Words) → 7 ≤ length words → ¬ HasRowAddress words
no_row words many = λ has. let count = has.count in absurd (omega arith)

no_disk : (words : Words) → 7 ≤ length words → ¬ HasDisk words
no_disk words many = λ has. let count = has.count in absurd (omega arith)

-- ---- so that they are answered alike

bad : (F G : Type 0) (A B : Order → Type 0) (r : Result Order FaultKind) → (¬ F) → (¬ G) → ParsesAs F A r
    → ParsesAs G B r
bad F G A B (Ok order) not_f not_g h = absurd (not_f h.0)
bad F G A B (Err kind) not_f not_g h = (h.0, not_g)

row : (b : Bool) (P Q R S : Type 0) → (P → Q) → (R → S) → MatchBool b P R → MatchBool b Q S
row true P Q R S first other h = first h
row false P Q R S first other h = other h

module _ (name : List ℕ) (xs ys : Words) (r : Result Order FaultKind) (some : 7 ≤ length xs) (more : 7 ≤ length ys)
  where
    alone : (order : Order) → ParsesAs (length xs ≡ 0) (λ given. given ≡ order) r
        → ParsesAs (length ys ≡ 0) (λ given. given ≡ order) r
    alone order =
        bad (length xs ≡ 0) (length ys ≡ 0) (λ given. given ≡ order) (λ given. given ≡ order) r (no_alone xs some)
        (no_alone ys more)

    unit : (A B : Order → Type 0) → ParsesAs (HasUnit xs) A r → ParsesAs (HasUnit ys) B r
    unit A B = bad (HasUnit xs) (HasUnit ys) A B r (no_unit xs some) (no_unit ys more)

    number : (bits : ℕ) (A B : Order → Type 0) → ParsesAs (HasUnitAndNumber bits xs) A r
        → ParsesAs (HasUnitAndNumber bits ys) B r
    number bits A B =
        bad (HasUnitAndNumber bits xs) (HasUnitAndNumber bits ys) A B r (no_number bits xs some)
        (no_number bits ys more)

    size : (A B : Order → Type 0) → ParsesAs (HasUnitAndSize xs) A r → ParsesAs (HasUnitAndSize ys) B r
    size A B = bad (HasUnitAndSize xs) (HasUnitAndSize ys) A B r (no_size xs some) (no_size ys more)

    sectors : (bits : ℕ) (Lba : List ℕ → Type 0) (A B : Order → Type 0) → ParsesAs (HasSectors bits Lba xs) A r
        → ParsesAs (HasSectors bits Lba ys) B r
    sectors bits Lba A B =
        bad (HasSectors bits Lba xs) (HasSectors bits Lba ys) A B r (no_sectors bits Lba xs some)
        (no_sectors bits Lba ys more)

    written : (Lba : List ℕ → Type 0) (A B : Order → Type 0) → ParsesAs (HasSectorsAndByte Lba xs) A r
        → ParsesAs (HasSectorsAndByte Lba ys) B r
    written Lba A B =
        bad (HasSectorsAndByte Lba xs) (HasSectorsAndByte Lba ys) A B r (no_written Lba xs some)
        (no_written Lba ys more)

    block : (A B : Order → Type 0) → ParsesAs (HasCommandBlock xs) A r → ParsesAs (HasCommandBlock ys) B r
    block A B = bad (HasCommandBlock xs) (HasCommandBlock ys) A B r (no_block xs some) (no_block ys more)

    place : (A B : Order → Type 0) → ParsesAs (HasRowAddress xs) A r → ParsesAs (HasRowAddress ys) B r
    place A B = bad (HasRowAddress xs) (HasRowAddress ys) A B r (no_row xs some) (no_row ys more)

    disk : (A B : Order → Type 0) → ParsesAs (HasDisk xs) A r → ParsesAs (HasDisk ys) B r
    disk A B = bad (HasDisk xs) (HasDisk ys) A B r (no_disk xs some) (no_disk ys more)

    array_order : ReadsArrayOrder name xs r → ReadsArrayOrder name ys r
    array_order =
        row (bytes_eq name (codes "flush")) _ _ _ _ (alone _) (row (bytes_eq name (codes "demote")) _ _ _ _ (alone _)
        (row (bytes_eq name (codes "clean")) _ _ _ _ (alone _) (row (bytes_eq name (codes "balance")) _ _ _ _ (alone _)
        (row (bytes_eq name (codes "add")) _ _ _ _ (alone _) (row (bytes_eq name (codes "out")) _ _ _ _ (disk _ _)
        (row (bytes_eq name (codes "replace")) _ _ _ _ (disk _ _)
        (row (bytes_eq name (codes "rebuild")) _ _ _ _ (alone _)
        (row (bytes_eq name (codes "levels")) _ _ _ _ (unit _ _)
        (row (bytes_eq name (codes "home")) _ _ _ _ (number 32 _ _)
        (row (bytes_eq name (codes "groups")) _ _ _ _ (alone _) (row (bytes_eq name (codes "room")) _ _ _ _ (alone _)
        (row (bytes_eq name (codes "health")) _ _ _ _ (alone _) (row (bytes_eq name (codes "picture")) _ _ _ _ (alone _)
        (row (bytes_eq name (codes "block")) _ _ _ _ (place _ _) (λ unknown. unknown)))))))))))))))

    unit_order : ReadsUnitOrder name xs r → ReadsUnitOrder name ys r
    unit_order =
        row (bytes_eq name (codes "make")) _ _ _ _ (size _ _)
        (row (bytes_eq name (codes "grow")) _ _ _ _ (size _ _)
        (row (bytes_eq name (codes "drop")) _ _ _ _ (unit _ _)
        (row (bytes_eq name (codes "unmap")) _ _ _ _ (sectors 32 IsDecimal _ _) array_order)))

    any_order : ReadsOrder name xs r → ReadsOrder name ys r
    any_order =
        row (bytes_eq name (codes "read")) _ _ _ _ (sectors 16 (IsNumberOf 32) _ _)
        (row (bytes_eq name (codes "write")) _ _ _ _ (written (IsNumberOf 32) _ _)
        (row (bytes_eq name (codes "read16")) _ _ _ _ (sectors 16 IsDecimal _ _)
        (row (bytes_eq name (codes "write16")) _ _ _ _ (written IsDecimal _ _)
        (row (bytes_eq name (codes "tur")) _ _ _ _ (unit _ _)
        (row (bytes_eq name (codes "inquiry")) _ _ _ _ (number 16 _ _)
        (row (bytes_eq name (codes "capacity")) _ _ _ _ (unit _ _)
        (row (bytes_eq name (codes "cdb")) _ _ _ _ (block _ _) unit_order)))))))

-- ---- a line, of which the first words were read

abbrev held : List ℕ → Bor (List ℕ)
held text = record { ref_ptr = (0, 0); now = text }

texts_held : (texts : List (List ℕ)) → map (λ text. text.now) (map held texts) ≡ texts
texts_held [] = refl
texts_held (text ∷ texts) = ap (λ l. text ∷ l) (texts_held texts)

-- words that were not looked at leave what was read
read_more : (words more : Words) (result : Result (Option Order) FaultKind) → (more ≢ [] → length words ≡ 8)
    → ReadsNamed words result → ReadsNamed (words ++ more) result
read_more words [] result full reads = subst (λ (ws : Words). ReadsNamed ws result) (sym (append-nil words)) reads
read_more [] (m ∷ more) result full reads = let no = full (λ e. cc) in absurd (omega arith)
read_more (name ∷ words) (m ∷ more) result full reads =
    let eight = full (λ e. cc) in (
      reads.0,
      any_order name.now words (words ++ m ∷ more) reads.0 (omega arith)
          (omega (arith, length-append words (m ∷ more))) reads.1,
      reads.2,
    )

-- whether a word is empty follows from its text
any_empty : (words : Words) → list_any (λ text. length text.now == 0) words
    ≡ list_any (λ text. length text == 0) (map (λ text. text.now) words)
any_empty [] = refl
any_empty (word ∷ words) = ap (λ b. (length word.now == 0) || b) (any_empty words)

-- a line of which no word is empty is read by its first words
words_read : (pieces : List (List ℕ)) (words : Words) (result : Result (Option Order) FaultKind)
    → list_any (λ text. length text == 0) pieces ≡ false
    → map (λ text. text.now) words ≡ take 8 pieces → ReadsNamed words result
    → (all : Words) × (map (λ text. text.now) all ≡ pieces) × ReadsWords all result
words_read pieces words result some same reads =
    let rest = map held (drop 8 pieces) in
    let all = words ++ rest in
    let is : map (λ text. text.now) all ≡ pieces =
    map-append (λ text. text.now) words rest ∙ ap (λ l. l ++ map (λ text. text.now) rest) same
    ∙ ap (λ l. take 8 pieces ++ l) (texts_held (drop 8 pieces))
    ∙ take-append-drop 8 pieces in
    let none : list_any (λ text. length text.now == 0) all ≡ false =
    any_empty all ∙ ap (list_any (λ text. length text == 0)) is ∙ some in (
      all,
      is,
      unless (list_any (λ text. length text.now == 0) all) (result ≡ Err BadArgument) (ReadsNamed all result)
          none (read_more words rest result (full (drop 8 pieces) refl) reads),
    )
  where
    full : (left : List (List ℕ)) → drop 8 pieces ≡ left → map held (drop 8 pieces) ≢ [] → length words ≡ 8
    full [] none more = absurd (more (ap (map held) none))
    full (text ∷ left) none more =
        omega (
          arith,
          length-drop 8 pieces,
          ap length none,
          length-take 8 pieces,
          ap length same,
          length-map words (λ text. text.now),
        )

    unless : (b : Bool) (P Q : Type 0) → b ≡ false → Q → MatchBool b P Q
    unless true P Q same q = absurd (cc)
    unless false P Q same q = q

pub line_read : (line : List ℕ) (words : Words) (result : Result (Option Order) FaultKind) → is_silent line ≡ false
    → list_any (λ text. length text == 0) (slice_split (λ byte. byte == 32) line) ≡ false
    → map (λ text. text.now) words ≡ take 8 (slice_split (λ byte. byte == 32) line) → ReadsNamed words result
    → ReadsLine line result
line_read line words result loud some same reads =
    let read = words_read (slice_split (λ byte. byte == 32) line) words result some same reads in
    subst (λ b. MatchBool b (result ≡ Ok None) ((all : Words)
    × (map (λ text. text.now) all ≡ slice_split (λ byte. byte == 32) line) × ReadsWords all result)) (sym loud) read

-- one that has an empty word is read as bad arguments
pub gap_read : (line : List ℕ) → is_silent line ≡ false
    → list_any (λ text. length text == 0) (slice_split (λ byte. byte == 32) line) ≡ true
    → ReadsLine line (Err BadArgument)
gap_read line loud some =
    let pieces = slice_split (λ byte. byte == 32) line in
    let result : Result (Option Order) FaultKind = Err BadArgument in
    let all = map held pieces in
    let is = texts_held pieces in
    let empty : list_any (λ text. length text.now == 0) all ≡ true =
    any_empty all ∙ ap (list_any (λ text. length text == 0)) is ∙ some in
    let read : ReadsWords all result =
    subst (λ b. MatchBool b (result ≡ Err BadArgument) (ReadsNamed all result)) (sym empty) refl in
    subst (λ b. MatchBool b (result ≡ Ok None) ((words : Words) × (map (λ text. text.now) words ≡ pieces)
    × ReadsWords words result)) (sym loud) (all, is, read)

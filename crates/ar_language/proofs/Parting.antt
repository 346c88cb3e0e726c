-- A line and the bytes that it is read from.
use Rattle.std.proofs.Common.{◌≡◌, ◌≢◌, ◌∙◌, ◌+◌, ◌-◌, ◌<◌, ◌≤◌, ◌&&◌, ◌++◌, ℕ, zero, suc, Bool, true, false, not, cond}
use Rattle.std.proofs.Common.{eqb, ltb, List, [], ◌∷◌, length, take, drop, get_or, Option, Some, None, is_some, Bor}
use Rattle.std.proofs.Common.{refl, sym, ap, subst, append_assoc, append-nil, length-append, length-take-le}
use Rattle.std.proofs.Common.{take-append-drop, ne_eqb, eq-eqb, arith}
use Rattle.std.specs.Prelude.{IfSome}
use Rattle.std.proofs.lemmas.List.{take-append-le, take_all, take_more, drop_all}
use Rattle.std.proofs.lemmas.List.Elements.{All-head, All-tail, All-append}
use Rattle.std.proofs.lemmas.List.Folds.{list_all-append}
use Rattle.std.proofs.lemmas.List.Sums.{AllPass-from_list_all, prefix_len_stops, prefix_len-le-length}
use Rattle.std.proofs.lemmas.Bool.{ltb-true, ltb-false, lt-ltb}
use Rattle.std.specs.Option.{option_copied}
use Rattle.bytes.proofs.Ranges.{take-append_past}
use Rattle.std.specs.List.{list_all, position_or_len, prefix_len}
use Rattle.ar_language.specs.declared.fault.FaultKind.{FaultKind}
use Rattle.ar_language.specs.declared.fault.FaultKind.TheVariants.{LineTooLong, BadCharacter}
use Rattle.ar_language.specs.Lines.{with_byte, lines_in, first_of, HasNoEnd, IsPart, is_printable, IsLine, part_fault}
use Rattle.ar_language.specs.Lines.{line_fault, IsFaultFrom, is_bad_next, with_bad}

-- ---- a line is before its end

test : (x : ℕ) → x ≢ 10 → eqb x 10 ≡ false
test x apart = ne_eqb x 10 apart

pub lines_in-ended : (line rest : List ℕ) → HasNoEnd line → lines_in (line ++ 10 ∷ rest) ≡ line ∷ lines_in rest
lines_in-ended [] rest none = refl
lines_in-ended (x ∷ xs) rest none =
    let more = lines_in (xs ++ 10 ∷ rest) in
    ap (λ b. cond b ([] ∷ more) (with_byte x more)) (test x (All-head (λ byte. byte ≢ 10) x xs none))
    ∙ ap (with_byte x) (lines_in-ended xs rest (All-tail (λ byte. byte ≢ 10) x xs none))

pub lines_in-last : (x : ℕ) (xs : List ℕ) → HasNoEnd (x ∷ xs) → lines_in (x ∷ xs) ≡ (x ∷ xs) ∷ []
lines_in-last x [] none = ap (λ b. cond b ([] ∷ []) (with_byte x [])) (test x (All-head (λ byte. byte ≢ 10) x [] none))
lines_in-last x (y ∷ ys) none =
    let more = lines_in (y ∷ ys) in
    ap (λ b. cond b ([] ∷ more) (with_byte x more)) (test x (All-head (λ byte. byte ≢ 10) x (y ∷ ys) none))
    ∙ ap (with_byte x) (lines_in-last y ys (All-tail (λ byte. byte ≢ 10) x (y ∷ ys) none))

first_of-with_byte : (x : ℕ) (lines : List (List ℕ)) → first_of (with_byte x lines) ≡ x ∷ first_of lines
first_of-with_byte x [] = refl
first_of-with_byte x (line ∷ lines) = refl

-- what no line end is among is the beginning of the first line
pub first_of-append : (part rest : List ℕ) → HasNoEnd part
    → first_of (lines_in (part ++ rest)) ≡ part ++ first_of (lines_in rest)
first_of-append [] rest none = refl
first_of-append (x ∷ xs) rest none =
    let more = lines_in (xs ++ rest) in
    ap (λ b. first_of (cond b ([] ∷ more) (with_byte x more))) (test x (All-head (λ byte. byte ≢ 10) x xs none))
    ∙ first_of-with_byte x more ∙ ap (λ l. x ∷ l) (first_of-append xs rest (All-tail (λ byte. byte ≢ 10) x xs none))

-- some bytes have a line
pub some_line : (bytes : List ℕ) → bytes ≢ [] → lines_in bytes ≢ []
some_line [] some = absurd (some refl)
some_line (x ∷ xs) some = at (eqb x 10) (lines_in xs)
  where
    at : (b : Bool) (lines : List (List ℕ)) → cond b ([] ∷ lines) (with_byte x lines) ≢ []
    at true lines = λ e. cc
    at false [] = λ e. cc
    at false (line ∷ lines) = λ e. cc

-- printable bytes end no line
printed : (x : ℕ) → is_printable x ≡ true → x ≢ 10
printed x shown = λ e. let no : is_printable 10 ≡ true = subst (λ y. is_printable y ≡ true) e shown in cc

pub printable_has_no_end : (bytes : List ℕ) → list_all is_printable bytes ≡ true → HasNoEnd bytes
printable_has_no_end bytes shown = λ k d within. printed _ (AllPass-from_list_all is_printable bytes shown k d within)

-- ---- a part is what is printable at the front

passed : (bytes : List ℕ) → list_all is_printable (take (prefix_len is_printable bytes) bytes) ≡ true
passed [] = refl
passed (x ∷ xs) = at (is_printable x) refl (passed xs)
  where
    len : ℕ
    len = prefix_len is_printable xs

    at : (shown : Bool) → is_printable x ≡ shown → list_all is_printable (take len xs) ≡ true
        → list_all is_printable (take (cond shown (1 + len) 0) (x ∷ xs)) ≡ true
    at true is more =
        let count : 1 + len ≡ suc len = omega arith in
        ap (λ n. list_all is_printable (take n (x ∷ xs))) count ∙ ap (λ b. b && list_all is_printable (take len xs)) is
        ∙ more
    at false is more = refl

-- the printable characters at the front, and what a look at the place after them finds
pub parted : (bytes : List ℕ) (len : ℕ) (found : Option (Bor ℕ)) → len ≡ prefix_len is_printable bytes
    → is_some found ≡ ltb len (length bytes)
    → IfSome found (λ byte. byte.now ≡ get_or bytes len byte.now) → IsPart bytes (take len bytes) (option_copied found)
parted bytes len None front some same =
    let past = ltb-false _ _ (sym some) in
    (subst (λ n. list_all is_printable (take n bytes) ≡ true) (sym front) (passed bytes), sym (take_all len bytes past))
parted bytes len (Some byte) front some same =
    let inside = ltb-true _ _ (sym some) in
    let within : prefix_len is_printable bytes < length bytes = omega (arith, front, inside) in
    let at : get_or bytes (prefix_len is_printable bytes) byte.now ≡ byte.now =
    ap (λ n. get_or bytes n byte.now) (sym front) ∙ sym same in
    let cut = length-take-le len bytes (omega (arith, inside)) in (
      subst (λ n. list_all is_printable (take n bytes) ≡ true) (sym front) (passed bytes),
      subst (λ x. is_printable x ≡ false) at (prefix_len_stops is_printable bytes byte.now within),
      ap (λ n. take (n + 1) bytes) cut ∙ take_more bytes len byte.now inside
          ∙ ap (λ x. take len bytes ++ x ∷ []) (sym same),
    )

-- ---- what is wrong with a part and the byte after it

not_shown : (part : List ℕ) (next : ℕ) → is_printable next ≡ false → list_all is_printable (part ++ next ∷ []) ≡ false
not_shown part next hidden =
    list_all-append is_printable part (next ∷ []) ∙ last (list_all is_printable part) (is_printable next) hidden
  where
    last : (a b : Bool) → b ≡ false → (a && (b && true)) ≡ false
    last true true h = absurd (cc)
    last true false h = refl
    last false b h = refl

long_part : (room : ℕ) (part behind : List ℕ) → list_all is_printable part ≡ true → room ≤ length part
    → room < length (part ++ behind)
    → part_fault room (part ++ behind) ≡ Some LineTooLong
long_part room part behind shown full over =
    let front = take-append-le room part behind full in
    let split = list_all-append is_printable (take room part) (drop room part) in
    let whole : list_all is_printable (take room part ++ drop room part) ≡ true =
    ap (list_all is_printable) (take-append-drop room part) ∙ shown in
    let first : list_all is_printable (take room part) ≡ true = both _ _ (sym split ∙ whole) in
    ap (λ b. cond b (cond (ltb room (length (part ++ behind))) (Some LineTooLong) None) (Some BadCharacter))
    (ap (list_all is_printable) front ∙ first)
    ∙ ap (λ b. cond b (Some LineTooLong) None) (lt-ltb _ _ over)
  where
    both : (a b : Bool) → (a && b) ≡ true → a ≡ true
    both true b h = refl
    both false b h = absurd (cc)

-- a bad character is reported while it has room, and else that the line is too long
pub bad_part : (room : ℕ) (part : List ℕ) (next : Option ℕ) → list_all is_printable part ≡ true
    → IfSome next (λ byte. is_printable byte ≡ false)
    → is_bad_next next ≡ true → part_fault room (with_bad part next)
    ≡ Some (cond (ltb (length part) room) BadCharacter LineTooLong)
bad_part room part None shown hidden bad = absurd (cc)
bad_part room part (Some next) shown hidden bad = known (eqb next 10) bad
  where
    all : List ℕ
    all = part ++ next ∷ []

    reported : (short : Bool) → ltb (length part) room ≡ short
        → part_fault room all ≡ Some (cond short BadCharacter LineTooLong)
    reported true is =
        let fits = ltb-true _ _ is in
        let whole : take room all ≡ all = take_all room all (omega (arith, length-append part (next ∷ []))) in
        ap (λ b. cond b (cond (ltb room (length all)) (Some LineTooLong) None) (Some BadCharacter))
        (ap (list_all is_printable) whole ∙ not_shown part next hidden)
    reported false is =
        let full = ltb-false _ _ is in
        long_part room part (next ∷ []) shown full (omega (arith, length-append part (next ∷ [])))

    known : (ends : Bool) → not ends ≡ true → part_fault room (cond ends part all)
        ≡ Some (cond (ltb (length part) room) BadCharacter LineTooLong)
    known true h = absurd (cc)
    known false h = reported (ltb (length part) room) refl

-- where there is none, the length is reported
pub too_long : (room : ℕ) (part : List ℕ) (next : Option ℕ) → list_all is_printable part ≡ true
    → is_bad_next next ≡ false → room < length part
    → part_fault room (with_bad part next) ≡ Some LineTooLong
too_long room part next shown good over =
    ap (part_fault room) (plain next good ∙ sym (append-nil part))
    ∙ long_part room part [] shown (omega arith) (omega (arith, length-append part []))
  where
    ended : (ends : Bool) (other : List ℕ) → not ends ≡ false → cond ends part other ≡ part
    ended true other h = refl
    ended false other h = absurd (cc)

    plain : (next : Option ℕ) → is_bad_next next ≡ false → with_bad part next ≡ part
    plain None h = refl
    plain (Some next) h = ended (eqb next 10) _ h

-- how many are printable at the front, where that is what a search for another one finds
abbrev pub is_hidden : ℕ → Bool
is_hidden byte = not (is_printable byte)

pub shown_front : (bytes : List ℕ) → position_or_len is_hidden bytes ≡ prefix_len is_printable bytes
shown_front [] = refl
shown_front (byte ∷ bytes) = at (is_printable byte) ∙ ap (λ n. cond (is_printable byte) (1 + n) 0) (shown_front bytes)
  where
    at : (shown : Bool) → cond (not (not shown)) (1 + position_or_len is_hidden bytes) 0
        ≡ cond shown (1 + position_or_len is_hidden bytes) 0
    at true = refl
    at false = refl

pub hidden_within : (bytes : List ℕ) → position_or_len is_hidden bytes ≤ length bytes
hidden_within bytes = prefix_len-le-length _ bytes

-- ---- a part of a line

-- a part and the end after it leave the rest
pub part_taken : (line buffered part rest : List ℕ) (next : Option ℕ) → IsPart buffered part next
    → IfSome next (λ byte. byte ≡ 10)
    → rest ≡ drop (length part + cond (is_some next) 1 0) buffered
    → line ++ buffered ≡ (line ++ part) ++ cond (is_some next) (10 ∷ rest) []
part_taken line buffered part rest (Some next) parts ends is =
    let after = drop (length part + 1) buffered in
    ap (λ l. line ++ l) (sym (take-append-drop (length part + 1) buffered) ∙ ap (λ l. l ++ after) parts.2
    ∙ ap (λ byte. (part ++ byte ∷ []) ++ after) ends ∙ append_assoc part (10 ∷ []) after)
    ∙ sym (append_assoc line part (10 ∷ after)) ∙ ap (λ l. (line ++ part) ++ 10 ∷ l) (sym is)
part_taken line buffered part rest None parts ends is = ap (λ l. line ++ l) parts.1 ∙ sym (append-nil (line ++ part))

-- and nothing, where no byte is after it
pub part_drained : (buffered part rest : List ℕ) (next : Option ℕ) → IsPart buffered part next
    → rest ≡ drop (length part + cond (is_some next) 1 0) buffered
    → is_some next ≡ false → rest ≡ []
part_drained buffered part rest (Some next) parts is none = absurd (cc)
part_drained buffered part rest None parts is none =
    is ∙ drop_all (length part + 0) buffered (omega (arith, ap length parts.1))

and_false : (a b d : Bool) → (a && b) ≡ false → (b ≡ false → d ≡ false) → (a && d) ≡ false
and_false true b d h more = more h
and_false false b d h more = refl

-- more bytes make no part right
all_false : (p : ℕ → Bool) (n : ℕ) (xs ys : List ℕ) → list_all p (take n xs) ≡ false
    → list_all p (take n (xs ++ ys)) ≡ false
all_false p zero xs ys h = absurd (cc)
all_false p (suc n) [] ys h = absurd (cc)
all_false p (suc n) (x ∷ xs) ys h =
    and_false (p x) (list_all p (take n xs)) (list_all p (take n (xs ++ ys))) h (all_false p n xs ys)

-- what is wrong with a part is wrong with the line
pub fault_of : (line part more : List ℕ) (kind : FaultKind) → IsLine line
    → part_fault (4096 - length line) part ≡ Some kind → line_fault ((line ++ part) ++ more) ≡ Some kind
fault_of line part more kind whole wrong =
    let room = 4096 - length line in
    let few = whole.short in
    let split : take 4096 ((line ++ part) ++ more) ≡ line ++ take room (part ++ more) =
    ap (take 4096) (append_assoc line part more) ∙ take-append_past line (part ++ more) room 4096 (omega arith) in
    let same : list_all is_printable (take 4096 ((line ++ part) ++ more))
    ≡ list_all is_printable (take room (part ++ more)) =
    ap (list_all is_printable) split ∙ list_all-append is_printable line (take room (part ++ more))
    ∙ ap (λ b. b && list_all is_printable (take room (part ++ more))) whole.printable in
    let long = length-append (line ++ part) more in
    let longer = length-append line part in
    at (list_all is_printable (take room part)) (ltb room (length part)) refl refl wrong same
  where
    at : (shown over : Bool) → list_all is_printable (take (4096 - length line) part) ≡ shown
        → ltb (4096 - length line) (length part) ≡ over
        → cond shown (cond over (Some LineTooLong) None) (Some BadCharacter) ≡ Some kind
        → list_all is_printable (take 4096 ((line ++ part) ++ more))
        ≡ list_all is_printable (take (4096 - length line) (part ++ more))
        → line_fault ((line ++ part) ++ more) ≡ Some kind
    at false over is_shown is_over h same =
        ap (λ b. cond b (cond (ltb 4096 (length ((line ++ part) ++ more))) (Some LineTooLong) None) (Some BadCharacter))
        (same ∙ all_false is_printable (4096 - length line) part more is_shown)
        ∙ h
    at true false is_shown is_over h same = absurd (cc)
    at true true is_shown is_over h same =
        let over = ltb-true _ _ is_over in
        let front : take (4096 - length line) (part ++ more) ≡ take (4096 - length line) part =
        take-append-le (4096 - length line) part more (omega arith) in
        let all = same ∙ ap (list_all is_printable) front ∙ is_shown in
        let long : 4096 < length ((line ++ part) ++ more) =
        omega (arith, length-append (line ++ part) more, length-append line part, whole.short) in
        ap (λ b. cond b (cond (ltb 4096 (length ((line ++ part) ++ more))) (Some LineTooLong) None) (Some BadCharacter))
        all
        ∙ ap (λ b. cond b (Some LineTooLong) None) (lt-ltb _ _ long) ∙ h

-- a part that begins these bytes
rest_of : (buffered part : List ℕ) (next : Option ℕ) → IsPart buffered part next
    → (rest : List ℕ) × (buffered ≡ with_bad part next ++ rest)
rest_of buffered part None parts = ([], parts.1 ∙ sym (append-nil part))
rest_of buffered part (Some next) parts = at (eqb next 10)
  where
    after : List ℕ
    after = drop (length part + 1) buffered

    split : buffered ≡ (part ++ next ∷ []) ++ after
    split = sym (take-append-drop (length part + 1) buffered) ∙ ap (λ l. l ++ after) parts.2

    at : (ends : Bool) → (rest : List ℕ) × (buffered ≡ cond ends part (part ++ next ∷ []) ++ rest)
    at true = (next ∷ after, split ∙ append_assoc part (next ∷ []) after)
    at false = (after, split)

no_end : (buffered part : List ℕ) (next : Option ℕ) → IsPart buffered part next → HasNoEnd (with_bad part next)
no_end buffered part None parts = printable_has_no_end part parts.0
no_end buffered part (Some next) parts = at (eqb next 10) refl
  where
    one : next ≢ 10 → HasNoEnd (next ∷ [])
    one apart zero d within = apart
    one apart (suc k) d within = absurd (omega arith)

    at : (ends : Bool) → eqb next 10 ≡ ends → HasNoEnd (cond ends part (part ++ next ∷ []))
    at true is = printable_has_no_end part parts.0
    at false is =
        All-append (λ byte. byte ≢ 10) part (next ∷ []) (printable_has_no_end part parts.0)
        (one (λ e. let same : eqb next 10 ≡ true = eq-eqb next 10 e in cc))

-- what is wrong with a part is wrong with the line that begins so
pub fault_from : (line buffered part : List ℕ) (next : Option ℕ) (kind : FaultKind) → IsPart buffered part next
    → IsLine line
    → part_fault (4096 - length line) (with_bad part next) ≡ Some kind → IsFaultFrom (line ++ buffered) kind
fault_from line buffered part next kind parts whole wrong = λ behind.
    let known = with_bad part next in
    let rest = (rest_of buffered part next parts).0 in
    let split : (line ++ buffered) ++ behind ≡ (line ++ known) ++ (rest ++ behind) =
    ap (λ l. (line ++ l) ++ behind) (rest_of buffered part next parts).1
    ∙ ap (λ l. l ++ behind) (sym (append_assoc line known rest)) ∙ append_assoc (line ++ known) rest behind in
    let none = All-append (λ byte. byte ≢ 10) line known (printable_has_no_end line whole.printable)
    (no_end buffered part next parts) in
    ap (λ l. line_fault (first_of (lines_in l))) split
    ∙ ap line_fault (first_of-append (line ++ known) (rest ++ behind) none)
    ∙ fault_of line known (first_of (lines_in (rest ++ behind))) kind whole wrong

-- No order has more than two arguments, so that those after the seventh count for nothing.
use Rattle.std.proofs.Common.{◌≡◌, ◌∙◌, ◌<◌, ◌≤◌, ◌==◌, ℕ, Bool, true, false, List, [], ◌∷◌, length, take, codes}
use Rattle.std.proofs.Common.{bytes_eq, Option, Some, None, Result, Ok, Err, MatchBool, inl, inr, refl, sym, ap}
use Rattle.std.proofs.Common.{arith, ltb, map, subst}
use Rattle.std.proofs.lemmas.List.{take_all, length-take}
use Rattle.std.proofs.lemmas.Bool.{ltb-true, ltb-false}
use Rattle.std.specs.List.{list_any, slice_split}
use Rattle.ar_language.specs.Forms.{Words, is_silent, value}
use Rattle.ar_conversation.specs.declared.order.LineFault.{LineFault}
use Rattle.ar_conversation.specs.declared.order.OperatorOrder.{OperatorOrder}
use Rattle.ar_conversation.specs.declared.order.OperatorOrder.TheVariants.{Fail}
use Rattle.ar_conversation.specs.Orders.{AsksEnd, HasEnd, HasForce, HasFuse, HasHost, HasSession, IsFuse, AsksFuse}
use Rattle.ar_conversation.specs.Orders.{argument, ReadsArguments, ReadsAlone}
use Rattle.ar_conversation.specs.Orders.{ReadsOperatorWord, ReadsReportWord}
use Rattle.ar_conversation.specs.Orders.{ReadsOperatorWords, ReadsOperatorLine, ReadsFirstWord, ReadsOut, text_of}

-- a name that is this text is read as it
pub named : (line name text : List ℕ) (arguments : List (List ℕ)) (r : Result (Option OperatorOrder) LineFault)
    → name ≡ text → ReadsOperatorWord line text arguments r → ReadsOperatorWord line name arguments r
named line name text arguments r same reads = subst (λ n. ReadsOperatorWord line n arguments r) (sym same) reads

-- the words of a fuse, where it is given or not
pub fused : (arguments : List (List ℕ)) (disk : ℕ) (accesses : Option ℕ) → HasFuse arguments
    → IsFuse arguments (disk, accesses)
    → ReadsArguments (HasFuse arguments) (AsksFuse arguments) (Ok (Some (Fail disk accesses)))
fused arguments disk accesses has is =
    (has, ap (λ d. Fail d accesses) is.0 ∙ ap (λ a. Fail (value (argument arguments 0)) a) is.1)

unless : (b : Bool) (P Q : Type 0) → b ≡ false → Q → MatchBool b P Q
unless true P Q is q = absurd (cc)
unless false P Q is q = q

row : (b : Bool) (P Q R S : Type 0) → (P → Q) → (R → S) → MatchBool b P R → MatchBool b Q S
row true P Q R S first other h = first h
row false P Q R S first other h = other h

-- arguments of neither form are answered alike
alike : (F G : Type 0) (A B : OperatorOrder → Type 0) (r : Result (Option OperatorOrder) LineFault) → (¬ F) → (¬ G)
    → ReadsArguments F A r → ReadsArguments G B r
alike F G A B (Ok None) not_f not_g h = absurd h
alike F G A B (Ok (Some order)) not_f not_g h = absurd (not_f h.0)
alike F G A B (Err fault) not_f not_g h = (h.0, not_g)

module _ (line name : List ℕ) (xs ys : List (List ℕ)) (r : Result (Option OperatorOrder) LineFault)
    (some : 3 ≤ length xs) (more : 3 ≤ length ys) where
  no_fuse : (l : List (List ℕ)) → 3 ≤ length l → ¬ HasFuse l
  no_fuse l many = λ has. let count = has.count in absurd (omega arith)

  no_host : (l : List (List ℕ)) → 3 ≤ length l → ¬ HasHost l
  no_host l many = λ has. let count = has.count in absurd (omega arith)

  no_session : (l : List (List ℕ)) → 3 ≤ length l → ¬ HasSession l
  no_session l many = λ has. let count = has.count in absurd (omega arith)

  no_end : (l : List (List ℕ)) → 3 ≤ length l → ¬ HasEnd l
  no_end l many (inl has) = no_host l many has
  no_end l many (inr has) = no_session l many has

  no_force : (l : List (List ℕ)) → 3 ≤ length l → ¬ HasForce l
  no_force l many = λ has. let count = has.count in absurd (omega arith)

  no_alone : (l : List (List ℕ)) → 3 ≤ length l → ¬ (length l ≡ 0)
  no_alone l many = λ none. absurd (omega arith)

  alone : (order : OperatorOrder) → ReadsAlone xs order r → ReadsAlone ys order r
  alone order =
      alike (length xs ≡ 0) (length ys ≡ 0) (λ given. given ≡ order) (λ given. given ≡ order) r (no_alone xs some)
      (no_alone ys more)

  fuse : ReadsArguments (HasFuse xs) (AsksFuse xs) r → ReadsArguments (HasFuse ys) (AsksFuse ys) r
  fuse = alike (HasFuse xs) (HasFuse ys) (AsksFuse xs) (AsksFuse ys) r (no_fuse xs some) (no_fuse ys more)

  ended : ReadsArguments (HasEnd xs) (AsksEnd xs) r → ReadsArguments (HasEnd ys) (AsksEnd ys) r
  ended = alike (HasEnd xs) (HasEnd ys) (AsksEnd xs) (AsksEnd ys) r (no_end xs some) (no_end ys more)

  out : ReadsOut line xs r → ReadsOut line ys r
  out reads = record {
    forced = λ has. absurd (no_force ys more has);
    shared = λ _. reads.shared (no_force xs some);
  }

  report_word : ReadsReportWord line name xs r → ReadsReportWord line name ys r
  report_word =
      row (bytes_eq name (codes "sessions")) _ _ _ _ (alone _) (row (bytes_eq name (codes "usage")) _ _ _ _ (alone _)
      (row (bytes_eq name (codes "units")) _ _ _ _ (alone _) (row (bytes_eq name (codes "disks")) _ _ _ _ (alone _)
      (row (bytes_eq name (codes "version")) _ _ _ _ (alone _) (λ shared. shared)))))

  any_word : ReadsOperatorWord line name xs r → ReadsOperatorWord line name ys r
  any_word =
      row (bytes_eq name (codes "counts")) _ _ _ _ (alone _) (row (bytes_eq name (codes "out")) _ _ _ _ out
      (row (bytes_eq name (codes "fail")) _ _ _ _ fuse (row (bytes_eq name (codes "end")) _ _ _ _ ended
      (row (bytes_eq name (codes "help")) _ _ _ _ (alone _)
      (row (bytes_eq name (codes "stop")) _ _ _ _ (alone _) report_word)))))

-- the first seven arguments decide
by_first : (line name : List ℕ) (arguments : List (List ℕ)) (r : Result (Option OperatorOrder) LineFault)
    → ReadsOperatorWord line name (take 7 arguments) r → ReadsOperatorWord line name arguments r
by_first line name arguments r reads = at (ltb 7 (length arguments)) refl
  where
    at : (many : Bool) → ltb 7 (length arguments) ≡ many → ReadsOperatorWord line name arguments r
    at false is =
        subst (λ l. ReadsOperatorWord line name l r) (take_all 7 arguments (ltb-false 7 (length arguments) is)) reads
    at true is =
        let many : 7 < length arguments = ltb-true 7 (length arguments) is in
        any_word line name (take 7 arguments) arguments r (omega (arith, length-take 7 arguments)) (omega arith) reads

-- the words of a line, of which the first were looked at
words_cut : (line name : List ℕ) (arguments pieces : List (List ℕ)) (r : Result (Option OperatorOrder) LineFault)
    → list_any (λ word. length word == 0) pieces ≡ false → name ∷ arguments ≡ take 8 pieces
    → ReadsOperatorWord line name arguments r → ReadsOperatorWords line pieces r
words_cut line name arguments [] r none same reads = absurd (cc)
words_cut line name arguments (piece ∷ pieces) r none same reads =
    let first : name ≡ piece = cc in
    let rest : arguments ≡ take 7 pieces = cc in
    let here = subst (λ n. ReadsOperatorWord line n arguments r) first reads in
    let cut = subst (λ l. ReadsOperatorWord line piece l r) rest here in
    unless _ _ _ none (by_first line piece pieces r cut)

-- a line without a word
words_none : (line : List ℕ) (pieces : List (List ℕ)) (r : Result (Option OperatorOrder) LineFault) → [] ≡ take 8 pieces
    → r ≡ Ok None
    → ReadsOperatorWords line pieces r
words_none line [] r same is = is
words_none line (piece ∷ pieces) r same is = absurd (cc)

-- a line that asks for something is read by its first words
pub line_read : (line : List ℕ) (words : Words) (r : Result (Option OperatorOrder) LineFault) → is_silent line ≡ false
    → list_any (λ word. length word == 0) (slice_split (λ byte. byte == 32) line) ≡ false
    → map text_of words ≡ take 8 (slice_split (λ byte. byte == 32) line) → ReadsFirstWord line words r
    → ReadsOperatorLine line r
line_read line [] r loud none same reads =
    unless _ _ _ loud (words_none line (slice_split (λ byte. byte == 32) line) r same reads)
line_read line (name ∷ words) r loud none same reads =
    unless _ _ _ loud
    (words_cut line name.now (map text_of words) (slice_split (λ byte. byte == 32) line) r none same reads)

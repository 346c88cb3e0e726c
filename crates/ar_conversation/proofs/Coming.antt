-- A line, as its bytes come.
use Rattle.std.proofs.Common.{◌≡◌, ◌≢◌, ◌∙◌, ◌+◌, ◌-◌, ◌<◌, ◌&&◌, ◌++◌, ℕ, zero, suc, Bool, true, false, cond, ltb}
use Rattle.std.proofs.Common.{List, [], ◌∷◌, length, Option, Some, None, is_some, refl, sym, ap, subst, append-nil}
use Rattle.std.proofs.Common.{length-append, arith}
use Rattle.std.proofs.lemmas.List.{take_all}
use Rattle.std.proofs.lemmas.List.Elements.{All-append}
use Rattle.std.proofs.lemmas.List.Folds.{list_all-append}
use Rattle.std.specs.List.{list_all}
use Rattle.std.specs.Io.KnownBytes.{Consumes, IsAtEnd, prepend_known}
use Rattle.std.proofs.KnownBytes.{prepend_known-nil}
use Rattle.ar_frames.specs.Stream.{SourceState, Reading}
use Rattle.ar_frames.proofs.Streams.{Reading-none, Reading-trans, Reading-same}
use Rattle.ar_language.specs.Lines.{HasNoEnd, IsLine, is_printable, line_fault, part_fault}
use Rattle.ar_language.specs.declared.fault.FaultKind.{FaultKind}
use Rattle.ar_language.specs.declared.fault.FaultKind.TheVariants.{LineTooLong, BadCharacter}
use Rattle.ar_language.proofs.Parting.{fault_of}
use Rattle.ar_language.proofs.Going.{sound_line}
use Rattle.ar_conversation.specs.declared.input.Next.TheVariants.{Byte, End, Fault}
use Rattle.ar_conversation.specs.Lines.{seen_behind, ByteIsRead, EndsInLine, TakesPart, KeepsLine, LineIsRead}
use Rattle.ar_conversation.specs.Lines.{LineSoFar}

-- ---- what is kept of a line

no_byte : IsLine []
no_byte = record { short = omega arith; printable = refl }

pub tells_none : KeepsLine [] [] None
tells_none = record { fault_is = refl; text_is = λ _. refl }

-- a fault stays, whatever follows
pub tells_fault : (line text : List ℕ) (kind : FaultKind) (byte : ℕ) → KeepsLine line text (Some kind)
    → KeepsLine (line ++ byte ∷ []) text (Some kind)
tells_fault line text kind byte tells = record {
  fault_is = fault_of [] line (byte ∷ []) kind no_byte tells.fault_is;
  text_is = λ none. absurd (cc);
}

-- what is wrong with a byte after a sound text
wrong_next : (line text : List ℕ) (kind : FaultKind) (byte : ℕ) → IsLine text → KeepsLine line text None
    → part_fault (4096 - length text) (byte ∷ []) ≡ Some kind → KeepsLine (line ++ byte ∷ []) text (Some kind)
wrong_next line text kind byte whole tells wrong = record {
  fault_is =
      ap (λ l. line_fault (l ++ byte ∷ [])) (sym (tells.text_is refl))
      ∙ ap line_fault (sym (append-nil (text ++ byte ∷ [])))
      ∙ fault_of text (byte ∷ []) [] kind whole wrong;
  text_is = λ none. absurd (cc);
}

pub tells_long : (line text : List ℕ) (byte : ℕ) → IsLine text → length text ≡ 4096 → KeepsLine line text None
    → KeepsLine (line ++ byte ∷ []) text (Some LineTooLong)
tells_long line text byte whole full tells =
    wrong_next line text LineTooLong byte whole tells (ap (λ n. part_fault (4096 - n) (byte ∷ [])) full)

pub tells_bad : (line text : List ℕ) (byte : ℕ) → IsLine text → length text < 4096 → is_printable byte ≡ false
    → KeepsLine line text None
    → KeepsLine (line ++ byte ∷ []) text (Some BadCharacter)
tells_bad line text byte whole few bad tells =
    let room = 4096 - length text in
    wrong_next line text BadCharacter byte whole tells
    (ap (λ l. cond (list_all is_printable l) (cond (ltb room 1) (Some LineTooLong) None) (Some BadCharacter))
    (take_all room (byte ∷ []) (omega arith))
    ∙ ap (λ b. cond (b && true) (cond (ltb room 1) (Some LineTooLong) None) (Some BadCharacter)) bad)

pub longer : (text : List ℕ) (byte : ℕ) → IsLine text → length text < 4096 → is_printable byte ≡ true
    → IsLine (text ++ byte ∷ [])
longer text byte whole few shown = record {
  short = omega (arith, length-append text (byte ∷ []));
  printable =
      list_all-append is_printable text (byte ∷ []) ∙ ap (λ b. b && list_all is_printable (byte ∷ [])) whole.printable
      ∙ ap (λ b. b && true) shown;
}

pub tells_more : (line text : List ℕ) (byte : ℕ) → IsLine text → length text < 4096 → is_printable byte ≡ true
    → KeepsLine line text None
    → KeepsLine (line ++ byte ∷ []) (text ++ byte ∷ []) None
tells_more line text byte whole few shown tells =
    let same = tells.text_is refl in
    record {
      fault_is = ap (λ l. line_fault (l ++ byte ∷ [])) (sym same)
          ∙ sound_line (text ++ byte ∷ []) (longer text byte whole few shown);
      text_is = λ _. ap (λ l. l ++ byte ∷ []) same;
    }

-- the same, as `Line::take` finds them

no_fault : (fault : Option FaultKind) → is_some fault ≡ false → fault ≡ None
no_fault None is = refl
no_fault (Some kind) is = absurd (cc)

pub keeps_fault : (text : List ℕ) (fault : Option FaultKind) (byte : ℕ) → is_some fault ≡ true → (line : List ℕ)
    → KeepsLine line text fault
    → KeepsLine (line ++ byte ∷ []) text fault
keeps_fault text None byte is line tells = absurd (cc)
keeps_fault text (Some kind) byte is line tells = tells_fault line text kind byte tells

pub keeps_long : (text : List ℕ) (fault : Option FaultKind) (byte : ℕ) → is_some fault ≡ false → IsLine text
    → length text ≡ 4096
    → (line : List ℕ) → KeepsLine line text fault → KeepsLine (line ++ byte ∷ []) text (Some LineTooLong)
keeps_long text fault byte is whole full line tells =
    tells_long line text byte whole full (subst (λ f. KeepsLine line text f) (no_fault fault is) tells)

pub keeps_bad : (text : List ℕ) (fault : Option FaultKind) (byte : ℕ) → is_some fault ≡ false → IsLine text
    → length text ≢ 4096
    → is_printable byte ≡ false → (line : List ℕ) → KeepsLine line text fault
    → KeepsLine (line ++ byte ∷ []) text (Some BadCharacter)
keeps_bad text fault byte is whole apart bad line tells =
    tells_bad line text byte whole (omega (arith, whole.short)) bad
    (subst (λ f. KeepsLine line text f) (no_fault fault is) tells)

pub keeps_more : (text text' : List ℕ) (fault : Option FaultKind) (byte : ℕ) → is_some fault ≡ false → IsLine text
    → length text ≢ 4096
    → is_printable byte ≡ true → text' ≡ text ++ byte ∷ [] → (line : List ℕ) → KeepsLine line text fault
    → KeepsLine (line ++ byte ∷ []) text' fault
keeps_more text text' fault byte is whole apart shown more line tells =
    let none = no_fault fault is in
    subst (λ f. KeepsLine (line ++ byte ∷ []) text' f) (sym none)
    (subst (λ t. KeepsLine (line ++ byte ∷ []) t None) (sym more)
    (tells_more line text byte whole (omega (arith, whole.short)) shown
    (subst (λ f. KeepsLine line text f) none tells)))

-- ---- the bytes of a line

one_byte : (byte : ℕ) → byte ≢ 10 → HasNoEnd (byte ∷ [])
one_byte byte apart zero d within = apart
one_byte byte apart (suc k) d within = absurd (omega arith)

pub so_far_none : (s : SourceState) (text : List ℕ) (fault : Option FaultKind) → KeepsLine [] text fault
    → LineSoFar s text fault 0 s
so_far_none s text fault tells = record {
  line = [];
  one = λ k d within. absurd (omega arith);
  count_is = refl;
  read = Reading-none s;
  tells = tells;
}

module _ (old mid new : SourceState) (text : List ℕ) (fault : Option FaultKind) (count : ℕ)
    (so_far : LineSoFar old text fault count mid) where
  pub so_far_more : (byte : ℕ) (text' : List ℕ) (fault' : Option FaultKind) → ByteIsRead mid (Byte byte) new → byte ≢ 10
      → ((line : List ℕ) → KeepsLine line text fault → KeepsLine (line ++ byte ∷ []) text' fault')
      → LineSoFar old text' fault' (count + 1) new
  so_far_more byte text' fault' next apart keeps = record {
    line = so_far.line ++ byte ∷ [];
    one = All-append (λ b. b ≢ 10) so_far.line (byte ∷ []) so_far.one (one_byte byte apart);
    count_is = omega (arith, length-append so_far.line (byte ∷ []), so_far.count_is);
    read = Reading-trans old mid new so_far.line (byte ∷ []) false so_far.read next;
    tells = keeps so_far.line so_far.tells;
  }

  -- the line has its LF
  pub comes_whole : ByteIsRead mid (Byte 10) new → LineIsRead old text fault new
  comes_whole next = record {
    line = so_far.line;
    takes = record
        { one = so_far.one; read = Reading-trans old mid new so_far.line (10 ∷ []) false so_far.read next };
    tells = so_far.tells;
  }

  pub line_ended : (byte : ℕ) → byte ≡ 10 → ByteIsRead mid (Byte byte) new → LineIsRead old text fault new
  line_ended byte is next = comes_whole (subst (λ b. ByteIsRead mid (Byte b) new) is next)

  -- the input ends in the line
  pub comes_part : 0 < count → ByteIsRead mid End new → EndsInLine old new
  comes_part some next = record {
    part = so_far.line;
    one = so_far.one;
    some = λ none. absurd (let nothing = ap length none in let many = so_far.count_is in omega arith);
    read = Reading-same old new (so_far.line ++ []) so_far.line false (append-nil so_far.line)
        (Reading-trans old mid new so_far.line [] false so_far.read next.0);
    ends = next.1;
  }

  -- there is no line
  pub comes_none : count ≡ 0 → ByteIsRead mid End new → Reading old new [] false × IsAtEnd new.left
  comes_none none next = (
    Reading-same old new (so_far.line ++ []) [] false (append-nil so_far.line
        ∙ empty so_far.line (so_far.count_is ∙ none))
        (Reading-trans old mid new so_far.line [] false so_far.read next.0),
    next.1,
  )
    where
      empty : (line : List ℕ) → length line ≡ 0 → line ≡ []
      empty [] is = refl
      empty (x ∷ xs) is = absurd (omega arith)

  pub comes_cut : ByteIsRead mid Fault new → TakesPart old new true
  comes_cut next = record {
    part = so_far.line;
    one = so_far.one;
    read = Reading-same old new (so_far.line ++ []) so_far.line true (append-nil so_far.line)
        (Reading-trans old mid new so_far.line [] true so_far.read next);
  }

pub comes_endless : (old new : SourceState) (text : List ℕ) (fault : Option FaultKind) (count : ℕ)
    → LineSoFar old text fault count new → TakesPart old new false
comes_endless old new text fault count so_far = record { part = so_far.line; one = so_far.one; read = so_far.read }

-- ---- a piece of a stream

-- a byte is taken of the piece
consumes_one : (a : Option (List ℕ)) (byte : ℕ) (rest : List ℕ)
    → Consumes (prepend_known (byte ∷ rest) a) (prepend_known rest a) (byte ∷ [])
consumes_one None byte rest = tt
consumes_one (Some xs) byte rest = refl

pub piece_taken : (s : SourceState) (byte : ℕ) (rest : List ℕ)
    → Reading (seen_behind (byte ∷ rest) s) (seen_behind rest s) (byte ∷ []) false
piece_taken s byte rest = record { given = consumes_one s.left byte rest; faults = refl }

-- bytes are read into an empty piece
consumes_ahead : (a b : Option (List ℕ)) (piece : List ℕ) → Consumes a b piece
    → Consumes (prepend_known [] a) (prepend_known piece b) []
consumes_ahead None b piece is = tt
consumes_ahead (Some xs) None piece is = absurd is
consumes_ahead (Some xs) (Some ys) piece is = is

pub piece_read : (s s' : SourceState) (piece : List ℕ) (faulted : Bool) → Reading s s' piece faulted
    → Reading (seen_behind [] s) (seen_behind piece s') [] faulted
piece_read s s' piece faulted is = record { given = consumes_ahead s.left s'.left piece is.given; faults = is.faults }

-- an empty piece at the end
pub piece_end : (a : Option (List ℕ)) → IsAtEnd a → IsAtEnd (prepend_known [] a)
piece_end None is = tt
piece_end (Some xs) is = is

pub piece_empty : (s : SourceState) → seen_behind [] s ≡ s
piece_empty s =
    let f : Option (List ℕ) → SourceState =
    λ left. record { left = left; faults = s.faults } in ap f (prepend_known-nil s.left)

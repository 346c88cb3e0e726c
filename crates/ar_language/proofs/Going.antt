-- The next line, from what was read to what a reader has left.
use Rattle.std.proofs.Common.{◌≡◌, ◌≢◌, ◌∙◌, ◌++◌, ◌+◌, ◌≤◌, ◌⊎◌, add-zero, ℕ, take, length, nat_lt, Result, Ok, Err}
use Rattle.std.proofs.Common.{IfErr, arith, Bool, true, false, not, cond, List, [], ◌∷◌, ◌&&◌, Option, Some, None}
use Rattle.std.proofs.Common.{option_map, IsSome, ◌==◌, eqb-true, refl, sym, ap, subst, inl, inr, append_assoc}
use Rattle.std.proofs.Common.{append-nil, length-append}
use Rattle.std.proofs.lemmas.Bool.{le-ltb}
use Rattle.std.proofs.lemmas.List.{take_all}
use Rattle.std.proofs.lemmas.List.Folds.{list_all-append}
use Rattle.std.proofs.lemmas.List.Quantifiers.{position-Some}
use Rattle.std.specs.List.{list_all, position}
use Rattle.std.specs.Io.Buffered.{reader_buffer, reader_capacity, reader_inner}
use Rattle.std.specs.Io.KnownBytes.{prepend_known}
use Rattle.std.specs.declared.io.traits.Read.{Ghosts}
use Rattle.ar_language.specs.declared.fault.FaultKind.{FaultKind}
use Rattle.ar_language.specs.declared.fault.FaultKind.TheVariants.{LineTooLong, TooManyLines, BadCharacter, ReadFault}
use Rattle.ar_language.specs.declared.fault.FaultKind.TheVariants.{WriteFault}
use Rattle.ar_language.specs.declared.fault.Fault.{Fault}
use Rattle.ar_language.specs.declared.fault.Fault.TheVariants.{Start, Line}
use Rattle.ar_language.specs.declared.lines.Lines.{Lines}
use Rattle.ar_language.specs.Lines.{lines_in, lines_of, first_of, front_of, line_fault, bytes_left, Took, HasNoEnd}
use Rattle.ar_language.specs.Lines.{is_printable, IsLine, IsFirst, IsLacking, IsAllTaken, AreThere, IsFaultFrom}
use Rattle.ar_language.specs.Lines.{IsUnasked, IsReportedOfFirst, IsReportedOfNext, IsNextLineFault, is_given}
use Rattle.ar_language.specs.Lines.{IsReached}
use Rattle.ar_language.specs.Lines.{IsNumbered, IsOfNext}
use Rattle.ar_language.specs.Left.{bytes_read, lines_begun, lines_left, IsBegunByByte, IsSettled, HasFault}
use Rattle.ar_language.specs.Left.{IsLineRefused, GoesOn}
use Rattle.ar_language.proofs.Parting.{lines_in-ended, lines_in-last, some_line, printable_has_no_end}

-- what comes after the bytes that were read: nothing, where the end was met
abbrev behind : Bool → Bool → Option (List ℕ) → Option (List ℕ)
behind at_end true inner = None
behind true false inner = option_map (λ bytes. []) inner
behind false false inner = inner

-- the lines that are left are those of what was read and of what comes after it
left_is : (at_end no_room : Bool) (front buffered : List ℕ) (inner : Option (List ℕ))
    → lines_of (prepend_known front (bytes_left at_end buffered (cond no_room None (prepend_known buffered inner))))
    ≡ lines_of (prepend_known (front ++ buffered) (behind at_end no_room inner))
left_is true true front buffered inner = refl
left_is false true front buffered inner = refl
left_is true false front buffered None = refl
left_is true false front buffered (Some xs) = ap (λ l. Some (lines_in l)) (sym (append-nil (front ++ buffered)))
left_is false false front buffered None = refl
left_is false false front buffered (Some xs) = ap (λ l. Some (lines_in l)) (sym (append_assoc front buffered xs))

abbrev beyond : {R : Type 0} {reads : Ghosts R} → Lines R reads → Option (List ℕ)
beyond {reads = reads} lines =
    behind lines.is_at_end (reader_capacity lines.source == 0) (reads.remaining (reader_inner lines.source))

left_of : {R : Type 0} {reads : Ghosts R} (lines : Lines R reads)
    → lines_left lines ≡ lines_of (prepend_known (bytes_read lines) (beyond lines))
left_of {reads = reads} lines =
    left_is lines.is_at_end (reader_capacity lines.source == 0) _ (reader_buffer lines.source)
    (reads.remaining (reader_inner lines.source))

-- where nothing was asked, the same comes after what was read
beyond_stays : {R : Type 0} {reads : Ghosts R} (old new : Lines R reads) → IsUnasked old.source new.source
    → new.is_at_end ≡ old.is_at_end → beyond new ≡ beyond old
beyond_stays {reads = reads} old new unasked ended =
    ap (λ a. behind a (reader_capacity new.source == 0) (reads.remaining (reader_inner new.source))) ended
    ∙ ap (λ n. behind old.is_at_end (n == 0) (reads.remaining (reader_inner new.source))) unasked.capacity
    ∙ ap (λ r. behind old.is_at_end (reader_capacity old.source == 0) (reads.remaining r)) unasked.inner

-- the first line, where it was read whole
taken_from : (at_end no_room : Bool) (inner : Option (List ℕ)) (read line rest : List ℕ) → IsLine line
    → IsFirst at_end read line rest
    → Took (lines_of (prepend_known read (behind at_end no_room inner)))
    (lines_of (prepend_known rest (behind at_end no_room inner))) (line ∷ [])
taken_from at_end true inner read line rest whole is = tt
taken_from true false None read line rest whole is = tt
taken_from false false None read line rest whole is = tt
taken_from false false (Some more) read line rest whole is = at is
  where
    at : IsFirst false read line rest → lines_in (read ++ more) ≡ line ∷ lines_in (rest ++ more)
    at (inl split) =
        ap (λ l. lines_in (l ++ more)) split ∙ ap lines_in (append_assoc line (10 ∷ rest) more)
        ∙ lines_in-ended line (rest ++ more) (printable_has_no_end line whole.printable)
    at (inr last) = let no = last.0 in absurd (cc)
taken_from true false (Some more) read line rest whole is = at line is whole
  where
    at : (l : List ℕ) → IsFirst true read l rest → IsLine l → lines_in (read ++ []) ≡ l ∷ lines_in (rest ++ [])
    at l (inl split) sound =
        ap (λ bytes. lines_in (bytes ++ [])) split ∙ ap lines_in (append_assoc l (10 ∷ rest) [])
        ∙ lines_in-ended l (rest ++ []) (printable_has_no_end l sound.printable)
    at [] (inr last) sound = absurd (last.2 refl)
    at (x ∷ xs) (inr last) sound =
        ap lines_in (append-nil read ∙ last.1) ∙ lines_in-last x xs (printable_has_no_end (x ∷ xs) sound.printable)
        ∙ ap (λ bytes. (x ∷ xs) ∷ lines_in (bytes ++ [])) (sym last.3)

pub taken_line : {R : Type 0} {reads : Ghosts R} (old new : Lines R reads) → IsUnasked old.source new.source
    → new.is_at_end ≡ old.is_at_end
    → IsFirst old.is_at_end (bytes_read old) new.line.items (bytes_read new)
    → Took (lines_left old) (lines_left new) (new.line.items ∷ [])
taken_line {reads = reads} old new unasked ended is =
    let line = new.line.items in
    let front = taken_from old.is_at_end (reader_capacity old.source == 0) (reads.remaining (reader_inner old.source))
    (bytes_read old) line (bytes_read new) new.whole is in
    let right = left_of new
    ∙ ap (λ b. lines_of (prepend_known (bytes_read new) b)) (beyond_stays old new unasked ended) in
    subst (λ l. Took l (lines_left new) (line ∷ [])) (sym (left_of old))
    (subst (λ l. Took (lines_of (prepend_known (bytes_read old) (beyond old))) l (line ∷ [])) (sym right) front)

-- why the first line isn't given
reported_of : (read : List ℕ) (more : Option (List ℕ)) (kind : FaultKind) → IsFaultFrom read kind
    → IsReportedOfNext (lines_of (prepend_known read more)) kind
reported_of read None kind is = tt
reported_of read (Some xs) kind is = inr (inl (is xs))

reported_more : (read : List ℕ) (more : Option (List ℕ)) → read ≢ []
    → IsReportedOfNext (lines_of (prepend_known read more)) TooManyLines
reported_more read None some = tt
reported_more [] (Some xs) some = absurd (some refl)
reported_more (x ∷ read) (Some xs) some = inr (inr (refl, some_line (x ∷ (read ++ xs)) (λ e. cc)))

pub refused_line : {R : Type 0} {reads : Ghosts R} (lines : Lines R reads) (begun : Bool) (fault : Fault)
    → IsLineRefused lines begun fault → IsNextLineFault (lines_left lines) fault
refused_line lines begun Start is = absurd is
refused_line lines begun (Line n kind) is =
    subst (λ l. IsReportedOfNext l kind) (sym (left_of lines))
    (elim is.1 [
      | inl full ↦ subst (IsReportedOfNext (lines_of (prepend_known (bytes_read lines) (beyond lines)))) (sym full.0)
          (reported_more (bytes_read lines) (beyond lines) full.2)
      | inr wrong ↦ reported_of (bytes_read lines) (beyond lines) kind wrong.0
    ])

-- and where none was taken before
pub stops_later : (old mid : Option (List (List ℕ))) (fault : Fault) → Took old mid [] → IsNextLineFault mid fault
    → IsNextLineFault old fault
stops_later old mid Start kept stops = absurd stops
stops_later None mid (Line n kind) kept stops = tt
stops_later (Some all) None (Line n kind) kept stops = absurd kept
stops_later (Some all) (Some left) (Line n kind) kept stops = subst (λ l. IsReportedOfFirst l kind) (sym kept) stops

pub took_later : (old mid new : Option (List (List ℕ))) (lines : List (List ℕ)) → Took old mid [] → Took mid new lines
    → Took old new lines
took_later None mid new lines kept took = tt
took_later (Some all) None new lines kept took = absurd kept
took_later (Some all) (Some left) None lines kept took = absurd took
took_later (Some all) (Some left) (Some rest) lines kept took = kept ∙ took

-- lines are kept, where what was read is
kept_from : (read new : List ℕ) (more : Option (List ℕ)) → new ≡ read
    → Took (lines_of (prepend_known read more)) (lines_of (prepend_known new more)) []
kept_from read new None same = tt
kept_from read new (Some xs) same = ap (λ l. lines_in (l ++ xs)) (sym same)

pub kept_lines : {R : Type 0} {reads : Ghosts R} (old new : Lines R reads) → IsUnasked old.source new.source
    → new.is_at_end ≡ old.is_at_end
    → bytes_read new ≡ bytes_read old → Took (lines_left old) (lines_left new) []
kept_lines old new unasked ended same =
    let right = left_of new
    ∙ ap (λ b. lines_of (prepend_known (bytes_read new) b)) (beyond_stays old new unasked ended) in
    subst (λ l. Took l (lines_left new) []) (sym (left_of old))
    (subst (λ l. Took (lines_of (prepend_known (bytes_read old) (beyond old))) l []) (sym right)
    (kept_from (bytes_read old) (bytes_read new) (beyond old) same))

-- ---- what the call comes to

-- none is left after the end of the input, where all that was read is given
none_from : (no_room : Bool) (inner : Option (List ℕ))
    → IsAllTaken (lines_of (prepend_known [] (behind true no_room inner)))
none_from true inner = tt
none_from false None = tt
none_from false (Some more) = refl

none_left : {R : Type 0} {reads : Ghosts R} (lines : Lines R reads) → lines.is_at_end ≡ true → bytes_read lines ≡ []
    → IsAllTaken (lines_left lines)
none_left {reads = reads} lines ended none =
    subst IsAllTaken (sym (left_of lines))
    (subst (λ a. IsAllTaken
    (lines_of (prepend_known (bytes_read lines)
    (behind a (reader_capacity lines.source == 0) (reads.remaining (reader_inner lines.source)))))) (sym ended)
    (subst (λ read. IsAllTaken
    (lines_of (prepend_known read
    (behind true (reader_capacity lines.source == 0) (reads.remaining (reader_inner lines.source)))))) (sym none)
    (none_from (reader_capacity lines.source == 0) (reads.remaining (reader_inner lines.source)))))

-- a line was given, or none is left
pub goes_reported : {R : Type 0} {reads : Ghosts R} (old new : Lines R reads) (given : Bool)
    → IsUnasked old.source new.source → new.is_at_end ≡ old.is_at_end
    → (given ≡ true → IsFirst old.is_at_end (bytes_read old) new.line.items (bytes_read new))
    → (not given ≡ true → IsLacking old.is_at_end (bytes_read old))
    → (given ≡ false → bytes_read new ≡ bytes_read old) → new.is_awaited ≡ (not given && not old.is_at_end)
    → new.is_awaited ≡ false
    → new.given ≡ old.given + cond given 1 0 → (given ≡ true → new.is_begun ≡ false) → GoesOn old (Ok given) new
goes_reported old new true unasked ended is lacking kept awaited reported count closed = record {
  taken = λ _. taken_line old new unasked ended (is refl);
  none = λ no. absurd (cc);
  kept = λ no. absurd (cc);
  stops = tt;
  stopped = tt;
  count = count;
  closed = closed;
  ended = λ no. absurd (cc);
  next = tt;
  reached = tt;
  numbered = tt;
}
goes_reported old new false unasked ended is lacking kept awaited reported count closed = record {
  taken = λ no. absurd (cc);
  none = λ _. none_left new over (kept refl ∙ (lacking refl).ended (sym ended ∙ over));
  kept = λ _. kept_lines old new unasked ended (kept refl);
  stops = tt;
  stopped = tt;
  count = count;
  closed = λ no. absurd (cc);
  ended = λ _. over;
  next = tt;
  reached = tt;
  numbered = tt;
}
  where
    over : new.is_at_end ≡ true
    over = ended ∙ at old.is_at_end (sym awaited ∙ reported)
      where
        at : (b : Bool) → not b ≡ false → b ≡ true
        at true none = refl
        at false none = absurd (cc)

-- a fault of a line is its own
fault_in : (shown long : Bool) (kind : FaultKind)
    → cond shown (cond long (Some LineTooLong) None) (Some BadCharacter) ≡ Some kind
    → (kind ≡ LineTooLong) ⊎ (kind ≡ BadCharacter)
fault_in true true kind is = inl (let same = is in cc)
fault_in true false kind is = absurd (cc)
fault_in false long kind is = inr (let same = is in cc)

own_fault : (read : List ℕ) (kind : FaultKind) → IsFaultFrom read kind
    → (kind ≢ ReadFault) × ((kind ≢ WriteFault) × (kind ≢ TooManyLines))
own_fault read kind is =
    let line = first_of (lines_in (read ++ [])) in
    elim (fault_in (list_all is_printable (take 4096 line)) (nat_lt 4096 (length line)) kind (is [])) [
      | inl long ↦ (λ e. cc, (λ e. cc, λ e. cc))
      | inr bad ↦ (λ e. cc, (λ e. cc, λ e. cc))
    ]

-- how a refusal is numbered
reported_at : (given n : ℕ) (begun : Bool) (kind : FaultKind) → given + cond begun 1 0 ≤ 1000000 → n ≡ given + 1
    → ((kind ≡ TooManyLines) × ((given ≡ 1000000) × (begun ≡ false))) ⊎ ((kind ≢ TooManyLines) × (begun ≡ true))
    → IsReached (given + cond begun 1 0) (Line n kind) × IsNumbered (Line n kind)
reported_at given n true kind few is (inl full) = absurd (let no = full.1.1 in cc)
reported_at given n true kind few is (inr wrong) =
    (inl is, (omega arith, omega arith, λ many. absurd (wrong.0 many), λ over. absurd (omega arith)))
reported_at given n false kind few is (inl full) =
    let many = full.1.0 in
    (inr (omega arith, inr (inl full.0)), (omega arith, omega arith, λ _. omega arith, λ _. inl full.0))
reported_at given n false kind few is (inr wrong) = absurd (let no = wrong.1 in cc)

-- a line was refused
pub goes_refused : {R : Type 0} {reads : Ghosts R} (old new : Lines R reads) (fault : Fault)
    (result : Result Bool Fault) → result ≡ Err fault
    → IsUnasked old.source new.source → new.is_at_end ≡ old.is_at_end → bytes_read new ≡ bytes_read old
    → new.given ≡ old.given
    → IsLineRefused old new.is_begun fault → GoesOn old result new
goes_refused old new Start result is unasked ended same count refused = absurd refused
goes_refused old new (Line n kind) result is unasked ended same count refused =
    subst (λ (r : Result Bool Fault). GoesOn old r new) (sym is)
    (record {
      taken = λ no. absurd (cc);
      none = λ no. absurd (cc);
      kept = λ _. kept_lines old new unasked ended same;
      stops = refused_line old new.is_begun (Line n kind) refused;
      stopped = inr (here n kind refused);
      count = count ∙ sym (add-zero old.given);
      closed = λ no. absurd (cc);
      ended = λ no. absurd (cc);
      next = inl (apart.1, refused.0);
      reached = reported.0;
      numbered = reported.1;
    })
  where
    apart : (kind ≢ ReadFault) × (kind ≢ WriteFault)
    apart = elim refused.1 [
      | inl full ↦ ((let same = full.0 in λ e. cc), (let same = full.0 in λ e. cc))
      | inr wrong ↦
          ((own_fault (bytes_read old) kind wrong.0).0, (own_fault (bytes_read old) kind wrong.0).1.0)
    ]

    here : (m : ℕ) (k : FaultKind) → IsLineRefused old new.is_begun (Line m k)
        → IsLineRefused new new.is_begun (Line m k)
    here m k is = (
      is.0 ∙ ap (λ i. i + 1) (sym count),
      elim is.1 [
        | inl full ↦ inl (full.0, count ∙ full.1, (λ none. full.2 (sym same ∙ none)), full.3)
        | inr wrong ↦ inr (subst (λ bytes. IsFaultFrom bytes k) (sym same) wrong.0, wrong.1)
      ],
    )

    cases : ((kind ≡ TooManyLines) × ((new.given ≡ 1000000) × (new.is_begun ≡ false)))
        ⊎ ((kind ≢ TooManyLines) × (new.is_begun ≡ true))
    cases = elim refused.1 [
      | inl full ↦ inl (full.0, (count ∙ full.1, full.3))
      | inr wrong ↦ inr ((own_fault (bytes_read old) kind wrong.0).1.1, wrong.1)
    ]

    reported : IsReached (lines_begun new) (Line n kind) × IsNumbered (Line n kind)
    reported = reported_at new.given n new.is_begun kind new.few (refused.0 ∙ ap (λ m. m + 1) (sym count)) cases

-- lines that were kept meanwhile
pub goes_later : {R : Type 0} {reads : Ghosts R} (old mid new : Lines R reads) (result : Result Bool Fault)
    → Took (lines_left old) (lines_left mid) []
    → mid.given ≡ old.given → GoesOn mid result new → GoesOn old result new
goes_later old mid new result kept count goes = record {
  taken = λ given. took_later (lines_left old) (lines_left mid) (lines_left new) (new.line.items ∷ []) kept
      (goes.taken given);
  none = goes.none;
  kept = λ given. took_later (lines_left old) (lines_left mid) (lines_left new) [] kept (goes.kept given);
  stops = stops result goes.stops;
  stopped = goes.stopped;
  count = goes.count ∙ ap (λ n. n + cond (is_given result) 1 0) count;
  closed = goes.closed;
  ended = goes.ended;
  next = subst (λ n. IfErr result (IsOfNext n (lines_begun new))) count goes.next;
  reached = goes.reached;
  numbered = goes.numbered;
}
  where
    stops : (r : Result Bool Fault) → IfErr r (IsNextLineFault (lines_left mid))
        → IfErr r (IsNextLineFault (lines_left old))
    stops (Ok more) reported = tt
    stops (Err fault) reported = stops_later (lines_left old) (lines_left mid) fault kept reported

-- what was taken of a line grows by what was read meanwhile
pub grows : (front buffered later rest : List ℕ) (n : ℕ) → n ≤ length front → (length buffered == 0) ≡ false
    → later ++ rest ≡ front ++ buffered → rest ≡ [] → n + 1 ≤ length later
grows front [] later rest n few some same none = absurd (cc)
grows front (x ∷ xs) later rest n few some same none =
    let all = ap (λ (l : List ℕ). length l) (sym (append-nil later) ∙ ap (λ (l : List ℕ). later ++ l) (sym none) ∙ same)
    ∙ length-append front (x ∷ xs) in
    omega arith

-- after what was taken of a line, bytes that have no fault end none
right : (a b : Bool) → (a && b) ≡ true → b ≡ true
right true b h = h
right false b h = absurd (cc)

pub no_end_there : (front buffered : List ℕ) → IsLine (front ++ buffered)
    → IsSome (position (λ byte. byte == 10) buffered) → ⊥
no_end_there front buffered whole some = at (position (λ byte. byte == 10) buffered) refl some
  where
    none : HasNoEnd buffered
    none = printable_has_no_end buffered
        (right (list_all is_printable front) (list_all is_printable buffered)
        (sym (list_all-append is_printable front buffered) ∙ whole.printable))

    at : (o : Option ℕ) → position (λ byte. byte == 10) buffered ≡ o → IsSome o → ⊥
    at None is found = absurd (cc)
    at (Some end) is found =
        let there = position-Some (λ byte. byte == 10) buffered end 0 is in
        none end 0 there.0 (eqb-true _ _ there.1)

-- bytes without a fault tell none
pub sound_line : (line : List ℕ) → IsLine line → line_fault line ≡ None
sound_line line whole =
    let all : take 4096 line ≡ line = take_all 4096 line whole.short in
    ap (λ l. cond (list_all is_printable l) (cond (nat_lt 4096 (length line)) (Some LineTooLong) None)
    (Some BadCharacter)) all
    ∙ ap (λ b. cond b (cond (nat_lt 4096 (length line)) (Some LineTooLong) None) (Some BadCharacter)) whole.printable
    ∙ ap (λ b. cond b (Some LineTooLong) None) (le-ltb 4096 (length line) whole.short)

pub no_fault_there : (bytes : List ℕ) (kind : FaultKind) → IsLine bytes → IsFaultFrom bytes kind → ⊥
no_fault_there [] kind whole is = let no = is [] in cc
no_fault_there (x ∷ xs) kind whole is =
    let line = x ∷ xs in
    let one = ap lines_in (append-nil line) ∙ lines_in-last x xs (printable_has_no_end line whole.printable) in
    let no = sym (is []) ∙ ap (λ l. line_fault (first_of l)) one ∙ sound_line line whole in
    cc

-- after a million lines nothing of one is read that isn't refused
pub none_after : {R : Type 0} {reads : Ghosts R} (old new : Lines R reads) → old.given ≡ 1000000 → bytes_read old ≢ []
    → new.given ≡ old.given
    → bytes_read new ≡ bytes_read old → reader_buffer new.source ≡ [] → ⊥
none_after old new many some given same drained = at new.is_begun refl
  where
    at : (b : Bool) → new.is_begun ≡ b → ⊥
    at true is = let few = subst (λ b. new.given + cond b 1 0 ≤ 1000000) is new.few in omega arith
    at false is = some (sym same ∙ ap (λ b. front_of b new.line.items ++ reader_buffer new.source) is ∙ drained)

-- a line that needs more input isn't settled
pub not_settled : {R : Type 0} {reads : Ghosts R} (old new : Lines R reads) → IsLine (bytes_read old)
    → new.given ≡ old.given
    → bytes_read new ≡ bytes_read old → reader_buffer new.source ≡ [] → old.is_at_end ≡ false → IsSettled old → ⊥
not_settled old new whole given same drained more settled = at settled
  where
    at : IsSettled old → ⊥
    at (inl end) = no_end_there (front_of old.is_begun old.line.items) (reader_buffer old.source) whole end
    at (inr (inl fault)) = no_fault_there (bytes_read old) fault.kind whole fault.is
    at (inr (inr (inl many))) = none_after old new many.0 many.1 given same drained
    at (inr (inr (inr ended))) = absurd (cc)

-- ---- a line that was begun is there

-- these bytes begin a line of those that are left
pub some_there : (read : List ℕ) (more : Option (List ℕ)) → read ≢ [] → AreThere (lines_of (prepend_known read more)) 1
some_there read None some = tt
some_there [] (Some xs) some = absurd (some refl)
some_there (x ∷ read) (Some xs) some = at (lines_in (x ∷ (read ++ xs))) (some_line (x ∷ (read ++ xs)) (λ e. cc))
  where
    at : (lines : List (List ℕ)) → lines ≢ [] → 1 ≤ length lines
    at [] none = absurd (none refl)
    at (line ∷ lines) none = omega arith

pub none_there : (script : Option (List (List ℕ))) → AreThere script 0
none_there None = tt
none_there (Some lines) = omega arith

pub begun_there : {R : Type 0} {reads : Ghosts R} (lines : Lines R reads) → IsBegunByByte lines
    → AreThere (lines_left lines) (cond lines.is_begun 1 0)
begun_there lines begun = at lines.is_begun refl
  where
    at : (b : Bool) → lines.is_begun ≡ b → AreThere (lines_left lines) (cond b 1 0)
    at true is =
        subst (λ l. AreThere l 1) (sym (left_of lines)) (some_there (bytes_read lines) (beyond lines) (begun.some is))
    at false is = none_there (lines_left lines)

-- after lines that were taken
pub there_after : (script left : Option (List (List ℕ))) (lines : List (List ℕ)) (n : ℕ) → Took script left lines
    → AreThere left n → AreThere script (length lines + n)
there_after None left lines n took there = tt
there_after (Some all) None lines n took there = absurd took
there_after (Some all) (Some left) lines n took there = let len =
    ap (λ (l : List (List ℕ)). length l) took ∙ length-append lines left in omega arith

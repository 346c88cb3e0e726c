-- The lines of a script, taken one after another, and how it ends.
use Rattle.std.proofs.Common.{◌≡◌, ◌≢◌, ◌⊎◌, inl, inr, ℕ, zero, suc, ◌+◌, ◌-◌, ◌<◌, ◌≤◌, max, Bool, true, false, cond}
use Rattle.std.proofs.Common.{List, [], ◌∷◌, ◌++◌, length, take, get_or, Option, Some, None, Result, Ok, Err, IfErr}
use Rattle.std.proofs.Common.{refl, sym, ap, subst, ◌∙◌, append_assoc, append-nil, add-zero, length-append, le_refl}
use Rattle.std.proofs.Common.{IsErr, arith}
use Rattle.std.proofs.Math.Seq.{take-append_seam}
use Rattle.std.proofs.lemmas.List.{get_or-append_right}
use Rattle.ar_volume.specs.Image.{ArrayState}
use Rattle.ar_language.specs.declared.fault.Fault.{Fault}
use Rattle.ar_language.specs.declared.fault.Fault.TheVariants.{Start, Line}
use Rattle.ar_language.specs.declared.fault.FaultKind.{FaultKind}
use Rattle.ar_language.specs.declared.fault.FaultKind.TheVariants.{TooManyLines, NoMemory, ReadFault, WriteFault}
use Rattle.ar_language.specs.Lines.{Took, AreThere, IsOfStream, IsReached, IsAllTaken, first_of, line_at, line_fault}
use Rattle.ar_language.specs.Lines.{IsReportedOfNext, IsNextLineFault, IsNumbered, IsOfNext, is_write_fault}
use Rattle.std.specs.Io.KnownBytes.{Appends, Keeps}
use Rattle.ar_script.specs.Answers.{AnswersLine}
use Rattle.ar_script.specs.Orders.{MeetsLine}
use Rattle.ar_language.proofs.Going.{none_there, there_after}
use Rattle.ar_script.specs.Ends.{Ends}
use Rattle.std.specs.declared.io.traits.Read.{Ghosts}
use Rattle.ar_language.specs.declared.lines.Lines.{Lines}
use Rattle.ar_language.specs.Left.{lines_begun, EndsReading}
use Rattle.ar_script.specs.Plays.{IsReportedAt, IsReportedOf, IsLineThere, IsLostAt, IsUnanswered, NeedsMemory}
use Rattle.ar_script.specs.Plays.{AreFirst}
use Rattle.ar_script.specs.Plays.{AreAll, SaysWrong, IsSo, IsAtNext, Plays, PlaysScript, PlaysAll, PlaysTo}
use Rattle.ar_script.specs.Plays.{AnswersScript, WritesBefore, WritesScript}
use Rattle.ar_script.proofs.Appending.{appends_kept, appends_none, appends_then, keeps_same}
use Rattle.ar_script.proofs.Playing.{none_played, met_all, met_or_not, unmet}

-- ---- lines that were taken

took_none : (script : Option (List (List ℕ))) → Took script script []
took_none None = tt
took_none (Some lines) = refl

took_more : (script left rest : Option (List (List ℕ))) (lines more : List (List ℕ)) → Took script left lines
    → Took left rest more → Took script rest (lines ++ more)
took_more None left rest lines more before next = tt
took_more (Some all) None rest lines more before next = absurd before
took_more (Some all) (Some left) None lines more before next = absurd next
took_more (Some all) (Some left) (Some rest) lines more before next =
    before ∙ ap (λ (l : List (List ℕ)). lines ++ l) next ∙ sym (append_assoc lines more rest)

taken_first : (script left : Option (List (List ℕ))) (lines : List (List ℕ)) → Took script left lines
    → AreFirst script lines
taken_first None left lines took = tt
taken_first (Some all) None lines took = absurd took
taken_first (Some all) (Some left) lines took =
    sym (ap (λ (l : List (List ℕ)). take (length lines) l) took ∙ take-append_seam lines left)

taken_all : (script left : Option (List (List ℕ))) (lines : List (List ℕ)) → Took script left lines → IsAllTaken left
    → AreAll script lines
taken_all None left lines took none = tt
taken_all (Some all) None lines took none = absurd took
taken_all (Some all) (Some left) lines took none =
    sym (took ∙ ap (λ (l : List (List ℕ)). lines ++ l) none ∙ append-nil lines)

-- ---- what is reported

first_at : (lines : List (List ℕ)) → get_or lines 0 [] ≡ first_of lines
first_at [] = refl
first_at (line ∷ lines) = refl

-- the line after those that were taken
next_at : (script lines left : List (List ℕ)) (n : ℕ) → script ≡ lines ++ left → length lines ≡ n
    → line_at script (n + 1) ≡ first_of left
next_at script lines left n took count =
    let here : n + 1 - 1 ≡ n = omega arith in
    let front : n - n ≡ 0 = omega arith in
    ap (λ i. get_or script i []) here ∙ ap (λ (l : List (List ℕ)). get_or l n []) took
    ∙ get_or-append_right lines left n n [] count (le_refl n)
    ∙ ap (λ i. get_or left i []) front ∙ first_at left

some_more : (lines left : List (List ℕ)) (n : ℕ) → length lines ≡ n → left ≢ [] → n < length (lines ++ left)
some_more lines [] n count some = absurd (some refl)
some_more lines (line ∷ left) n count some = omega (arith, length-append lines (line ∷ left))

so_stream : (script : Option (List (List ℕ))) (n : ℕ) (kind : FaultKind) → IsOfStream kind → IsSo script n kind
so_stream None n kind is = tt
so_stream (Some lines) n kind is = inl (inl is)

so_before : (script : Option (List (List ℕ))) → IsSo script 1 NoMemory
so_before None = tt
so_before (Some lines) = inl (inr (refl, inl refl))

-- a line that couldn't be taken
so_next : (script left : Option (List (List ℕ))) (lines : List (List ℕ)) (n : ℕ) (kind : FaultKind)
    → Took script left lines → length lines ≡ n
    → (kind ≡ TooManyLines → n + 1 ≡ 1000001) → IsReportedOfNext left kind → IsSo script (n + 1) kind
so_next None left lines n kind took count many reported = tt
so_next (Some all) None lines n kind took count many reported = absurd took
so_next (Some all) (Some left) lines n kind took count many reported =
    elim reported [
      | inl stream ↦ inl (inl stream)
      | inr other ↦ elim other [
        | inl fault ↦ inr (inl (ap line_fault (next_at all lines left n took count) ∙ fault))
        | inr over ↦ inr (inr (inr (over.0, too_many over.1 (many over.0))))
      ]
    ]
  where
    too_many : left ≢ [] → n + 1 ≡ 1000001 → 1000000 < length all
    too_many some is = let more = some_more lines left n count some in let same =
        ap (λ (l : List (List ℕ)). length l) took in omega arith

-- what is reported of the next line, where that was taken
so_taken : (script left rest : Option (List (List ℕ))) (lines : List (List ℕ)) (line : List ℕ) (n : ℕ)
    (kind : FaultKind) → Took script left lines → length lines ≡ n
    → Took left rest (line ∷ []) → NeedsMemory line × (kind ≡ NoMemory) ⊎ SaysWrong line kind → IsSo script (n + 1) kind
so_taken None left rest lines line n kind took count next reported = tt
so_taken (Some all) None rest lines line n kind took count next reported = absurd took
so_taken (Some all) (Some left) None lines line n kind took count next reported = absurd next
so_taken (Some all) (Some left) (Some rest) lines line n kind took count next reported =
    let same : line ≡ line_at all (n + 1) = sym (next_at all lines left n took count ∙ ap first_of next) in
    elim reported [
      | inl needs ↦ inl (inr (needs.1, inr (subst NeedsMemory same needs.0)))
      | inr says ↦ inr (inr (inl (subst (λ (l : List ℕ). SaysWrong l kind) same says)))
    ]

so_answered : (script left rest : Option (List (List ℕ))) (lines : List (List ℕ)) (line : List ℕ) (n : ℕ)
    (kind : FaultKind) → Took script left lines → length lines ≡ n
    → Took left rest (line ∷ []) → IsUnanswered line kind ⊎ SaysWrong line kind → IsSo script (n + 1) kind
so_answered script left rest lines line n kind took count next reported =
    elim reported [
      | inl lost ↦ elim lost [
        | inl write ↦ so_stream script (n + 1) kind (inr write.0)
        | inr memory ↦ so_taken script left rest lines line n kind took count next (inl (memory.1, memory.0))
      ]
      | inr says ↦ so_taken script left rest lines line n kind took count next (inr says)
    ]

-- ---- one line after another

pub plays_none : (script : Option (List (List ℕ))) (s : ArrayState) → PlaysAll script script s s 0
plays_none script s = record { lines = []; text = []; plays = none_played s; all = refl; took = took_none script }

one_taken : (lines : List (List ℕ)) (line : List ℕ) (n : ℕ) → length lines ≡ n → length (lines ++ line ∷ []) ≡ suc n
one_taken lines line n is = let more = length-append lines (line ∷ []) in omega arith

-- some lines were taken and executed, and their answers appended
pub record WritesAll (script left : Option (List (List ℕ))) (old new : ArrayState) (begun : ℕ)
    (before after : Option (List ℕ)) : Type 0 where
  pub all : PlaysAll script left old new begun
  pub appends : Appends before after all.text

pub writes_none : (script : Option (List (List ℕ))) (s : ArrayState) (before : Option (List ℕ))
    → WritesAll script script s s 0 before before
writes_none script s before =
    record {
      all = record { lines = []; text = []; plays = none_played s; all = refl; took = took_none script };
      appends = appends_none before;
    }

-- one line more, before which the output was flushed
pub writes_line : (script left rest : Option (List (List ℕ))) (old mid new : ArrayState) (n : ℕ) (line : List ℕ)
    (before far flushed after : Option (List ℕ))
    → WritesAll script left old mid n before far → Keeps far flushed → Took left rest (line ∷ [])
    → AnswersLine line mid new flushed after
    → WritesAll script rest old new (suc n) before after
writes_line script left rest old mid new n line before far flushed after written kept next answered =
    let done = written.all in
    let one = met_all done.lines old mid new line done.text answered.read flushed after done.plays answered.sound
    answered.reads answered.answered in
    record {
      all = record {
        lines = done.lines ++ line ∷ [];
        text = done.text ++ one.answer;
        plays = one.plays;
        all = one_taken done.lines line n done.all;
        took = took_more script left rest done.lines (line ∷ []) done.took next;
      };
      appends = appends_then before flushed after done.text one.answer
          (appends_kept before far flushed done.text written.appends kept) one.appends;
    }

-- all lines of the script
pub writes_ended : (script left rest : Option (List (List ℕ))) (old new : ArrayState) (n : ℕ)
    (before far after : Option (List ℕ)) → WritesAll script left old new n before far
    → Keeps far after → Took left rest [] → IsAllTaken rest → WritesScript script old new before after
writes_ended script left rest old new n before far after written kept next none =
    let done = written.all in
    let took = took_more script left rest done.lines [] done.took next in
    let took_all : Took script rest done.lines =
    subst (λ (l : List (List ℕ)). Took script rest l) (append-nil done.lines) took in
    record {
      lines = done.lines;
      text = done.text;
      plays = done.plays;
      whole = taken_all script rest done.lines took_all none;
      appends = appends_kept before far after done.text written.appends kept;
    }

-- where no write fault is reported, none was met
not_output : (kind : FaultKind) (n : ℕ) (fault : Fault) → fault ≡ Line n kind
    → is_write_fault {T = Unit {0}} (Err fault) ≡ false → kind ≢ WriteFault
not_output kind n fault is reported write =
    let also : fault ≡ Line n WriteFault = is ∙ ap (Line n) write in
    let yes : is_write_fault {T = Unit {0}} (Err fault) ≡ true =
    ap (λ (f : Fault). is_write_fault {T = Unit {0}} (Err f)) also in
    absurd (cc)

-- at a fault of the next line, for which nothing was done or written
written_before : (script left : Option (List (List ℕ))) (old mid new : ArrayState) (n m : ℕ) (kind : FaultKind)
    (fault : Fault) (before far after : Option (List ℕ))
    → WritesAll script left old mid n before far → new ≡ mid → Keeps far after → fault ≡ Line m kind → m ≡ n + 1
    → WritesBefore script fault old new before after
written_before script left old mid new n m kind fault before far after written same kept is next =
    let done = written.all in
    record {
      lines = done.lines;
      text = done.text;
      plays = subst (λ (s : ArrayState). Plays done.lines old s done.text) (sym same) done.plays;
      first = taken_first script left done.lines done.took;
      next = subst (λ (f : Fault). IsAtNext done.lines f) (sym is) (next ∙ ap (λ k. k + 1) (sym done.all));
      appends = appends_kept before far after done.text written.appends kept;
    }

-- where the next line couldn't be taken
pub answered_unread : (script left : Option (List (List ℕ))) (old new : ArrayState) (n begun : ℕ)
    (result : Result (Unit {0}) Fault) (before far after : Option (List ℕ))
    → WritesAll script left old new n before far → Keeps far after → IsErr result → IfErr result (IsOfNext n begun)
    → AnswersScript script result old new before after
answered_unread script left old new n begun (Ok done) before far after written kept is next = absurd (cc)
answered_unread script left old new n begun (Err Start) before far after written kept is next = absurd next
answered_unread script left old new n begun (Err (Line m kind)) before far after written kept is (inl next) =
    λ reported. written_before script left old new new n m kind (Line m kind) before far after written refl kept refl
    next.1
answered_unread script left old new n begun (Err (Line m kind)) before far after written kept is (inr write) =
    λ reported. let yes : is_write_fault {T = Unit {0}} (Err (Line m kind)) ≡ true =
    ap (λ (k : FaultKind). is_write_fault {T = Unit {0}} (Err (Line m k))) write.0 in
    absurd (cc)

-- at a line that was answered with a fault
pub answered_fault : (script left : Option (List (List ℕ))) (old mid new : ArrayState) (n : ℕ) (line : List ℕ)
    (kind : FaultKind) (fault : Fault) (before far flushed after : Option (List ℕ))
    → WritesAll script left old mid n before far → Keeps far flushed → (kind ≢ WriteFault → after ≡ flushed)
    → MeetsLine line mid (Err kind) new
    → fault ≡ Line (max (suc n) 1) kind → AnswersScript script (Err fault) old new before after
answered_fault script left old mid new n line kind fault before far flushed after written kept same met is =
    λ reported. let quiet : kind ≢ WriteFault = not_output kind (max (suc n) 1) fault is reported in
    let next : max (suc n) 1 ≡ n + 1 = omega arith in
    written_before script left old mid new n (max (suc n) 1) kind fault before far after written
    (unmet mid new met.read kind met.meets quiet)
    (subst (λ (o : Option (List ℕ)). Keeps far o) (sym (same quiet)) kept) is next

-- once what was left of the answers is written, or can't be
pub answered_finished : (script : Option (List (List ℕ))) (old new : ArrayState) (begun : ℕ)
    (done result : Result (Unit {0}) Fault) (before far after : Option (List ℕ))
    → AnswersScript script done old new before far → Ends begun done result → Keeps far after
    → AnswersScript script result old new before after
answered_finished script old new begun (Ok end) (Ok done) before far after answered ends kept =
    record {
      lines = answered.lines;
      text = answered.text;
      plays = answered.plays;
      whole = answered.whole;
      appends = appends_kept before far after answered.text answered.appends kept;
    }
answered_finished script old new begun (Err fault) (Ok done) before far after answered (inl write) kept = absurd (cc)
answered_finished script old new begun (Err fault) (Ok done) before far after answered (inr same) kept = let no =
    same.0 in absurd (cc)
answered_finished script old new begun done (Err fault) before far after answered (inl write) kept =
    λ reported. let is : fault ≡ Line (max begun 1) WriteFault = (let same = write in cc) in
    let yes : is_write_fault {T = Unit {0}} (Err fault) ≡ true =
    ap (λ (f : Fault). is_write_fault {T = Unit {0}} (Err f)) is in
    absurd (cc)
answered_finished script old new begun (Ok end) (Err fault) before far after answered (inr same) kept = let no =
    same.0 in absurd (cc)
answered_finished script old new begun (Err reported) (Err fault) before far after answered (inr same) kept =
    λ quiet. let is : reported ≡ fault = (let one = same.0 in cc) in
    let also : is_write_fault {T = Unit {0}} (Err reported) ≡ false =
    ap (λ (f : Fault). is_write_fault {T = Unit {0}} (Err f)) is ∙ quiet in
    let w = answered also in
    record {
      lines = w.lines;
      text = w.text;
      plays = w.plays;
      first = w.first;
      next = subst (λ (f : Fault). IsAtNext w.lines f) is w.next;
      appends = appends_kept before far after w.text w.appends kept;
    }

-- of the writer itself, whose buffer was empty and is empty again
pub answered_as : (script : Option (List (List ℕ))) (old new : ArrayState) (result : Result (Unit {0}) Fault)
    (before start after left : Option (List ℕ)) → before ≡ start
    → (is_write_fault result ≡ false → after ≡ left) → AnswersScript script result old new before after
    → AnswersScript script result old new start left
answered_as script old new (Ok done) before start after left first last answered =
    let now = subst (λ (o : Option (List ℕ)). WritesScript script old new o after) first answered in
    subst (λ (o : Option (List ℕ)). WritesScript script old new start o) (last refl) now
answered_as script old new (Err fault) before start after left first last answered =
    λ reported. let now =
    subst (λ (o : Option (List ℕ)). WritesBefore script fault old new o after) first (answered reported) in
    subst (λ (o : Option (List ℕ)). WritesBefore script fault old new start o) (last reported) now

-- no line, where memory was refused before the first
pub none_answered : (script : Option (List (List ℕ))) (s : ArrayState) (fault : Fault) (before : Option (List ℕ))
    → fault ≡ Line (max 1 1) NoMemory
    → AnswersScript script (Err fault) s s before before
none_answered script s fault before is =
    λ reported. written_before script script s s s 0 (max 1 1) NoMemory fault before before before
    (writes_none script s before) refl (keeps_same before) is refl

-- ---- how a script ends

-- after the last line
pub plays_ended : (script left rest : Option (List (List ℕ))) (old new : ArrayState) (n begun : ℕ)
    → PlaysAll script left old new n → Took left rest [] → IsAllTaken rest
    → n ≤ begun → begun ≤ n + 1 → begun ≤ 1000000 → PlaysTo script (Ok tt) old new begun
plays_ended script left rest old new n begun done next none few most within =
    let took = took_more script left rest done.lines [] done.took next in
    let took_all : Took script rest done.lines =
    subst (λ (l : List (List ℕ)). Took script rest l) (append-nil done.lines) took in
    record {
      plays = record {
        lines = done.lines;
        text = done.text;
        plays = done.plays;
        few = (let all = done.all in omega arith);
        first = taken_first script rest done.lines took_all;
        whole = taken_all script rest done.lines took_all none;
        reported = tt;
      };
      few = (let all = done.all in omega arith);
      most = (let all = done.all in omega arith);
    }

-- the line after the last of these, or that one, where an answer was lost
abbrev IsNear : List (List ℕ) → ℕ → FaultKind → Type 0
IsNear met m kind = (m ≡ length met + 1) ⊎ ((m ≡ length met) × IsLostAt (line_at met m) kind)

-- at a fault that is reported of the line after the last that was met, or of that one
pub plays_stopped : (script left : Option (List (List ℕ))) (old new : ArrayState) (n begun m : ℕ) (kind : FaultKind)
    (fault : Fault)
    → (done : PlaysAll script left old new n) → fault ≡ Line m kind → IsNear done.lines m kind → IsSo script m kind
    → n ≤ begun → begun ≤ n + 1 → begun ≤ 1000000 → PlaysTo script (Err fault) old new begun
plays_stopped script left old new n begun m kind fault done is after so few most within =
    subst (λ (f : Fault). PlaysTo script (Err f) old new begun) (sym is)
    (record {
      plays = record {
        lines = done.lines;
        text = done.text;
        plays = done.plays;
        few = (let all = done.all in omega arith);
        first = taken_first script left done.lines done.took;
        whole = tt;
        reported = (after, so);
      };
      few = (let all = done.all in omega arith);
      most = (let all = done.all in omega arith);
    })

-- that answers couldn't be written is reported of the last line that was met, or of the next
begun_near : (n begun : ℕ) → n ≤ begun → begun ≤ n + 1 → (max begun 1 ≡ n + 1) ⊎ (max begun 1 ≡ n)
begun_near zero begun few most = inl (omega arith)
begun_near (suc n) begun few most = at (begun - suc n) refl
  where
    at : (d : ℕ) → begun - suc n ≡ d → (max begun 1 ≡ suc n + 1) ⊎ (max begun 1 ≡ suc n)
    at zero is = inr (omega arith)
    at (suc d) is = inl (omega arith)

near_begun : (met : List (List ℕ)) (n begun m : ℕ) (kind : FaultKind) → length met ≡ n → n ≤ begun → begun ≤ n + 1
    → kind ≡ WriteFault → m ≡ max begun 1
    → IsNear met m kind
near_begun met n begun m kind all few most write is =
    elim (begun_near n begun few most) [
      | inl next ↦ inl (is ∙ next ∙ ap (λ k. k + 1) (sym all))
      | inr same ↦ inr (is ∙ same ∙ sym all, inl write)
    ]

-- where the next line couldn't be taken
unread : (script left : Option (List (List ℕ))) (old new : ArrayState) (n begun : ℕ) (fault : Fault)
    → PlaysAll script left old new n → IsNextLineFault left fault → IsOfNext n begun fault
    → IsNumbered fault → n ≤ begun → begun ≤ n + 1 → begun ≤ 1000000 → PlaysTo script (Err fault) old new begun
unread script left old new n begun Start done stops next numbered few most within = absurd stops
unread script left old new n begun (Line m kind) done stops (inl next) numbered few most within =
    let so = so_next script left done.lines n kind done.took done.all (λ many. sym next.1 ∙ numbered.2 many) stops in
    plays_stopped script left old new n begun m kind (Line m kind) done refl
    (inl (next.1 ∙ ap (λ k. k + 1) (sym done.all))) (subst (λ k. IsSo script k kind) (sym next.1) so) few most
    within
unread script left old new n begun (Line m kind) done stops (inr write) numbered few most within =
    plays_stopped script left old new n begun m kind (Line m kind) done refl
    (near_begun done.lines n begun m kind done.all few most write.0 write.1)
    (so_stream script m kind (inr write.0)) few most within

pub plays_unread : (script left : Option (List (List ℕ))) (old new : ArrayState) (n begun : ℕ)
    (result : Result (Unit {0}) Fault) → PlaysAll script left old new n → IsErr result
    → IfErr result (IsNextLineFault left) → IfErr result (IsOfNext n begun) → IfErr result IsNumbered → n ≤ begun
    → begun ≤ n + 1 → begun ≤ 1000000 → PlaysTo script result old new begun
plays_unread script left old new n begun (Ok done) before is stops next numbered few most within = absurd (cc)
plays_unread script left old new n begun (Err fault) before is stops next numbered few most within =
    unread script left old new n begun fault before stops next numbered few most within

-- at a line that was answered with a fault
pub plays_fault : (script left rest : Option (List (List ℕ))) (old mid new : ArrayState) (n : ℕ) (line : List ℕ)
    (kind : FaultKind) (fault : Fault)
    → PlaysAll script left old mid n → Took left rest (line ∷ []) → MeetsLine line mid (Err kind) new
    → IsUnanswered line kind ⊎ SaysWrong line kind
    → fault ≡ Line (max (suc n) 1) kind → suc n ≤ 1000000 → PlaysTo script (Err fault) old new (suc n)
plays_fault script left rest old mid new n line kind fault before next line_met reported is within =
    let same : max (suc n) 1 ≡ n + 1 = omega arith in
    let so = so_answered script left rest before.lines line n kind before.took before.all next reported in
    let is_next = is ∙ ap (λ m. Line m kind) same in
    let lines = before.lines ++ line ∷ [] in
    let taken : length lines ≡ suc n = one_taken before.lines line n before.all in
    let last : line_at lines (n + 1) ≡ line = next_at lines before.lines (line ∷ []) n refl before.all in
    elim (met_or_not before.lines old mid new line line_met.read kind before.text before.plays line_met.sound
    line_met.reads line_met.meets) [
      | inl unmet ↦
          plays_stopped script left old new n (suc n) (n + 1) kind fault
          (record { lines = before.lines; text = before.text; plays = unmet; all = before.all; took = before.took })
          is_next
          (inl (ap (λ k. k + 1) (sym before.all))) so
          (omega arith) (omega arith) within
      | inr met ↦
          plays_stopped script rest old new (suc n) (suc n) (n + 1) kind fault
          (record {
            lines = before.lines ++ line ∷ [];
            text = met.0.text;
            plays = met.0.plays;
            all = one_taken before.lines line n before.all;
            took = took_more script left rest before.lines (line ∷ []) before.took next;
          })
          is_next (inr (omega arith, subst (λ (l : List ℕ). IsLostAt l kind) (sym last) met.1)) so (omega arith)
          (omega arith) within
    ]

-- once what was left of the answers is written, or can't be
pub plays_finished : (script : Option (List (List ℕ))) (old new : ArrayState) (begun : ℕ)
    (done result : Result (Unit {0}) Fault) → PlaysTo script done old new begun → Ends begun done result
    → PlaysScript script result old new
plays_finished script old new begun done result played (inr same) =
    subst (λ (r : Result (Unit {0}) Fault). PlaysScript script r old new) (sym same.0) played.plays
plays_finished script old new begun done result played (inl write) =
    let met = played.plays.lines in
    subst (λ (r : Result (Unit {0}) Fault). PlaysScript script r old new) (sym write)
    (record {
      lines = met;
      text = played.plays.text;
      plays = played.plays.plays;
      few = played.plays.few;
      first = played.plays.first;
      whole = tt;
      reported = (
        near_begun met (length met) begun (max begun 1) WriteFault refl played.few played.most refl refl,
        so_stream script (max begun 1) WriteFault (inr refl),
      );
    })

-- no line, where memory was refused before the first
pub none_begun : (script : Option (List (List ℕ))) (s : ArrayState) (fault : Fault) → fault ≡ Line (max 1 1) NoMemory
    → PlaysScript script (Err fault) s s
none_begun script s fault is =
    let none = plays_none script s in
    (plays_stopped script script s s 0 0 1 NoMemory fault none is (inl (ap (λ k. k + 1) (sym none.all)))
    (so_before script) (le_refl 0) (omega arith) (omega arith)).plays

-- ---- how many lines were begun

pub begun_within : (old new : ℕ) (begun : Bool) → new ≡ old
    → (old ≤ new + cond begun 1 0) × (new + cond begun 1 0 ≤ old + 1)
begun_within old new true same = (omega arith, omega arith)
begun_within old new false same = (omega arith, omega arith)

-- once a line was given
pub begun_as : (old new : ℕ) (begun : Bool) → new ≡ old + 1 → begun ≡ false → new + cond begun 1 0 ≡ suc old
begun_as old new true count closed = absurd (cc)
begun_as old new false count closed = omega arith

-- ---- which line is reported

-- of what was reached: a line that was begun is there
there_reached : (lines : List (List ℕ)) (begun n : ℕ) (kind : FaultKind) → begun ≤ length lines
    → (n ≡ begun)
    ⊎ ((n ≡ begun + 1) × ((kind ≡ ReadFault) ⊎ (kind ≡ TooManyLines) ⊎ ((kind ≡ WriteFault) × (begun ≡ 0))))
    → IsLineThere (Some lines) (Line n kind)
there_reached lines begun n kind there (inl same) = inr (inr (omega arith))
there_reached lines begun n kind there (inr next) =
    elim next.1 [
      | inl read ↦ inl read
      | inr others ↦
          elim others [ inl many ↦ inr (inl many) | inr write ↦ inr (inr (let none = write.1 in omega arith)) ]
    ]

there_reported : (script : Option (List (List ℕ))) (begun : ℕ) (fault : Fault) → AreThere script begun
    → IsReached begun fault → IsLineThere script fault
there_reported script begun Start there reached = tt
there_reported None begun (Line n kind) there reached = tt
there_reported (Some lines) begun (Line n kind) there reached = there_reached lines begun n kind there reached

there_first : (script : Option (List (List ℕ))) (begun : ℕ) (kind : FaultKind) → AreThere script begun
    → IsLineThere script (Line (max begun 1) kind)
there_first None begun kind there = tt
there_first (Some lines) begun kind there = inr (inr (omega arith))

-- and of the end
pub there_ended : (script : Option (List (List ℕ))) (begun : ℕ) (done result : Result (Unit {0}) Fault)
    → AreThere script begun → IfErr done (IsReached begun) → Ends begun done result
    → IfErr result (IsLineThere script)
there_ended script begun done (Ok end) there reached ends = tt
there_ended script begun done (Err fault) there reached (inl write) =
    let is : fault ≡ Line (max begun 1) WriteFault = (let same = write in cc) in
    subst (λ (f : Fault). IsLineThere script f) (sym is) (there_first script begun WriteFault there)
there_ended script begun (Ok end) (Err fault) there reached (inr same) = let no = same.0 in absurd (cc)
there_ended script begun (Err reported) (Err fault) there reached (inr same) =
    let is : reported ≡ fault = (let one = same.0 in cc) in
    subst (λ (f : Fault). IsLineThere script f) is (there_reported script begun reported there reached)

-- before the first line
pub there_none : (script : Option (List (List ℕ))) (fault : Fault) → fault ≡ Line (max 1 1) NoMemory
    → IsLineThere script fault
there_none None fault is = subst (λ (f : Fault). IsLineThere None f) (sym is) tt
there_none (Some lines) fault is = subst (λ (f : Fault). IsLineThere (Some lines) f) (sym is) (inr (inr (omega arith)))

-- where some lines were taken, and one more is begun
pub there_begun : (script left new : Option (List (List ℕ))) (old mid : ArrayState) (n given : ℕ) (begun : Bool)
    → PlaysAll script left old mid n → Took left new [] → given ≡ n
    → AreThere new (cond begun 1 0) → AreThere script (given + cond begun 1 0)
there_begun script left new old mid n given begun done kept same there =
    let took = took_more script left new done.lines [] done.took kept in
    let took_same : Took script new done.lines =
    subst (λ (l : List (List ℕ)). Took script new l) (append-nil done.lines) took in
    subst (λ k. AreThere script (k + cond begun 1 0)) (done.all ∙ sym same)
    (there_after script new done.lines (cond begun 1 0) took_same there)

pub there_given : (script left new : Option (List (List ℕ))) (old mid : ArrayState) (n : ℕ) (line : List ℕ)
    → PlaysAll script left old mid n → Took left new (line ∷ [])
    → AreThere script (suc n)
there_given None left new old mid n line done took = tt
there_given (Some all) left new old mid n line done took =
    let taken = took_more (Some all) left new done.lines (line ∷ []) done.took took in
    let len = one_taken done.lines line n done.all in
    subst (λ k. AreThere (Some all) k) (add-zero (length (done.lines ++ line ∷ [])) ∙ len)
    (there_after (Some all) new (done.lines ++ line ∷ []) 0 taken (none_there new))

-- ---- why it is reported

-- the next line couldn't be gone on to
pub reported_next : {R : Type 0} {reads : Ghosts R} (lines : Lines R reads) (result : Result (Unit {0}) Fault)
    → IfErr result (EndsReading lines) → IfErr result (IsReportedAt lines)
reported_next lines (Ok done) is = tt
reported_next lines (Err Start) is = absurd is
reported_next lines (Err (Line n kind)) is = inl is

last_is : (given : ℕ) (begun : Bool) → begun ≡ false → 1 ≤ given → max (given + cond begun 1 0) 1 ≡ given
last_is given true closed some = absurd (cc)
last_is given false closed some = omega arith

-- the last line that was given has no answer
pub reported_last : {R : Type 0} {reads : Ghosts R} (lines : Lines R reads) (kind : FaultKind) (fault : Fault)
    → lines.is_begun ≡ false → 1 ≤ lines.given
    → fault ≡ Line (max (lines_begun lines) 1) kind
    → IsUnanswered lines.line.items kind ⊎ SaysWrong lines.line.items kind → IsReportedAt lines fault
reported_last lines kind fault closed some is reported =
    subst (λ (f : Fault). IsReportedAt lines f) (sym is)
    (inr (last_is lines.given lines.is_begun closed some, reported))

reported_then : {R : Type 0} {reads : Ghosts R} (lines : Lines R reads) (fault : Fault) → IsReportedAt lines fault
    → IsReportedOf lines fault
reported_then lines Start reported = absurd reported
reported_then lines (Line n kind) reported = inr reported

-- once what was left of the answers is written, or can't be
pub reported_ended : {R : Type 0} {reads : Ghosts R} (lines : Lines R reads) (begun : ℕ)
    (done result : Result (Unit {0}) Fault) → IfErr done (IsReportedAt lines) → Ends begun done result
    → IfErr result (IsReportedOf lines)
reported_ended lines begun done (Ok end) reported ends = tt
reported_ended lines begun done (Err fault) reported (inl write) =
    let is : fault ≡ Line (max begun 1) WriteFault = (let same = write in cc) in
    subst (λ (f : Fault). IsReportedOf lines f) (sym is) (inl refl)
reported_ended lines begun (Ok end) (Err fault) reported (inr same) = let no = same.0 in absurd (cc)
reported_ended lines begun (Err before) (Err fault) reported (inr same) =
    let is : before ≡ fault = (let one = same.0 in cc) in
    subst (λ (f : Fault). IsReportedOf lines f) is (reported_then lines before reported)

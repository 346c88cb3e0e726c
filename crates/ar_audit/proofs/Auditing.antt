-- What the audit finds, entry by entry.
use Rattle.std.proofs.Common.{◌≡◌, ◌≢◌, ℕ, zero, suc, Bool, true, false, cond, ◌<◌, ◌≤◌, Option, Some, None, List, []}
use Rattle.std.proofs.Common.{◌∷◌, ◌++◌, take, length, get_or, refl, sym, ap, ◌∙◌, inl, inr, arith}
use Rattle.std.specs.Prelude.{slice_get, ◌==◌, ◌+◌, All, map, sum, count_by, OnOk, IfOk, Result, Ok, Err}
use Rattle.std.proofs.lemmas.Bool.{eqb-true}
use Rattle.std.proofs.lemmas.List.Sums.{sum_by-append}
use Rattle.std.proofs.lemmas.List.{append-nil, take_at, take_all, length-take-le}
use Rattle.std.proofs.lemmas.Option.{slice_get_past, slice_get_within, slice_get_cases}
use Rattle.ar_served.specs.declared.entry.Entry.{Entry}
use Rattle.ar_served.specs.declared.entry.Entry.TheVariants.{Make, Grow, Remove, Cmd, Unmap}
use Rattle.ar_served.specs.declared.entry.Exchange.{Exchange}
use Rattle.ar_disks.specs.declared.address.Host.{Host}
use Rattle.ar_unit.specs.Unit.{answer}
use Rattle.ar_audit.specs.declared.audit.Report.{Report}
use Rattle.ar_audit.specs.declared.audit.Mismatch.{Mismatch}
use Rattle.ar_served.specs.History.{IsLegal, part, replay, is_command}
use Rattle.ar_audit.specs.Audit.{DiffersAt, IsHostsPart, IsTranscriptIsolated, IsExecutedAt, command_of, Agrees}
use Rattle.ar_audit.specs.Audit.{Departs}
use Rattle.ar_served.specs.Seat.{SeatState}

-- the element after a list
behind : {X : Type 0} (xs : List X) (y : X) (rest : List X) → slice_get (xs ++ y ∷ rest) (length xs) ≡ Some y
behind [] y rest = refl
behind (x ∷ xs) y rest = behind xs y rest

-- an element more is taken
take_one : {X : Type 0} (xs : List X) (n : ℕ) (x : X) → slice_get xs n ≡ Some x → take (suc n) xs ≡ take n xs ++ x ∷ []
take_one [] n x is = absurd (cc)
take_one {X} (y ∷ xs) zero x is = let e : y ≡ x = cc is in ap (λ (z : X). z ∷ []) e
take_one {X} (y ∷ xs) (suc n) x is = ap (λ (l : List X). y ∷ l) (take_one xs n x is)

regroup : {X : Type 0} (xs : List X) (y : X) (rest : List X) → (xs ++ y ∷ []) ++ rest ≡ xs ++ y ∷ rest
regroup [] y rest = refl
regroup {X} (x ∷ xs) y rest = ap (λ (l : List X). x ∷ l) (regroup xs y rest)

-- what an entry brings to a host's part
more_by : (b : Bool) (x exchange : Exchange) (rest : List Exchange) → cond b (Some x) None ≡ Some exchange
    → cond b (x ∷ rest) rest ≡ exchange ∷ rest
more_by true x exchange rest is = let same : x ≡ exchange = cc is in ap (λ (y : Exchange). y ∷ rest) same
more_by false x exchange rest is = absurd (cc)

pub part_more : (number : ℕ) (entry : Entry) (rest : List Entry) (exchange : Exchange)
    → command_of number entry ≡ Some exchange
    → part number (entry ∷ rest) ≡ exchange ∷ part number rest
part_more number (Make addr n) rest exchange is = absurd (cc)
part_more number (Grow addr n) rest exchange is = absurd (cc)
part_more number (Remove addr) rest exchange is = absurd (cc)
part_more number (Unmap addr lba count) rest exchange is = absurd (cc)
part_more number (Cmd host x) rest exchange is = more_by (host.number == number) x exchange (part number rest) is

same_by : (b : Bool) (x : Exchange) (rest : List Exchange) → cond b (Some x) None ≡ None → cond b (x ∷ rest) rest ≡ rest
same_by true x rest is = absurd (cc)
same_by false x rest is = refl

pub part_same : (number : ℕ) (entry : Entry) (rest : List Entry) → command_of number entry ≡ None
    → part number (entry ∷ rest) ≡ part number rest
part_same number (Make addr n) rest is = refl
part_same number (Grow addr n) rest is = refl
part_same number (Remove addr) rest is = refl
part_same number (Unmap addr lba count) rest is = refl
part_same number (Cmd host x) rest is = same_by (host.number == number) x (part number rest) is

-- an entry that isn't a command of the host
pub agrees_none : (number : ℕ) (entry : Entry) (transcript : List Exchange) (at : ℕ) → at ≤ length transcript
    → command_of number entry ≡ None
    → Agrees number entry transcript at at
agrees_none number entry transcript at within none = record {
  within = within;
  goes_on = λ rest. ap (λ (l : List Exchange). take at transcript ++ l) (part_same number entry rest none);
}

-- one that is the transcript's next
pub agrees_one : (number : ℕ) (entry : Entry) (transcript : List Exchange) (at : ℕ) (line : Exchange)
    → slice_get transcript at ≡ Some line
    → command_of number entry ≡ Some line → Agrees number entry transcript at (at + 1)
agrees_one number entry transcript at line is command = record {
  within = let below : at < length transcript = slice_get_within transcript at line is in omega arith;
  goes_on = λ rest.
      ap (λ (l : List Exchange). take at transcript ++ l) (part_more number entry rest line command)
      ∙ sym (regroup (take at transcript) line (part number rest))
      ∙ ap (λ (l : List Exchange). l ++ part number rest) (sym (take_one transcript at line is))
      ∙ ap (λ (n : ℕ). take n transcript ++ part number rest) (let e : suc at ≡ at + 1 = omega arith in e);
}

-- one that isn't
pub departs : (number : ℕ) (entry : Entry) (transcript : List Exchange) (at : ℕ) (command : Exchange)
    → at ≤ length transcript
    → command_of number entry ≡ Some command → slice_get transcript at ≢ Some command
    → Departs number entry transcript at
departs number entry transcript at command within is other =
    let long : length (take at transcript) ≡ at = length-take-le at transcript within in
    record {
      differs = λ rest.
          record {
            before = sym (take_at (take at transcript) (part number (entry ∷ rest)) at long);
            there = λ same.
                other
                (same
                ∙ ap (λ (l : List Exchange). slice_get (take at transcript ++ l) at)
                (part_more number entry rest command is)
                ∙ ap (λ (n : ℕ). slice_get (take at transcript ++ command ∷ part number rest) n) (sym long)
                ∙ behind (take at transcript) command (part number rest));
          };
    }

-- another element, or none
pub other_there : {X : Type 0} (xs : List X) (n : ℕ) (x y : X) → slice_get xs n ≡ Some x → x ≢ y
    → slice_get xs n ≢ Some y
other_there xs n x y is other same = other (let e : Some x ≡ Some y = sym is ∙ same in cc e)

pub none_there : {X : Type 0} (xs : List X) (n : ℕ) (y : X) → length xs ≤ n → slice_get xs n ≢ Some y
none_there xs n y past same = absurd (let e : None ≡ Some y = sym (slice_get_past xs n past) ∙ same in cc)

-- there is an element where a list isn't at its end
some_there : {X : Type 0} (xs : List X) (n : ℕ) → n < length xs → slice_get xs n ≢ None
some_there {X} xs n below none =
    elim (slice_get_cases xs n).1 [
      | inl found ↦ absurd (let some = found.2 in cc)
      | inr past ↦ absurd (let far = past.0 in omega arith)
    ]

-- the transcript goes on where the history ends
pub longer : (transcript rest : List Exchange) (at : ℕ) → at < length transcript → rest ≡ take at transcript ++ []
    → DiffersAt at transcript rest
longer transcript rest at below is =
    let whole : rest ≡ take at transcript = is ∙ append-nil (take at transcript) in
    let long : length (take at transcript) ≡ at =
    (let le : at ≤ length transcript = omega arith in length-take-le at transcript le) in
    record {
      before = sym (ap (λ (l : List Exchange). take at l) whole ∙ take_all at (take at transcript) (omega arith));
      there = λ same.
          some_there transcript at below
          (same ∙ ap (λ (l : List Exchange). slice_get l at) whole
          ∙ slice_get_past (take at transcript) at (omega arith));
    }

-- or ends with it
pub equal : (transcript rest : List Exchange) (at : ℕ) → at ≤ length transcript → length transcript ≤ at
    → rest ≡ take at transcript ++ [] → transcript ≡ rest
equal transcript rest at within long is = sym (is ∙ append-nil (take at transcript) ∙ take_all at transcript long)

-- a command of a host's part is an entry of the history: this many of the part stand before it
record Found (history : List Entry) (number position : ℕ) (exchange : Exchange) (place : ℕ) (host : Host) : Type 0 where
  entry : slice_get history place ≡ Some (Cmd host exchange)
  host_is : host.number ≡ number
  before : part number (take place history) ≡ take position (part number history)

abbrev Somewhere : List Entry → ℕ → ℕ → Exchange → Type 0
Somewhere history number position exchange =
    (place : ℕ) × (host : Host) × Found history number position exchange place host

host_by : (b : Bool) (host : Host) (x exchange : Exchange) (number : ℕ) → host.number == number ≡ b
    → cond b (Some x) None ≡ Some exchange
    → (x ≡ exchange) × (host.number ≡ number)
host_by true host x exchange number same is = (cc is, eqb-true host.number number same)
host_by false host x exchange number same is = absurd (cc)

host_of : (number : ℕ) (entry : Entry) (exchange : Exchange) → command_of number entry ≡ Some exchange
    → (host : Host) × (entry ≡ Cmd host exchange) × (host.number ≡ number)
host_of number (Make addr n) exchange is = absurd (cc)
host_of number (Grow addr n) exchange is = absurd (cc)
host_of number (Remove addr) exchange is = absurd (cc)
host_of number (Unmap addr lba count) exchange is = absurd (cc)
host_of number (Cmd host x) exchange is =
    let parts = host_by (host.number == number) host x exchange number refl is in
    (host, ap (λ (y : Exchange). Cmd host y) parts.0, parts.1)

found_by : (o : Option Exchange) (number position : ℕ) (entry : Entry) (history : List Entry) (exchange : Exchange)
    → command_of number entry ≡ o
    → ((p : ℕ) → slice_get (part number history) p ≡ Some exchange → Somewhere history number p exchange)
    → slice_get (part number (entry ∷ history)) position ≡ Some exchange
    → Somewhere (entry ∷ history) number position exchange
found_by None number position entry history exchange none earlier is =
    let whole = part_same number entry history none in
    let was = earlier position (sym (ap (λ (l : List Exchange). slice_get l position) whole) ∙ is) in (
      suc was.0,
      was.1,
      record {
        entry = was.2.entry;
        host_is = was.2.host_is;
        before =
            part_same number entry (take was.0 history) none ∙ was.2.before
            ∙ sym (ap (λ (l : List Exchange). take position l) whole);
      },
    )
found_by (Some x) number zero entry history exchange some earlier is =
    let whole = part_more number entry history x some in
    let same : Some x ≡ Some exchange = sym (ap (λ (l : List Exchange). slice_get l zero) whole) ∙ is in
    let host = host_of number entry exchange (some ∙ same) in (
      zero,
      host.0,
      record { entry = ap (λ (e : Entry). Some e) host.1; host_is = host.2; before = refl },
    )
found_by (Some x) number (suc p) entry history exchange some earlier is =
    let whole = part_more number entry history x some in
    let was = earlier p (sym (ap (λ (l : List Exchange). slice_get l (suc p)) whole) ∙ is) in (
      suc was.0,
      was.1,
      record {
        entry = was.2.entry;
        host_is = was.2.host_is;
        before =
            part_more number entry (take was.0 history) x some ∙ ap (λ (l : List Exchange). x ∷ l) was.2.before
            ∙ sym (ap (λ (l : List Exchange). take (suc p) l) whole);
      },
    )

found : (history : List Entry) (number position : ℕ) (exchange : Exchange)
    → slice_get (part number history) position ≡ Some exchange
    → Somewhere history number position exchange
found [] number position exchange is = absurd (cc)
found (entry ∷ history) number position exchange is =
    found_by (command_of number entry) number position entry history exchange refl
    (λ p at. found history number p exchange at) is

-- and where the history is legal its reply is that of the unit
stands : (history : List Entry) → IsLegal history → (number position : ℕ) (exchange : Exchange)
    → slice_get (part number history) position ≡ Some exchange
    → (place : ℕ) × (host : Host) × IsExecutedAt history number position exchange place host
stands history legal number position exchange is =
    let at = found history number position exchange is in (
      at.0,
      at.1,
      record {
        entry = at.2.entry;
        host_is = at.2.host_is;
        before = at.2.before;
        reply =
            legal.fits at.0 (Cmd at.1 exchange) at.2.entry
            ∙ ap (λ (n : ℕ).
            (answer (replay (take at.0 history) (n, exchange.lun)) exchange.cdb exchange.payload).reply) at.2.host_is;
      },
    )

isolated : (history : List Entry) (seat : SeatState) → IsLegal history → IsHostsPart history seat
    → IsTranscriptIsolated history seat
isolated history seat legal same =
    λ position exchange is.
    stands history legal seat.host.number position exchange (sym (ap (λ (l : List Exchange). slice_get l position) same)
    ∙ is)

-- of a result
pub all_isolated : (history : List Entry) (seats : List SeatState) (result : Result Report Mismatch) → IsLegal history
    → OnOk result (All (IsHostsPart history) seats) → OnOk result (All (IsTranscriptIsolated history) seats)
all_isolated history seats (Ok report) legal same =
    λ k d below. isolated history (get_or seats k d) legal (same k d below)
all_isolated history seats (Err mismatch) legal same = same

-- the commands of four hosts are all that there are
one_host : (n : ℕ) (x : Exchange) (a b c d : List Exchange) → n < 4
    → length (cond (n == 0) (x ∷ a) a) + length (cond (n == 1) (x ∷ b) b) + length (cond (n == 2) (x ∷ c) c)
    + length (cond (n == 3) (x ∷ d) d)
    ≡ 1 + (length a + length b + length c + length d)
one_host zero x a b c d few = omega arith
one_host (suc zero) x a b c d few = omega arith
one_host (suc (suc zero)) x a b c d few = omega arith
one_host (suc (suc (suc zero))) x a b c d few = omega arith
one_host (suc (suc (suc (suc n)))) x a b c d few = absurd (omega arith)

one_more : (entry : Entry) (history : List Entry) → is_command entry ≡ true
    → count_by is_command (entry ∷ history) ≡ 1 + count_by is_command history
one_more entry history is =
    let more = sum_by-append (λ (e : Entry). cond {A = ℕ} (is_command e) 1 0) (entry ∷ []) history in
    let one : cond {A = ℕ} (is_command entry) 1 0 ≡ 1 = ap (λ (b : Bool). cond {A = ℕ} b 1 0) is in
    omega (arith, more, one)

four_parts : (history : List Entry)
    → length (part 0 history) + length (part 1 history) + length (part 2 history) + length (part 3 history)
    ≡ count_by is_command history
four_parts [] = refl
four_parts (Make addr n ∷ history) = let rest = four_parts history in omega (arith, rest)
four_parts (Grow addr n ∷ history) = let rest = four_parts history in omega (arith, rest)
four_parts (Remove addr ∷ history) = let rest = four_parts history in omega (arith, rest)
four_parts (Unmap addr lba count ∷ history) = let rest = four_parts history in omega (arith, rest)
four_parts (Cmd host x ∷ history) =
    one_host host.number x (part 0 history) (part 1 history) (part 2 history) (part 3 history) host.in_range
    ∙ ap (λ (n : ℕ). 1 + n) (four_parts history) ∙ sym (one_more (Cmd host x) history refl)

abbrev numbers : List SeatState → List ℕ
numbers seats = map (λ (s : SeatState). s.host.number) seats

abbrev lengths : List SeatState → List ℕ
lengths seats = map (λ (s : SeatState). length s.transcript) seats

long_by : (history : List Entry) (seat : SeatState) (n : ℕ) → seat.host.number ≡ n → IsHostsPart history seat
    → length seat.transcript ≡ length (part n history)
long_by history seat n is same = ap length same ∙ ap (λ (k : ℕ). length (part k history)) is

all_lengths : (history : List Entry) (seats : List SeatState) → numbers seats ≡ 0 ∷ 1 ∷ 2 ∷ 3 ∷ []
    → All (IsHostsPart history) seats
    → sum (lengths seats) ≡ count_by is_command history
all_lengths history [] order same = absurd (cc)
all_lengths history (a ∷ []) order same = absurd (cc)
all_lengths history (a ∷ b ∷ []) order same = absurd (cc)
all_lengths history (a ∷ b ∷ c ∷ []) order same = absurd (cc)
all_lengths history (a ∷ b ∷ c ∷ d ∷ e ∷ seats) order same = absurd (cc)
all_lengths history (a ∷ b ∷ c ∷ d ∷ []) order same =
    let first = long_by history a 0 (cc order) (same 0 a (omega arith)) in
    let second = long_by history b 1 (cc order) (same 1 a (omega arith)) in
    let third = long_by history c 2 (cc order) (same 2 a (omega arith)) in
    let fourth = long_by history d 3 (cc order) (same 3 a (omega arith)) in
    let all = four_parts history in
    omega (arith, first, second, third, fourth, all)

-- of a result
pub none_else : (history : List Entry) (seats : List SeatState) (result : Result Report Mismatch)
    → numbers seats ≡ 0 ∷ 1 ∷ 2 ∷ 3 ∷ []
    → OnOk result (All (IsHostsPart history) seats) → IfOk result (λ report. report.commands ≡ lengths seats)
    → IfOk result (λ report. sum report.commands ≡ count_by is_command history)
none_else history seats (Ok report) order same counted = ap sum counted ∙ all_lengths history seats order same
none_else history seats (Err mismatch) order same counted = counted

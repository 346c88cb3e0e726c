-- Attempts in turn: whether all of them succeeded, and where they stopped.
use Rattle.std.proofs.Common.{◌≡◌, ◌⊎◌, inl, inr, ℕ, zero, suc, ◌+◌, ◌<◌, Bool, true, false, List, [], ◌∷◌, ◌++◌}
use Rattle.std.proofs.Common.{if◌then◌else◌, refl, sym, ◌∙◌, subst, arith}
use Rattle.std.proofs.Math.Numerals.{suc-eq-add-one}
use Rattle.std.proofs.lemmas.Bool.Decides.{eqb_tells}
use Rattle.ar_disks.specs.declared.address.Members.{Members}
use Rattle.ar_extents.specs.declared.health.Health.{Health}
use Rattle.ar_extents.specs.declared.health.Health.TheVariants.{Whole, Out, Rebuilding, Broken}
use Rattle.ar_extents.specs.Health.{IsRebuilding, after_fault}
use Rattle.ar_extents.specs.Set.{SetState}
use Rattle.ar_extents.specs.Plans.{Attempt, AttemptsAll, all_done, one_done, one_failed, skips}
use Rattle.ar_extents.specs.Plans.{Stop, all_of, CarriesOut, stops, goes_on, falls_back}
use Rattle.ar_extents.proofs.Asking.{nothing_done}
use Rattle.ar_extents.proofs.Plans.{one_made, answered_health, all_then, all_stopped, all_more, all_fewer}
use Rattle.ar_book.specs.declared.class.Class.{Class}
use Rattle.ar_rebuild.specs.Plans.{row_attempts, rows_attempts, member_plan}

-- a plan of attempts in turn is these attempts
pub record Turned (ts : List Attempt) (a b : SetState) : Type 0 where
  pub done : Bool
  pub made : AttemptsAll ts done a b

pub turned : (ts : List Attempt) (a b : SetState) → CarriesOut (all_of ts Stop) a b → Turned ts a b
turned [] a _ (stops _) = record { done = true; made = all_done a }
turned (t ∷ ts) a b (goes_on _ _ _ _ m _ tried rest) =
    let more = turned ts m b rest in record { done = more.done; made = one_done t ts more.done a m b tried more.made }
turned (t ∷ ts) a b (falls_back _ _ _ _ m _ tried rest) =
    subst (λ (s : SetState). Turned (t ∷ ts) a s) (nothing_done m b rest)
    (record { done = false; made = one_failed t ts a m tried })

-- nothing was tried
pub none_tried : (a b : SetState) → AttemptsAll [] true a b → a ≡ b
none_tried a _ (all_done _) = refl

-- attempts that all succeeded leave health as it was
pub all_health : (ts : List Attempt) (a b : SetState) → AttemptsAll ts true a b → b.health ≡ a.health
all_health [] a _ (all_done _) = refl
all_health (t ∷ ts) a b (one_done _ _ _ _ m _ tried rest) = all_health ts m b rest ∙ answered_health t a m tried

-- the state between two lists of attempts
pub record Split (ts us : List Attempt) (done : Bool) (a c : SetState) : Type 0 where
  pub between : SetState
  pub first : AttemptsAll ts true a between
  pub last : AttemptsAll us done between c

pub all_split : (ts us : List Attempt) (a c : SetState) → AttemptsAll (ts ++ us) true a c → Split ts us true a c
all_split [] us a c made = record { between = a; first = all_done a; last = made }
all_split (t ∷ ts) us a c (one_done _ _ _ _ m _ tried rest) =
    let more = all_split ts us m c rest in
    record { between = more.between; first = one_done t ts true a m more.between tried more.first; last = more.last }

failed_split : (ts us : List Attempt) (a c : SetState) → AttemptsAll (ts ++ us) false a c
    → AttemptsAll ts false a c ⊎ Split ts us false a c
failed_split [] us a c made = inr (record { between = a; first = all_done a; last = made })
failed_split (t ∷ ts) us a c (one_done _ _ _ _ m _ tried rest) =
    elim (failed_split ts us m c rest) [
      | inl failed ↦ inl (one_done t ts false a m c tried failed)
      | inr more ↦
          inr (record {
            between = more.between;
            first = one_done t ts true a m more.between tried more.first;
            last = more.last;
          })
    ]
failed_split (t ∷ ts) us a c (one_failed _ _ _ _ tried) = inl (one_failed t ts a c tried)

-- none of the attempts is skipped in this health
abbrev pub AllUsed : Health → List Attempt → Type 0
AllUsed h [] = Unit {0}
AllUsed h (t ∷ ts) = (skips h t ≡ false) × AllUsed h ts

pub both_used : (h : Health) (ts us : List Attempt) → AllUsed h ts → AllUsed h us → AllUsed h (ts ++ us)
both_used h [] us first last = last
both_used h (t ∷ ts) us first last = (first.0, both_used h ts us first.1 last)

-- a fault ends a rebuild
fault_ends : (h : Health) (d : ℕ) → IsRebuilding h → IsRebuilding (after_fault h d) → ⊥
fault_ends Whole d is still = is
fault_ends (Out x) d is still = is
fault_ends (Rebuilding x done) d is still =
    elim (eqb_tells d x) [
      | inl same ↦ subst (λ b. IsRebuilding (if b then Out x else Broken)) same.0 still
      | inr other ↦ subst (λ b. IsRebuilding (if b then Out x else Broken)) other.0 still
    ]
fault_ends Broken d is still = is

failed_ends : (ts : List Attempt) (a b : SetState) → AllUsed a.health ts → IsRebuilding a.health
    → AttemptsAll ts false a b → IsRebuilding b.health → ⊥
failed_ends [] a b used is made still = elim made [ ]
failed_ends (t ∷ ts) a b used is (one_done _ _ _ _ m _ tried rest) still =
    let same = sym (answered_health t a m tried) in
    failed_ends ts m b (subst (λ (h : Health). AllUsed h ts) same used.1)
    (subst (λ (h : Health). IsRebuilding h) same is) rest still
failed_ends (t ∷ ts) a b used is (one_failed _ _ _ _ tried) still =
    fault_ends a.health t.place.disk is
    (subst (λ (h : Health). IsRebuilding h) (one_made t false a b used.0 tried).health still)

-- where the rebuild goes on, all attempts succeeded,
succeeded : (ts : List Attempt) (done : Bool) (a b : SetState) → AllUsed a.health ts → IsRebuilding a.health
    → IsRebuilding b.health → AttemptsAll ts done a b
    → AttemptsAll ts true a b
succeeded ts true a b used is still made = made
succeeded ts false a b used is still made = absurd (failed_ends ts a b used is made still)

pub all_succeeded : (ts : List Attempt) (a b : SetState) → AllUsed a.health ts → IsRebuilding a.health
    → b.health ≡ a.health → CarriesOut (all_of ts Stop) a b
    → AttemptsAll ts true a b
all_succeeded ts a b used is same carried =
    let reported = turned ts a b carried in
    succeeded ts reported.done a b used is (subst (λ (h : Health). IsRebuilding h) (sym same) is) reported.made

-- and where health has changed, one didn't
failed_by : (ts : List Attempt) (done : Bool) (a b : SetState) → (b.health ≡ a.health → ⊥) → AttemptsAll ts done a b
    → AttemptsAll ts false a b
failed_by ts true a b changed made = absurd (changed (all_health ts a b made))
failed_by ts false a b changed made = made

pub one_stopped : (ts : List Attempt) (a b : SetState) → (b.health ≡ a.health → ⊥) → CarriesOut (all_of ts Stop) a b
    → AttemptsAll ts false a b
one_stopped ts a b changed carried =
    let reported = turned ts a b carried in failed_by ts reported.done a b changed reported.made

-- the attempts for some rows stopped at one of them
pub record StopsAt (class : Class) (m : Members) (i n : ℕ) (a c : SetState) : Type 0 where
  pub row : ℕ
  pub there : row < n
  pub begun : SetState
  pub made : AttemptsAll (rows_attempts class m i row) true a begun
  pub failed : AttemptsAll (row_attempts class m i row) false begun c

module _ (class : Class) (m : Members) (i : ℕ) where
  -- one more row
  pub row_more : (n : ℕ) (a b c : SetState) → AttemptsAll (rows_attempts class m i n) true a b
      → AttemptsAll (row_attempts class m i n) true b c
      → AttemptsAll (rows_attempts class m i (n + 1)) true a c
  row_more n a b c before row =
      subst (λ k. AttemptsAll (rows_attempts class m i k) true a c) (suc-eq-add-one n)
      (all_more (rows_attempts class m i n) (row_attempts class m i n) true a b c before row)

  -- where one row's attempts stopped, all did
  rows_stopped : (row n : ℕ) (a c : SetState) → row < n
      → AttemptsAll (rows_attempts class m i row ++ row_attempts class m i row) false a c
      → AttemptsAll (rows_attempts class m i n) false a c
  rows_stopped row zero a c lt made = absurd (omega arith)
  rows_stopped row (suc n) a c lt made =
      elim (eqb_tells row n) [
        | inl same ↦
            (let P : ℕ → Type 0 = λ k. AttemptsAll (rows_attempts class m i k ++ row_attempts class m i k) false a c in
            subst P same.1 made)
        | inr apart ↦
            all_fewer (rows_attempts class m i n) (row_attempts class m i n) a c
            (rows_stopped row n a c (let ne = apart.1 in omega arith) made)
      ]

  -- the plan of all rows, complete,
  pub rows_carried : (n : ℕ) (a b : SetState) → AttemptsAll (rows_attempts class m i n) true a b
      → CarriesOut (member_plan class m i n) a b
  rows_carried n a b made = all_then (rows_attempts class m i n) Stop a b b made (stops b)

  -- or stopped at one
  pub stop_carried : (row n : ℕ) (a b c : SetState) → row < n → AttemptsAll (rows_attempts class m i row) true a b
      → AttemptsAll (row_attempts class m i row) false b c → CarriesOut (member_plan class m i n) a c
  stop_carried row n a b c lt before here =
      all_stopped (rows_attempts class m i n) Stop a c
      (rows_stopped row n a c lt
      (all_more (rows_attempts class m i row) (row_attempts class m i row) false a b c before here))

  -- so they do wherever they stop
  pub stops_at : (n : ℕ) (a c : SetState) → AttemptsAll (rows_attempts class m i n) false a c → StopsAt class m i n a c
  stops_at zero a c made = elim made [ ]
  stops_at (suc n) a c made =
      elim (failed_split (rows_attempts class m i n) (row_attempts class m i n) a c made) [
        | inl before ↦
            (let stop = stops_at n a c before in
            record {
              row = stop.row;
              there = (let lt = stop.there in omega arith);
              begun = stop.begun;
              made = stop.made;
              failed = stop.failed;
            })
        | inr here ↦
            record { row = n; there = omega arith; begun = here.between; made = here.first; failed = here.last }
      ]

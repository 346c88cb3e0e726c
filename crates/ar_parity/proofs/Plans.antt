-- The plans of calls, for the positions that the code computes.
use Rattle.std.proofs.Common.{◌≡◌, ℕ, suc, ◌+◌, ◌-◌, ◌<◌, ◌%◌, Bool, true, false, cond, List, [], ◌∷◌, ◌++◌, sym, ◌∙◌}
use Rattle.std.proofs.Common.{ap, subst, arith}
use Rattle.ar_disks.specs.declared.address.Members.{Members}
use Rattle.ar_disks.specs.declared.address.Place.{Place}
use Rattle.ar_disks.specs.Members.{member}
use Rattle.ar_extents.specs.Set.{SetState}
use Rattle.ar_extents.specs.Plans.{Attempt, Attempts, AttemptsAll, one_done, one_failed, all_of, each_of, AccessPlan}
use Rattle.ar_extents.specs.Plans.{Stop, Try, CarriesOut, stops, NoneFaults, planned, access_of, read_at, write_at}
use Rattle.ar_extents.specs.Plans.{rebuild_at}
use Rattle.ar_extents.proofs.Plans.{carried_if, all_then, all_stopped, all_one, all_more, all_fewer, each_then}
use Rattle.ar_extents.proofs.Plans.{one_then, planned_made}
use Rattle.ar_extents.specs.declared.health.Health.TheVariants.{Whole}
use Rattle.ar_parity.specs.Others.{low_other, high_other}
use Rattle.ar_parity.specs.Plans.{two_reads, three_reads, parity_read, write_member, write_by_reading, stripe_write}
use Rattle.ar_parity.specs.Plans.{parity_write, writes_from, stripes_from}
use Rattle.ar_parity.specs.Row.{row_of, data_position, parity_position}
use Rattle.ar_extents.specs.declared.health.Health.{Health}
use Rattle.ar_extents.specs.Health.{rebuilt_disk, next_extent, is_missing}
use Rattle.ar_extents.specs.Access.{next_place}

-- both were read, or not the second
pub two_read : (m : Members) (i j row low high : ℕ) (done : Bool) (a b c : SetState) → low ≡ low_other i j
    → high ≡ high_other i j
    → Attempts (read_at (member m low) row) true a b → Attempts (read_at (member m high) row) done b c
    → AttemptsAll (two_reads m i j row) done a c
two_read m i j row low high done a b c is_low is_high first second =
    let P : ℕ → Type 0 = λ n. Attempts (read_at (member m n) row) true a b in
    let Q : ℕ → Type 0 = λ n. Attempts (read_at (member m n) row) done b c in
    one_done (read_at (member m (low_other i j)) row) (read_at (member m (high_other i j)) row ∷ []) done a b c
    (subst P is_low first)
    (all_one (read_at (member m (high_other i j)) row) done b c (subst Q is_high second))

-- the first wasn't read
pub first_failed : (m : Members) (i j row low : ℕ) (a b : SetState) → low ≡ low_other i j
    → Attempts (read_at (member m low) row) false a b
    → AttemptsAll (two_reads m i j row) false a b
first_failed m i j row low a b is_low first =
    let P : ℕ → Type 0 = λ n. Attempts (read_at (member m n) row) false a b in
    one_failed (read_at (member m (low_other i j)) row) (read_at (member m (high_other i j)) row ∷ []) a b
    (subst P is_low first)

-- two were read, and then the third or not
pub three_read : (m : Members) (i row third : ℕ) (done : Bool) (a b c : SetState) → third ≡ (i + 1) % 4
    → AttemptsAll (two_reads m i third row) true a b
    → Attempts (read_at (member m third) row) done b c → AttemptsAll (three_reads m i row) done a c
three_read m i row third done a b c is two last =
    let P : ℕ → Type 0 = λ n. AttemptsAll (two_reads m i n row ++ read_at (member m n) row ∷ []) done a c in
    subst P is (all_more (two_reads m i third row) (read_at (member m third) row ∷ []) done a b c two
    (all_one (read_at (member m third) row) done b c last))

-- one of the two wasn't read
pub two_failed : (m : Members) (i row third : ℕ) (a b : SetState) → third ≡ (i + 1) % 4
    → AttemptsAll (two_reads m i third row) false a b
    → AttemptsAll (three_reads m i row) false a b
two_failed m i row third a b is two =
    let P : ℕ → Type 0 = λ n. AttemptsAll (two_reads m i n row ++ read_at (member m n) row ∷ []) false a b in
    subst P is (all_fewer (two_reads m i third row) (read_at (member m third) row ∷ []) a b two)

-- reads with nothing after them
pub all_read : (ts : List Attempt) (done : Bool) (a b : SetState) → AttemptsAll ts done a b
    → CarriesOut (all_of ts Stop) a b
all_read ts true a b tried = all_then ts Stop a b b tried (stops b)
all_read ts false a b tried = all_stopped ts Stop a b tried

-- a plan for a place is one for the place that it is
pub attempt_at : (t : Place → Attempt) (done : Bool) (p q : Place) (a b : SetState) → p ≡ q → Attempts (t p) done a b
    → Attempts (t q) done a b
attempt_at t done p q a b same tried = let P : Place → Type 0 = λ x. Attempts (t x) done a b in subst P same tried

pub carried_to : (plan : ℕ → AccessPlan) (i j : ℕ) (a b : SetState) → i ≡ j → CarriesOut (plan i) a b
    → CarriesOut (plan j) a b
carried_to plan i j a b same carried = let P : ℕ → Type 0 = λ n. CarriesOut (plan n) a b in subst P same carried

left_after : (n i : ℕ) → i < n → n - i ≡ suc (n - (i + 1))
left_after n i lt = omega arith

-- one more member is written
pub next_written : (m : Members) (row i n : ℕ) (a b c : SetState) → i < n → CarriesOut (write_member m i row) a b
    → CarriesOut (each_of (writes_from m row (i + 1) (n - (i + 1)))) b c
    → CarriesOut (each_of (writes_from m row i (n - i))) a c
next_written m row i n a b c lt first rest =
    let P : ℕ → Type 0 = λ k. CarriesOut (each_of (writes_from m row i k)) a c in
    subst P (sym (left_after n i lt))
    (one_then (write_at (member m i) row) (each_of (writes_from m row (i + 1) (n - (i + 1)))) a b c first rest)

-- one more stripe is written
pub next_stripe : (m : Members) (row n : ℕ) (a b c : SetState) → row < n
    → CarriesOut (each_of (writes_from m row 0 4)) a b
    → CarriesOut (each_of (stripes_from m (row + 1) (n - (row + 1)))) b c
    → CarriesOut (each_of (stripes_from m row (n - row))) a c
next_stripe m row n a b c lt first rest =
    let P : ℕ → Type 0 = λ k. CarriesOut (each_of (stripes_from m row k)) a c in
    subst P (sym (left_after n row lt))
    (each_then (writes_from m row 0 4) (stripes_from m (row + 1) (n - (row + 1))) a b c first rest)

-- the read of a slot, in terms of the extent and the row that were found
pub read_carried : (m : Members) (slot : ℕ) (i row : ℕ) (p : Place) (a b : SetState) → i ≡ data_position slot
    → row ≡ row_of slot → p ≡ member m i
    → CarriesOut (Try (read_at p row) Stop (all_of (three_reads m i row) Stop)) a b
    → CarriesOut (parity_read m slot) a b
read_carried m slot i row p a b is_i is_row is_p carried =
    let P : Place → Type 0 = λ q. CarriesOut (Try (read_at q row) Stop (all_of (three_reads m i row) Stop)) a b in
    let Q : ℕ → Type 0 =
    λ n. CarriesOut (Try (read_at (member m n) row) Stop (all_of (three_reads m n row) Stop)) a b in
    let R : ℕ → Type 0 =
    λ r. CarriesOut
    (Try (read_at (member m (data_position slot)) r) Stop (all_of (three_reads m (data_position slot) r) Stop)) a
    b in
    subst R is_row (subst Q is_i (subst P is_p carried))

-- the extent that is rebuilt next, in the same health
pub rebuilt_next : (m : Members) (i row : ℕ) (done : Bool) (a b c : SetState) → member m i ≡ next_place a
    → b.health ≡ a.health
    → Attempts (rebuild_at (next_place b) row) done b c → Attempts (rebuild_at (member m i) row) done b c
rebuilt_next m i row done a b c is same tried =
    let place : Health → Place = λ h. record { disk = rebuilt_disk h; extent = next_extent h } in
    let P : Place → Type 0 = λ p. Attempts (rebuild_at p row) done b c in
    subst P (ap place same ∙ sym is) tried

-- no member is left to write
pub all_written : (m : Members) (row i n : ℕ) (s : SetState) → n ≡ 0 → CarriesOut (each_of (writes_from m row i n)) s s
all_written m row i n s none = let P : ℕ → Type 0 =
    λ k. CarriesOut (each_of (writes_from m row i k)) s s in subst P (sym none) (stops s)

-- and no stripe
pub no_stripes : (m : Members) (row n : ℕ) (s : SetState) → n ≡ 0 → CarriesOut (each_of (stripes_from m row n)) s s
no_stripes m row n s none = let P : ℕ → Type 0 =
    λ k. CarriesOut (each_of (stripes_from m row k)) s s in subst P (sym none) (stops s)

-- before the first stripe all are left
pub all_stripes : (m : Members) (n : ℕ) (a b : SetState) → CarriesOut (each_of (stripes_from m 0 (n - 0))) a b
    → CarriesOut (each_of (stripes_from m 0 n)) a b
all_stripes m n a b carried =
    let same : n - 0 ≡ n = omega arith in let P : ℕ → Type 0 =
    λ k. CarriesOut (each_of (stripes_from m 0 k)) a b in subst P same carried

-- the plan of a stripe's write, by whether the parity was found missing
pub stripe_carried : (m : Members) (i j k row : ℕ) (p : Place) (missing : Bool) (a b : SetState) → k ≡ j
    → p ≡ member m k
    → is_missing a.health p.disk p.extent ≡ missing
    → CarriesOut (cond missing (write_member m i row) (write_by_reading m i j row)) a b
    → CarriesOut (stripe_write m i j row) a b
stripe_carried m i j k row p missing a b position at is carried =
    let here : p ≡ member m j = at ∙ ap (λ (n : ℕ). member m n) position in
    carried_if (member m j) (write_member m i row) (write_by_reading m i j row) a b missing
    (ap (λ (q : Place). is_missing a.health q.disk q.extent) (sym here) ∙ is) carried

-- the write of a slot, in terms of the position and the row that were found
pub write_carried : (m : Members) (slot i row : ℕ) (a b : SetState) → i ≡ data_position slot → row ≡ row_of slot
    → CarriesOut (stripe_write m i (parity_position row) row) a b → CarriesOut (parity_write m slot) a b
write_carried m slot i row a b is_i is_row carried =
    let P : ℕ → Type 0 = λ n. CarriesOut (stripe_write m n (parity_position row) row) a b in
    let Q : ℕ → Type 0 = λ r. CarriesOut (stripe_write m (data_position slot) (parity_position r) r) a b in
    subst Q is_row (subst P is_i carried)

-- on a healthy set, and without a fault
pub healthy_read : (a b : SetState) (m : Members) (slot : ℕ) → a.health ≡ Whole → NoneFaults a b
    → CarriesOut (parity_read m slot) a b
    → b.log ≡ a.log ++ access_of (read_at (member m (data_position slot)) (row_of slot)) true ∷ []
healthy_read a b m slot whole none carried =
    planned_made (parity_read m slot) a b carried none
    ∙ ap (λ (h : Health). a.log ++ planned (parity_read m slot) h) whole

pub healthy_write : (a b : SetState) (m : Members) (slot : ℕ) → a.health ≡ Whole → NoneFaults a b
    → CarriesOut (parity_write m slot) a b
    → b.log ≡ a.log ++ access_of (read_at (member m (data_position slot)) (row_of slot)) true
    ∷ access_of (read_at (member m (parity_position (row_of slot))) (row_of slot)) true
    ∷ access_of (write_at (member m (data_position slot)) (row_of slot)) true
    ∷ access_of (write_at (member m (parity_position (row_of slot))) (row_of slot)) true ∷ []
healthy_write a b m slot whole none carried =
    planned_made (parity_write m slot) a b carried none
    ∙ ap (λ (h : Health). a.log ++ planned (parity_write m slot) h) whole

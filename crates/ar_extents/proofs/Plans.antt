-- Plans that are carried out: which accesses they make.
use Rattle.std.proofs.Common.{◌≡◌, ℕ, ◌+◌, Bool, true, false, cond, List, [], ◌∷◌, ◌++◌, refl, sym, ◌∙◌, ap, subst}
use Rattle.std.proofs.Common.{arith}
use Rattle.std.specs.Prelude.{count_by}
use Rattle.std.proofs.lemmas.Bool.Decides.{nat_tests}
use Rattle.ar_disks.specs.declared.address.Place.{Place}
use Rattle.ar_extents.specs.declared.health.Health.{Health}
use Rattle.ar_extents.specs.declared.health.Health.TheVariants.{Broken}
use Rattle.ar_extents.specs.declared.log.RowAccess.{RowAccess}
use Rattle.ar_extents.specs.declared.log.AccessKind.{AccessKind}
use Rattle.ar_extents.specs.declared.log.AccessKind.TheVariants.{Read, Write, Rebuild}
use Rattle.ar_extents.specs.Set.{SetState}
use Rattle.ar_extents.specs.Log.{AccountsFor, is_fault_of}
use Rattle.ar_extents.specs.Health.{is_missing}
use Rattle.ar_extents.specs.Plans.{Attempt, Attempts, AttemptsAll, all_done, one_done, one_failed, all_of, each_of}
use Rattle.ar_extents.specs.Plans.{AccessPlan, Stop, Try, IfMissing, both_of, CarriesOut, stops, goes_on, falls_back}
use Rattle.ar_extents.specs.Plans.{without, with_it}
use Rattle.ar_extents.specs.Plans.{IsPath, stopped, skipped, answered, faulted, path_without, path_with, Accounted}
use Rattle.ar_extents.specs.Plans.{NoneFaults, planned, access_of, is_skipped, skips}
use Rattle.ar_extents.proofs.Accounts.{accounts_none, accounts_then, count_cons}

pub none_made : (t : Attempt) (done : Bool) (a b : SetState) → skips a.health t ≡ true → Attempts t done a b
    → AccountsFor [] a b
none_made t done a b skip tried =
    let P : Bool → Type 0 = λ k. AccountsFor (cond k [] (access_of t done ∷ [])) a b in subst P skip tried.made

pub one_made : (t : Attempt) (done : Bool) (a b : SetState) → skips a.health t ≡ false → Attempts t done a b
    → AccountsFor (access_of t done ∷ []) a b
one_made t done a b used tried =
    let P : Bool → Type 0 = λ k. AccountsFor (cond k [] (access_of t done ∷ [])) a b in subst P used tried.made

not_skipped : (t : Attempt) (a b : SetState) (skip : Bool) → skips a.health t ≡ skip → Attempts t true a b
    → skips a.health t ≡ false
not_skipped t a b true skip tried = absurd (let k : true ≡ false = tried.skipped skip in cc)
not_skipped t a b false used tried = used

-- an attempt that was answered wasn't skipped,
pub answered_used : (t : Attempt) (a b : SetState) → Attempts t true a b → skips a.health t ≡ false
answered_used t a b tried = not_skipped t a b (skips a.health t) refl tried

-- and leaves health as it was
pub answered_health : (t : Attempt) (a b : SetState) → Attempts t true a b → b.health ≡ a.health
answered_health t a b tried = (one_made t true a b (answered_used t a b tried) tried).health

-- a plan that goes on by whether an extent is missing, once that is known
pub carried_if : (p : Place) (next other : AccessPlan) (a b : SetState) (missing : Bool)
    → is_missing a.health p.disk p.extent ≡ missing → CarriesOut (cond missing next other) a b
    → CarriesOut (IfMissing p next other) a b
carried_if p next other a b true is carried = without p next other a b is carried
carried_if p next other a b false is carried = with_it p next other a b is carried

-- one plan, and then another
pub both_carried : (first last : AccessPlan) (a b c : SetState) → CarriesOut first a b → CarriesOut last b c
    → CarriesOut (both_of first last) a c
both_carried Stop last a _ c (stops _) then = then
both_carried (Try t next other) last a b c (goes_on _ _ _ _ m _ tried rest) then =
    goes_on t (both_of next last) (both_of other last) a m c tried (both_carried next last m b c rest then)
both_carried (Try t next other) last a b c (falls_back _ _ _ _ m _ tried rest) then =
    falls_back t (both_of next last) (both_of other last) a m c tried (both_carried other last m b c rest then)
both_carried (IfMissing p next other) last a b c (without _ _ _ _ _ is rest) then =
    without p (both_of next last) (both_of other last) a c is (both_carried next last a b c rest then)
both_carried (IfMissing p next other) last a b c (with_it _ _ _ _ _ is rest) then =
    with_it p (both_of next last) (both_of other last) a c is (both_carried other last a b c rest then)

-- an attempt after which the same plan goes on in any case
pub carries_both : (t : Attempt) (next : AccessPlan) (a b c : SetState) (done : Bool) → Attempts t done a b
    → CarriesOut next b c → CarriesOut (Try t next next) a c
carries_both t next a b c true tried rest = goes_on t next next a b c tried rest
carries_both t next a b c false tried rest = falls_back t next next a b c tried rest

-- one attempt alone
pub carries_one : (t : Attempt) (a b : SetState) (done : Bool) → Attempts t done a b → CarriesOut (Try t Stop Stop) a b
carries_one t a b done tried = carries_both t Stop a b b done tried (stops b)

pub broken_skips : (kind : AccessKind) (place : Place) → is_skipped Broken kind place ≡ true
broken_skips Read place = refl
broken_skips Write place = refl
broken_skips Rebuild place = refl

skipped_attempt : (t : Attempt) (s : SetState) → skips s.health t ≡ true → Attempts t false s s
skipped_attempt t s skip =
    let P : Bool → Type 0 = λ k. AccountsFor (cond k [] (access_of t false ∷ [])) s s in
    record { skipped = λ is. refl; made = subst P (sym skip) (accounts_none s) }

-- on a set that has failed no plan costs an access
pub carries_broken : (plan : AccessPlan) (s : SetState) → s.health ≡ Broken → CarriesOut plan s s
carries_broken Stop s is = stops s
carries_broken (Try t next other) s is =
    falls_back t next other s s s
    (skipped_attempt t s (ap (λ (h : Health). skips h t) is ∙ broken_skips t.kind t.place))
    (carries_broken other s is)
carries_broken (IfMissing p next other) s is =
    with_it p next other s s (ap (λ (h : Health). is_missing h p.disk p.extent) is) (carries_broken other s is)

answered_at : (t : Attempt) (next other : AccessPlan) (a b c : SetState) → Attempts t true a b → Accounted next b c
    → Accounted (Try t next other) a c
answered_at t next other a b c tried rest =
    let used = answered_used t a b tried in
    let one = one_made t true a b used tried in
    let P : Health → Type 0 = λ h. IsPath next h rest.made in
    record {
      made = access_of t true ∷ rest.made;
      path = answered t next other a.health rest.made used (subst P one.health rest.path);
      accounts = accounts_then (access_of t true ∷ []) rest.made a b c one rest.accounts;
    }

faulted_at : (t : Attempt) (next other : AccessPlan) (a b c : SetState) (skip : Bool) → skips a.health t ≡ skip
    → Attempts t false a b → Accounted other b c
    → Accounted (Try t next other) a c
faulted_at t next other a b c true skip tried rest =
    let none = none_made t false a b skip tried in
    let P : Health → Type 0 = λ h. IsPath other h rest.made in
    record {
      made = rest.made;
      path = skipped t next other a.health rest.made skip (subst P none.health rest.path);
      accounts = accounts_then [] rest.made a b c none rest.accounts;
    }
faulted_at t next other a b c false used tried rest =
    let one = one_made t false a b used tried in
    let P : Health → Type 0 = λ h. IsPath other h rest.made in
    record {
      made = access_of t false ∷ rest.made;
      path = faulted t next other a.health rest.made used (subst P one.health rest.path);
      accounts = accounts_then (access_of t false ∷ []) rest.made a b c one rest.accounts;
    }

-- whatever was made by a plan, a path through it accounts for all of it
pub accounted : (plan : AccessPlan) (a b : SetState) → CarriesOut plan a b → Accounted plan a b
accounted Stop s _ (stops _) = record { made = []; path = stopped s.health; accounts = accounts_none s }
accounted (Try t next other) a c (goes_on _ _ _ _ b _ tried rest) =
    answered_at t next other a b c tried (accounted next b c rest)
accounted (Try t next other) a c (falls_back _ _ _ _ b _ tried rest) =
    faulted_at t next other a b c (skips a.health t) refl tried (accounted other b c rest)
accounted (IfMissing p next other) a b (without _ _ _ _ _ is rest) =
    let all = accounted next a b rest in
    record { made = all.made; path = path_without p next other a.health all.made is all.path; accounts = all.accounts }
accounted (IfMissing p next other) a b (with_it _ _ _ _ _ is rest) =
    let all = accounted other a b rest in
    record { made = all.made; path = path_with p next other a.health all.made is all.path; accounts = all.accounts }

fault_seen : (t : Attempt) (rest : List RowAccess) → count_by (is_fault_of t.place.disk) (access_of t false ∷ rest) ≡ 0
    → ⊥
fault_seen t rest none =
    let n = count_cons (is_fault_of t.place.disk) (access_of t false) rest in
    let same : is_fault_of t.place.disk (access_of t false) ≡ true = grind (arith, nat_tests) in
    let m = n ∙ ap (λ b. cond b 1 0 + count_by (is_fault_of t.place.disk) rest) same in
    omega arith

-- a path without a fault is the planned one
path_planned : (plan : AccessPlan) (h : Health) (made : List RowAccess) → IsPath plan h made
    → ((d : ℕ) → count_by (is_fault_of d) made ≡ 0) → made ≡ planned plan h
path_planned Stop h _ (stopped _) none = refl
path_planned (Try t next other) h rest (skipped _ _ _ _ _ skip path) none =
    path_planned other h rest path none
    ∙ ap (λ k. cond k (planned other h) (access_of t true ∷ planned next h)) (sym skip)
path_planned (Try t next other) h _ (answered _ _ _ _ rest used path) none =
    ap (λ l. access_of t true ∷ l)
    (path_planned next h rest path (λ d. let n = count_cons (is_fault_of d) (access_of t true) rest in let m = none d in
    omega arith))
    ∙ ap (λ k. cond k (planned other h) (access_of t true ∷ planned next h)) (sym used)
path_planned (Try t next other) h _ (faulted _ _ _ _ rest used path) none =
    absurd (fault_seen t rest (none t.place.disk))
path_planned (IfMissing p next other) h rest (path_without _ _ _ _ _ is path) none =
    path_planned next h rest path none ∙ ap (λ k. cond k (planned next h) (planned other h)) (sym is)
path_planned (IfMissing p next other) h rest (path_with _ _ _ _ _ is path) none =
    path_planned other h rest path none ∙ ap (λ k. cond k (planned next h) (planned other h)) (sym is)

-- where no disk faults, exactly the planned accesses are made
pub planned_made : (plan : AccessPlan) (a b : SetState) → CarriesOut plan a b → NoneFaults a b
    → b.log ≡ a.log ++ planned plan a.health
planned_made plan a b carried sound =
    let all = accounted plan a b carried in
    all.accounts.log
    ∙ ap (λ l. a.log ++ l)
    (path_planned plan a.health all.made all.path (λ d. let n = all.accounts.faults d in let same = sound.faults d in
    omega arith))

-- attempts that all succeeded, and the plan that goes on from there
pub all_then : (ts : List Attempt) (next : AccessPlan) (a b c : SetState) → AttemptsAll ts true a b
    → CarriesOut next b c → CarriesOut (all_of ts next) a c
all_then [] next a _ c (all_done _) rest = rest
all_then (t ∷ ts) next a b c (one_done _ _ _ _ m _ tried more) rest =
    goes_on t (all_of ts next) Stop a m c tried (all_then ts next m b c more rest)

-- attempts of which one failed, after which nothing was tried
pub all_stopped : (ts : List Attempt) (next : AccessPlan) (a b : SetState) → AttemptsAll ts false a b
    → CarriesOut (all_of ts next) a b
all_stopped [] next a b tried = elim tried [ ]
all_stopped (t ∷ ts) next a b (one_done _ _ _ _ m _ tried more) =
    goes_on t (all_of ts next) Stop a m b tried (all_stopped ts next m b more)
all_stopped (t ∷ ts) next a b (one_failed _ _ _ _ tried) = falls_back t (all_of ts next) Stop a b b tried (stops b)

-- one attempt alone
pub all_one : (t : Attempt) (done : Bool) (a b : SetState) → Attempts t done a b → AttemptsAll (t ∷ []) done a b
all_one t true a b tried = one_done t [] true a b b tried (all_done b)
all_one t false a b tried = one_failed t [] a b tried

-- some attempts that succeeded, and then more
pub all_more : (ts us : List Attempt) (done : Bool) (a b c : SetState) → AttemptsAll ts true a b
    → AttemptsAll us done b c → AttemptsAll (ts ++ us) done a c
all_more [] us done a _ c (all_done _) more = more
all_more (t ∷ ts) us done a b c (one_done _ _ _ _ m _ tried rest) more =
    one_done t (ts ++ us) done a m c tried (all_more ts us done m b c rest more)

-- some attempts of which one failed
pub all_fewer : (ts us : List Attempt) (a b : SetState) → AttemptsAll ts false a b → AttemptsAll (ts ++ us) false a b
all_fewer [] us a b tried = elim tried [ ]
all_fewer (t ∷ ts) us a b (one_done _ _ _ _ m _ tried rest) =
    one_done t (ts ++ us) false a m b tried (all_fewer ts us m b rest)
all_fewer (t ∷ ts) us a b (one_failed _ _ _ _ tried) = one_failed t (ts ++ us) a b tried

-- attempts that are made in any case, and then more
pub each_then : (ts us : List Attempt) (a b c : SetState) → CarriesOut (each_of ts) a b → CarriesOut (each_of us) b c
    → CarriesOut (each_of (ts ++ us)) a c
each_then [] us a _ c (stops _) rest = rest
each_then (t ∷ ts) us a b c (goes_on _ _ _ _ m _ tried first) rest =
    goes_on t (each_of (ts ++ us)) (each_of (ts ++ us)) a m c tried (each_then ts us m b c first rest)
each_then (t ∷ ts) us a b c (falls_back _ _ _ _ m _ tried first) rest =
    falls_back t (each_of (ts ++ us)) (each_of (ts ++ us)) a m c tried (each_then ts us m b c first rest)

-- one attempt alone, and the plan that goes on in any case
pub one_then : (t : Attempt) (next : AccessPlan) (a b c : SetState) → CarriesOut (Try t Stop Stop) a b
    → CarriesOut next b c → CarriesOut (Try t next next) a c
one_then t next a b c (goes_on _ _ _ _ _ _ tried (stops _)) rest = goes_on t next next a b c tried rest
one_then t next a b c (falls_back _ _ _ _ _ _ tried (stops _)) rest = falls_back t next next a b c tried rest

planned_by : (k : Bool) (xs ys us vs l : List RowAccess) → us ≡ xs ++ l → vs ≡ ys ++ l
    → cond k us vs ≡ cond k xs ys ++ l
planned_by true xs ys us vs l one other = one
planned_by false xs ys us vs l one other = other

-- where none faults, two plans take the accesses of the one, and then those of the other
pub both_planned : (first last : AccessPlan) (h : Health)
    → planned (both_of first last) h ≡ planned first h ++ planned last h
both_planned Stop last h = refl
both_planned (Try t next other) last h =
    planned_by (skips h t) (planned other h) (access_of t true ∷ planned next h) (planned (both_of other last) h)
    (access_of t true ∷ planned (both_of next last) h) (planned last h) (both_planned other last h)
    (ap (λ l. access_of t true ∷ l) (both_planned next last h))
both_planned (IfMissing p next other) last h =
    planned_by (is_missing h p.disk p.extent) (planned next h) (planned other h) (planned (both_of next last) h)
    (planned (both_of other last) h) (planned last h) (both_planned next last h) (both_planned other last h)

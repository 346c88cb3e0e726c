-- What the rebuild of an extent costs where no disk faults.
use Rattle.std.proofs.Common.{◌≡◌, ℕ, zero, suc, Bool, true, false, cond, List, [], ◌∷◌, ◌++◌, map, refl, sym, ◌∙◌, ap}
use Rattle.std.proofs.lemmas.List.{append-nil, map-append}
use Rattle.ar_disks.specs.declared.address.Place.{Place}
use Rattle.ar_disks.specs.declared.address.Members.{Members}
use Rattle.ar_disks.specs.Geometry.{rows_of}
use Rattle.ar_extents.specs.declared.health.Health.{Health}
use Rattle.ar_extents.specs.declared.log.AccessKind.{AccessKind}
use Rattle.ar_extents.specs.declared.log.RowAccess.{RowAccess}
use Rattle.ar_extents.specs.Set.{SetState, faults_of}
use Rattle.ar_extents.specs.Plans.{Attempt, Stop, all_of, skips, access_of, planned, NoneFaults}
use Rattle.ar_extents.proofs.Plans.{planned_made}
use Rattle.ar_book.specs.declared.class.Class.{Class}
use Rattle.ar_book.specs.declared.class.Class.TheVariants.{Free, Mirrored, Parity}
use Rattle.ar_store.specs.Store.{StoreState, members_of, class_in}
use Rattle.ar_store.specs.Kept.{IsSpace}
use Rattle.ar_store.specs.Plans.{MakesAccesses}
use Rattle.ar_store.proofs.Spaces.{slot_group}
use Rattle.ar_rebuild.specs.declared.step.Rebuild.{Rebuild}
use Rattle.ar_rebuild.specs.declared.step.Rebuild.TheVariants.{Rebuilt, Finished, Idle, GivenUp, Broken}
use Rattle.ar_rebuild.specs.Plans.{row_attempts, rows_attempts, member_plan, IsMemberNext, HasNothingNext, after_answer}
use Rattle.ar_rebuild.specs.Plans.{CarriesOutRebuild, row_kinds, rows_kinds}
use Rattle.ar_rebuild.proofs.Attempts.{AllUsed}
use Rattle.ar_rebuild.proofs.Reported.{rows_used}

-- the kinds of accesses, and of attempts
abbrev kinds_made : List RowAccess → List AccessKind
kinds_made made = map (λ (x : RowAccess). x.kind) made

abbrev kinds_tried : List Attempt → List AccessKind
kinds_tried ts = map (λ (t : Attempt). t.kind) ts

planned_at : (k : Bool) (t : Attempt) (more : List RowAccess) → k ≡ false
    → kinds_made (cond k [] (access_of t true ∷ more)) ≡ t.kind ∷ kinds_made more
planned_at k t more used = ap (λ b. kinds_made (cond b [] (access_of t true ∷ more))) used

-- attempts of which none is skipped are one access each
all_planned : (ts : List Attempt) (h : Health) → AllUsed h ts → kinds_made (planned (all_of ts Stop) h) ≡ kinds_tried ts
all_planned [] h used = refl
all_planned (t ∷ ts) h used =
    planned_at (skips h t) t (planned (all_of ts Stop) h) used.0 ∙ ap (λ ks. t.kind ∷ ks) (all_planned ts h used.1)

row_tried : (class : Class) (m : Members) (i row : ℕ) → kinds_tried (row_attempts class m i row) ≡ row_kinds class
row_tried Free m i row = refl
row_tried Mirrored m i row = refl
row_tried Parity m i row = refl

rows_tried : (class : Class) (m : Members) (i n : ℕ) → kinds_tried (rows_attempts class m i n) ≡ rows_kinds class n
rows_tried class m i zero = refl
rows_tried class m i (suc n) =
    map-append (λ (t : Attempt). t.kind) (rows_attempts class m i n) (row_attempts class m i n)
    ∙ ap (λ ks. ks ++ kinds_tried (row_attempts class m i n)) (rows_tried class m i n)
    ∙ ap (λ ks. rows_kinds class n ++ ks) (row_tried class m i n)

-- whether the extent counts as done then changes neither the log nor a disk
answer_log : (r : Rebuild) (s : SetState) → (after_answer r s).log ≡ s.log
answer_log (Rebuilt extent left) s = refl
answer_log Finished s = refl
answer_log Idle s = refl
answer_log GivenUp s = refl
answer_log Broken s = refl

answer_faults : (r : Rebuild) (s : SetState) (d : ℕ) → faults_of (after_answer r s) d ≡ faults_of s d
answer_faults (Rebuilt extent left) s d = refl
answer_faults Finished s d = refl
answer_faults Idle s d = refl
answer_faults GivenUp s d = refl
answer_faults Broken s d = refl

none_before : (r : Rebuild) (a b c : SetState) → c ≡ after_answer r b → NoneFaults a c → NoneFaults a b
none_before r a b c is none =
    record { faults = λ d. sym (answer_faults r b d) ∙ ap (λ (s : SetState). faults_of s d) (sym is) ∙ none.faults d }

-- the rows of a group's member
pub rebuild_made : (class : Class) (old : StoreState) (r : Rebuild) (new : SetState) (g i : ℕ) → IsSpace old
    → IsMemberNext old g i → class_in old g ≡ class
    → NoneFaults old.disks new → CarriesOutRebuild old r new
    → MakesAccesses (rows_kinds class (rows_of old.disks.geometry)) old.disks new
rebuild_made class old r new g i space next class_is none carried =
    let a = old.disks in
    let b = carried.written in
    let n = rows_of a.geometry in
    let m = members_of old g in
    let plan = member_plan (class_in old g) m i n in
    let used = rows_used m a.health (slot_group old g space next.there).apart next.rebuilding (class_in old g) i n
    next.below
    (ap (λ (p : Place). p.disk) next.is) in
    record {
      made = planned plan a.health;
      log =
          ap (λ (s : SetState). s.log) carried.done ∙ answer_log r b
          ∙ planned_made plan a b (carried.accesses.plan g i next) (none_before r a b new carried.done none);
      kinds_are =
          all_planned (rows_attempts (class_in old g) m i n) a.health used ∙ rows_tried (class_in old g) m i n
          ∙ ap (λ c. rows_kinds c n) class_is;
    }

-- nothing was to be written
pub nothing_made : (old : StoreState) (r : Rebuild) (new : SetState) → HasNothingNext old → CarriesOutRebuild old r new
    → MakesAccesses [] old.disks new
nothing_made old r new nothing carried = record {
  made = [];
  log =
      ap (λ (s : SetState). s.log) carried.done ∙ answer_log r carried.written
      ∙ ap (λ (s : SetState). s.log) (carried.accesses.nothing nothing) ∙ sym (append-nil old.disks.log);
  kinds_are = refl;
}

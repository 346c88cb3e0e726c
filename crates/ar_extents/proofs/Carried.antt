-- What every plan leaves of a set: no disk fails without a cause, and what isn't used stays.
use Rattle.std.proofs.Common.{◌≡◌, ℕ, true, false, List, [], refl, ◌∙◌, ap}
use Rattle.std.proofs.lemmas.List.{append-nil, ext_get_or}
use Rattle.ar_disks.specs.declared.geometry.Geometry.{Geometry}
use Rattle.ar_disks.specs.Disk.{DiskState}
use Rattle.ar_extents.specs.declared.health.Health.{Health}
use Rattle.ar_extents.specs.declared.health.Health.TheVariants.{Broken}
use Rattle.ar_extents.specs.declared.log.RowAccess.{RowAccess}
use Rattle.ar_extents.specs.declared.log.AccessKind.{AccessKind}
use Rattle.ar_extents.specs.declared.log.AccessKind.TheVariants.{Read, Write, Rebuild}
use Rattle.ar_extents.specs.Health.{is_lost}
use Rattle.ar_extents.specs.Set.{SetState, IsLost, no_disk}
use Rattle.ar_extents.specs.Follows.{Follows, Keeps}
use Rattle.ar_extents.specs.Log.{AccountsFor}
use Rattle.ar_extents.specs.Plans.{Attempt, Attempts, AccessPlan, Stop, Try, IfMissing, both_of, UsesOnly}
use Rattle.ar_extents.specs.Plans.{RebuildsNothing}
use Rattle.ar_extents.specs.Plans.{CarriesOut, stops, goes_on, falls_back, without, with_it, is_skipped, skips}
use Rattle.ar_extents.proofs.Follows.{follows_refl, follows_then, keeps_refl, lost_then}
use Rattle.ar_extents.proofs.Plans.{none_made, broken_skips}
use Rattle.ar_extents.proofs.Asking.{attempt_follows, attempt_loose, works_attempt}

-- no disk fails without a cause
pub plan_follows : (plan : AccessPlan) (a b : SetState) → CarriesOut plan a b → Follows a b
plan_follows Stop a _ (stops _) = follows_refl a
plan_follows (Try t next other) a b (goes_on _ _ _ _ m _ tried rest) =
    follows_then a m b (attempt_follows t true a m tried) (plan_follows next m b rest)
plan_follows (Try t next other) a b (falls_back _ _ _ _ m _ tried rest) =
    follows_then a m b (attempt_follows t false a m tried) (plan_follows other m b rest)
plan_follows (IfMissing p next other) a b (without _ _ _ _ _ is rest) = plan_follows next a b rest
plan_follows (IfMissing p next other) a b (with_it _ _ _ _ _ is rest) = plan_follows other a b rest

-- unassigned extents stay so
pub plan_loose : (plan : AccessPlan) (a b : SetState) → CarriesOut plan a b → b.loose ≡ a.loose
plan_loose Stop a _ (stops _) = refl
plan_loose (Try t next other) a b (goes_on _ _ _ _ m _ tried rest) =
    plan_loose next m b rest ∙ attempt_loose t true a m tried
plan_loose (Try t next other) a b (falls_back _ _ _ _ m _ tried rest) =
    plan_loose other m b rest ∙ attempt_loose t false a m tried
plan_loose (IfMissing p next other) a b (without _ _ _ _ _ is rest) = plan_loose next a b rest
plan_loose (IfMissing p next other) a b (with_it _ _ _ _ _ is rest) = plan_loose other a b rest

use_skipped : (kind : AccessKind) (t : Attempt) (h : Health) → t.kind ≡ kind → UsesOnly kind
    → skips h t ≡ is_lost h t.place.disk t.place.extent
use_skipped Read t h is uses = ap (λ (k : AccessKind). is_skipped h k t.place) is
use_skipped Write t h is uses = ap (λ (k : AccessKind). is_skipped h k t.place) is
use_skipped Rebuild t h is uses = absurd uses

use_lost : (t : Attempt) (answered : _) (a b : SetState) → UsesOnly t.kind → Attempts t answered a b
    → Keeps (IsLost a) a b
use_lost t answered a b uses tried = (works_attempt t answered a b (use_skipped t.kind t a.health refl uses) tried).lost

-- a lost extent keeps its rows, but for a rebuild's
pub plan_lost : (plan : AccessPlan) (a b : SetState) → RebuildsNothing plan → CarriesOut plan a b → Keeps (IsLost a) a b
plan_lost Stop a _ none (stops _) = keeps_refl (IsLost a) a
plan_lost (Try t next other) a b none (goes_on _ _ _ _ m _ tried rest) =
    lost_then a m b (attempt_follows t true a m tried) (use_lost t true a m none.0 tried)
    (plan_lost next m b none.1 rest)
plan_lost (Try t next other) a b none (falls_back _ _ _ _ m _ tried rest) =
    lost_then a m b (attempt_follows t false a m tried) (use_lost t false a m none.0 tried)
    (plan_lost other m b none.2 rest)
plan_lost (IfMissing p next other) a b none (without _ _ _ _ _ is rest) = plan_lost next a b none.0 rest
plan_lost (IfMissing p next other) a b none (with_it _ _ _ _ _ is rest) = plan_lost other a b none.1 rest

-- two plans without a rebuild
pub rebuilds_neither : (first last : AccessPlan) → RebuildsNothing first → RebuildsNothing last
    → RebuildsNothing (both_of first last)
rebuilds_neither Stop last first_none last_none = last_none
rebuilds_neither (Try t next other) last first_none last_none = (
  first_none.0,
  rebuilds_neither next last first_none.1 last_none,
  rebuilds_neither other last first_none.2 last_none,
)
rebuilds_neither (IfMissing p next other) last first_none last_none =
    (rebuilds_neither next last first_none.0 last_none, rebuilds_neither other last first_none.1 last_none)

same_set : (a b : SetState) → AccountsFor [] a b → b ≡ a
same_set a b made =
    let disks : b.disks ≡ a.disks = ext_get_or no_disk b.disks a.disks made.count (λ d lt. made.disks d refl) in
    ap (λ (g : Geometry). let s : SetState = record b { geometry = g } in s) made.geometry
    ∙ ap (λ (n : ℕ). let s : SetState = record b { geometry = a.geometry; extents = n } in s) made.extents
    ∙ ap (λ (ds : List DiskState). let s : SetState =
    record b { geometry = a.geometry; extents = a.extents; disks = ds } in s) disks
    ∙ ap (λ (h : Health). let s : SetState = record a { health = h; loose = b.loose; log = b.log } in s) made.health
    ∙ ap (λ l. let s : SetState = record a { loose = l; log = b.log } in s) made.loose
    ∙ ap (λ (l : List RowAccess). let s : SetState = record a { log = l } in s) (made.log ∙ append-nil a.log)

-- a skipped attempt changes nothing
pub skipped_same : (t : Attempt) (answered : _) (a b : SetState) → skips a.health t ≡ true → Attempts t answered a b
    → b ≡ a
skipped_same t answered a b skip tried = same_set a b (none_made t answered a b skip tried)

broken_attempt : (t : Attempt) (answered : _) (a b : SetState) → a.health ≡ Broken → Attempts t answered a b → b ≡ a
broken_attempt t answered a b broken tried =
    skipped_same t answered a b (ap (λ (h : Health). skips h t) broken ∙ broken_skips t.kind t.place) tried

-- a set that had failed is unchanged
pub plan_broken : (plan : AccessPlan) (a b : SetState) → a.health ≡ Broken → CarriesOut plan a b → b ≡ a
plan_broken Stop a _ broken (stops _) = refl
plan_broken (Try t next other) a b broken (goes_on _ _ _ _ m _ tried rest) =
    let same = broken_attempt t true a m broken tried in
    plan_broken next m b (ap (λ (s : SetState). s.health) same ∙ broken) rest ∙ same
plan_broken (Try t next other) a b broken (falls_back _ _ _ _ m _ tried rest) =
    let same = broken_attempt t false a m broken tried in
    plan_broken other m b (ap (λ (s : SetState). s.health) same ∙ broken) rest ∙ same
plan_broken (IfMissing p next other) a b broken (without _ _ _ _ _ is rest) = plan_broken next a b broken rest
plan_broken (IfMissing p next other) a b broken (with_it _ _ _ _ _ is rest) = plan_broken other a b broken rest

-- Runs of reads and writes: what holds of each holds of all together.
use Rattle.std.proofs.Common.{◌≡◌, ◌≢◌, ◌⊎◌, inl, inr, ℕ, ◌<◌, Bool, true, List, [], ◌∷◌, length, refl, sym, ◌∙◌, ap}
use Rattle.std.proofs.Common.{subst, arith}
use Rattle.std.proofs.lemmas.Bool.{cases_lt}
use Rattle.std.proofs.lemmas.List.{get_or-set_other, get_or_append_left}
use Rattle.ar_disks.specs.declared.address.Place.{Place}
use Rattle.ar_disks.specs.Disk.{DiskState, block_at}
use Rattle.ar_extents.specs.declared.health.Health.{Health}
use Rattle.ar_extents.specs.declared.health.Health.TheVariants.{Whole, Out, Rebuilding, Broken}
use Rattle.ar_extents.specs.Health.{IsDown, is_out}
use Rattle.ar_extents.specs.Set.{SetState, HasExtent, disk_in, faults_of, no_disk, content, IsLost}
use Rattle.ar_extents.specs.Changes.{replaced, added}
use Rattle.ar_extents.specs.Follows.{Follows, Faulted, IsHit, TwoHit, Keeps, IsPlace, IsEither, WorksOn, WorksInTurn}
use Rattle.ar_extents.proofs.Losses.{stays_lost, stays_out}

-- nothing happened
pub follows_refl : (s : SetState) → Follows s s
follows_refl s = record {
  geometry = refl;
  extents = refl;
  count = refl;
  faults = λ d. omega arith;
  noticed = λ d more. absurd (omega arith);
  usable = λ place sound. sound;
  out = λ d is. inl is;
  rebuilding = λ d done is. is;
  broken = λ is. inl is;
}

down_before : (a b c : SetState) (h : Health) (d : ℕ) → Follows a b → Follows b c → b.health ≡ h → IsDown h d
    → IsHit a c d
down_before a b c Whole d ab bc is down = absurd down
down_before a b c (Out x) d ab bc is down =
    elim (ab.out x is) [
      | inl was ↦ inl (let P : Health → Type 0 = λ h. IsDown h d in subst P (sym was) down)
      | inr grew ↦ inr (let same = down in let more = bc.faults d in let P : ℕ
          → Type 0 = λ n. Faulted a b n in let grown : Faulted a b d = subst P (sym down) grew in omega arith)
    ]
down_before a b c (Rebuilding x done) d ab bc is down =
    inl (let P : Health → Type 0 = λ h. IsDown h d in subst P (sym (ab.rebuilding x done is)) down)
down_before a b c Broken d ab bc is down = absurd down

-- what was hit in the second run was hit in both together
pub hit_then : (a b c : SetState) (d : ℕ) → Follows a b → Follows b c → IsHit b c d → IsHit a c d
hit_then a b c d ab bc (inl down) = down_before a b c b.health d ab bc refl down
hit_then a b c d ab bc (inr grew) = inr (let before = ab.faults d in omega arith)

-- what was hit in the first run too
pub hit_before : (a b c : SetState) (d : ℕ) → Follows b c → IsHit a b d → IsHit a c d
hit_before a b c d bc (inl down) = inl down
hit_before a b c d bc (inr grew) = inr (let after = bc.faults d in omega arith)

two_then : (a b c : SetState) → Follows a b → Follows b c → TwoHit b c → TwoHit a c
two_then a b c ab bc two = record {
  one = two.one;
  other = two.other;
  apart = two.apart;
  one_hit = hit_then a b c two.one ab bc two.one_hit;
  other_hit = hit_then a b c two.other ab bc two.other_hit;
}

two_before : (a b c : SetState) → Follows b c → TwoHit a b → TwoHit a c
two_before a b c bc two = record {
  one = two.one;
  other = two.other;
  apart = two.apart;
  one_hit = hit_before a b c two.one bc two.one_hit;
  other_hit = hit_before a b c two.other bc two.other_hit;
}

out_then : (a b c : SetState) (d : ℕ) → Follows a b → Follows b c → (b.health ≡ Out d) ⊎ Faulted b c d
    → (a.health ≡ Out d) ⊎ Faulted a c d
out_then a b c d ab bc (inl was) =
    elim (ab.out d was) [ inl is ↦ inl is | inr grew ↦ inr (let after = bc.faults d in omega arith) ]
out_then a b c d ab bc (inr grew) = inr (let before = ab.faults d in omega arith)

broken_then : (a b c : SetState) → Follows a b → Follows b c → (b.health ≡ Broken) ⊎ TwoHit b c
    → (a.health ≡ Broken) ⊎ TwoHit a c
broken_then a b c ab bc (inl was) = elim (ab.broken was) [ inl is ↦ inl is | inr two ↦ inr (two_before a b c bc two) ]
broken_then a b c ab bc (inr two) = inr (two_then a b c ab bc two)

noticed_then : (a b c : SetState) (d : ℕ) → Follows a b → Follows b c → Faulted a c d → is_out c.health d ≡ true
noticed_then a b c d ab bc more =
    elim (cases_lt (faults_of a d) (faults_of b d))
    [ inl first ↦ stays_out b c d bc (ab.noticed d first) | inr none ↦ bc.noticed d (omega arith) ]

-- two runs, one after the other
pub follows_then : (a b c : SetState) → Follows a b → Follows b c → Follows a c
follows_then a b c ab bc = record {
  geometry = bc.geometry ∙ ab.geometry;
  extents = bc.extents ∙ ab.extents;
  count = bc.count ∙ ab.count;
  faults = λ d. let first = ab.faults d in let second = bc.faults d in omega arith;
  noticed = λ d more. noticed_then a b c d ab bc more;
  usable = λ place sound. ab.usable place (bc.usable place sound);
  out = λ d is. out_then a b c d ab bc (bc.out d is);
  rebuilding = λ d done is. ab.rebuilding d done (bc.rebuilding d done is);
  broken = λ is. broken_then a b c ab bc (bc.broken is);
}

-- contents stay where nothing happened
pub keeps_refl : (these : Place → Type 0) (s : SetState) → Keeps these s s
keeps_refl these s = record { rows = λ place is row. refl }

-- contents that stay in two runs stay in both together
pub keeps_then : (these : Place → Type 0) (a b c : SetState) → Keeps these a b → Keeps these b c → Keeps these a c
keeps_then these a b c ab bc = record { rows = λ place is row. bc.rows place is row ∙ ab.rows place is row }

-- fewer places
pub keeps_fewer : (these those : Place → Type 0) (a b : SetState) → ((place : Place) → those place → these place)
    → Keeps these a b → Keeps those a b
keeps_fewer these those a b fewer ab = record { rows = λ place is row. ab.rows place (fewer place is) row }

-- a lost extent that keeps its content in two runs keeps it in both together
pub lost_then : (a b c : SetState) → Follows a b → Keeps (IsLost a) a b → Keeps (IsLost b) b c → Keeps (IsLost a) a c
lost_then a b c ab first second =
    record { rows = λ p lost row. second.rows p (stays_lost a b p ab lost) row ∙ first.rows p lost row }

-- no work
pub works_refl : (these : Place → Type 0) (s : SetState) → WorksOn these s s
works_refl these s =
    record {
      follows = follows_refl s;
      loose = refl;
      lost = keeps_refl (IsLost s) s;
      touches = record { disks = λ d none. refl };
    }

-- work on some extents, and more on them
pub works_then : (these : Place → Type 0) (a b c : SetState) → WorksOn these a b → WorksOn these b c → WorksOn these a c
works_then these a b c ab bc = record {
  follows = follows_then a b c ab.follows bc.follows;
  loose = bc.loose ∙ ab.loose;
  lost = lost_then a b c ab.follows ab.lost bc.lost;
  touches = record {
    disks = λ d none.
        bc.touches.disks d (λ p is sound. none p is (ab.follows.usable p sound)) ∙ ab.touches.disks d none;
  };
}

-- work on some extents is work on more
pub works_more : (these those : Place → Type 0) (a b : SetState) → ((place : Place) → these place → those place)
    → WorksOn these a b → WorksOn those a b
works_more these those a b more ab = record {
  follows = ab.follows;
  loose = ab.loose;
  lost = ab.lost;
  touches = record { disks = λ d none. ab.touches.disks d (λ p is sound. none p (more p is) sound) };
}

-- work on two extents in turn is work on both
pub works_in_turn : (one other : Place) (a b : SetState) → WorksInTurn one other a b → WorksOn (IsEither one other) a b
works_in_turn one other a b works =
    works_then (IsEither one other) a works.between b
    (works_more (IsPlace one) (IsEither one other) a works.between (λ p is. inl is) works.first)
    (works_more (IsPlace other) (IsEither one other) works.between b (λ p is. inr is) works.second)

-- work on the first alone
pub in_turn_first : (one other : Place) (a b : SetState) → WorksOn (IsPlace one) a b → WorksInTurn one other a b
in_turn_first one other a b works = record { between = b; first = works; second = works_refl (IsPlace other) b }

-- what isn't about disks or health may change in any run
pub follows_loose : (s : SetState) (loose : List (List Bool)) → Follows s (record s { loose = loose })
follows_loose s loose = record {
  geometry = refl;
  extents = refl;
  count = refl;
  faults = λ d. omega arith;
  noticed = λ d more. absurd (omega arith);
  usable = λ place sound. sound;
  out = λ d is. inl is;
  rebuilding = λ d done is. is;
  broken = λ is. inl is;
}

-- contents are the disks'
pub keeps_disks : (these : Place → Type 0) (old new : SetState) → new.disks ≡ old.disks → Keeps these old new
unfolding content
keeps_disks these old new same = record {
  rows = λ place is row. ap (λ (disks : List DiskState). block_at (disk_in disks place.disk) place.extent row) same;
}

-- a disk that is put in the place of another leaves the others' contents
pub keeps_replaced : (s : SetState) (d : ℕ) (disk : DiskState) → Keeps (λ p. p.disk ≢ d) s (replaced s d disk)
unfolding content
keeps_replaced s d disk = record {
  rows = λ place ne row. ap (λ (x : DiskState). block_at x place.extent row)
      (get_or-set_other s.disks d place.disk disk no_disk ne);
}

-- one more disk leaves the contents of all that were there
pub keeps_added : (s : SetState) (disk : DiskState) → Keeps (λ p. p.disk < length s.disks) s (added s disk)
unfolding content
keeps_added s disk = record {
  rows = λ place lt row. ap (λ (x : DiskState). block_at x place.extent row)
      (get_or_append_left s.disks (disk ∷ []) no_disk place.disk lt);
}

-- an extent stays there
pub has_extent_then : (a b : SetState) (place : Place) → Follows a b → HasExtent a place → HasExtent b place
has_extent_then a b place ab there =
    let count = ab.count in
    let extents = ab.extents in
    let disk = there.disk in
    let extent = there.extent in
    record { disk = omega arith; extent = omega arith }

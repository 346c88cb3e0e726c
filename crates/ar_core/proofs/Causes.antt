-- What events do to the health of the disks.
use Rattle.std.proofs.Common.{◌≡◌, ◌≢◌, ◌⊎◌, ℕ, ◌-◌, ◌<◌, ◌≤◌, true, false, [], ◌∷◌, refl, sym, ap, subst, inl, inr}
use Rattle.std.proofs.Common.{arith, ◌∙◌}
use Rattle.std.specs.Prelude.{◌==◌, length}
use Rattle.std.proofs.lemmas.Bool.{cases_Bool, cases_lt}
use Rattle.std.proofs.lemmas.Bool.Decides.{nat_tests}
use Rattle.std.proofs.lemmas.List.{get_or_past, get_or_append_left, get_or-set_other}
use Rattle.ar_disks.specs.Disk.{DiskState}
use Rattle.ar_extents.specs.declared.health.Health.{Health}
use Rattle.ar_extents.specs.declared.health.Health.TheVariants.{Whole, Out, Rebuilding, Broken}
use Rattle.ar_extents.specs.Changes.{failed, added, replaced}
use Rattle.ar_extents.specs.Health.{after_fault, IsDown}
use Rattle.ar_extents.specs.Set.{SetState, faults_of, no_disk}
use Rattle.ar_extents.specs.Follows.{Follows, Faulted, IsHit, TwoHit}
use Rattle.ar_extents.proofs.Losses.{stays_broken}
use Rattle.ar_rebuild.specs.Rebuild.{Advances}
use Rattle.ar_volume.specs.Image.{ArrayState, is_broken}
use Rattle.ar_volume.proofs.Breaking.{not_broken, sound_is}
use Rattle.ar_core.specs.Events.{Event}
use Rattle.ar_core.specs.declared.event.EventOf.TheVariants.{AddDisk, DiskOut, Replace}
use Rattle.ar_core.specs.Causes.{HasCause, HurtsNone, IsTakenOut, IsNotReplaced, FaultsIn, IsHitBy, AreTwoHitBy}

-- an array that isn't broken wasn't
pub was_sound : (event : Event) (old new : ArrayState) → HasCause event old.store.disks new.store.disks
    → is_broken new ≡ false → is_broken old ≡ false
was_sound event old new cause now =
    sound_is old.store.disks.health (λ lost. not_broken new.store.disks.health now (cause.stays_broken lost))

-- a disk whose fault count has grown is there, where no disk has come
faulted_there : (old new : SetState) (d : ℕ) → length new.disks ≡ length old.disks → Faulted old new d
    → d < length old.disks
faulted_there old new d count fault =
    elim (cases_lt d (length old.disks)) [
      | inl there ↦ there
      | inr past ↦ absurd (
          let was : faults_of old d ≡ 0 = ap (λ (x : DiskState). x.faults) (get_or_past old.disks d no_disk past) in
          let is : faults_of new d ≡ 0 =
          ap (λ (x : DiskState). x.faults) (get_or_past new.disks d no_disk (omega arith)) in
          omega arith)
    ]

-- so it has faulted in an event that replaces none
faults_in : (event : Event) (old new : SetState) (d : ℕ) → ((x : ℕ) → IsNotReplaced event x)
    → length new.disks ≡ length old.disks
    → Faulted old new d → FaultsIn event old new d
faults_in event old new d stay count fault =
    record { there = faulted_there old new d count fault; same = stay d; more = fault }

hit_in : (event : Event) (old new : SetState) (d : ℕ) → ((x : ℕ) → IsNotReplaced event x)
    → length new.disks ≡ length old.disks
    → IsHit old new d → IsHitBy event old new d
hit_in event old new d stay count hit =
    elim hit [ inl down ↦ inl down | inr fault ↦ inr (inl (faults_in event old new d stay count fault)) ]

two_in : (event : Event) (old new : SetState) → ((x : ℕ) → IsNotReplaced event x) → length new.disks ≡ length old.disks
    → TwoHit old new
    → AreTwoHitBy event old new
two_in event old new stay count two = record {
  one = two.one;
  other = two.other;
  apart = two.apart;
  one_hit = hit_in event old new two.one stay count two.one_hit;
  other_hit = hit_in event old new two.other stay count two.other_hit;
}

-- a disk that is being rebuilt is down
rebuilding_down : (h : Health) (d done : ℕ) → h ≡ Rebuilding d done → IsDown h d
rebuilding_down h d done is = subst (λ (k : Health). IsDown k d) (sym is) refl

-- reads and writes lose no disk without a fault, whatever the event, if it replaces none
pub cause_follows : (event : Event) (old new : SetState) → ((x : ℕ) → IsNotReplaced event x) → Follows old new
    → HasCause event old new
cause_follows event old new stay follows = record {
  geometry = follows.geometry;
  extents = follows.extents;
  faults = λ d _. follows.faults d;
  noticed = λ d fault. follows.noticed d fault.more;
  out = λ d out. elim (follows.out d out) [
    | inl was ↦ inl was
    | inr fault ↦
        inr (inl (faults_in event old new d stay follows.count fault))
  ];
  rebuilding = λ d done is. rebuilding_down old.health d done (follows.rebuilding d done is);
  broken = λ lost. elim (follows.broken lost) [
    | inl was ↦ inl was
    | inr two ↦
        inr (two_in event old new stay follows.count two)
  ];
  stays_broken = stays_broken old new follows;
}

-- nor does a step of a rebuild lose one so
pub cause_advances : (event : Event) (old new : SetState) → ((x : ℕ) → IsNotReplaced event x) → Advances old new
    → HasCause event old new
cause_advances event old new stay advances = record {
  geometry = advances.geometry;
  extents = advances.extents;
  faults = λ d _. advances.faults d;
  noticed = λ d fault. advances.noticed d fault.more;
  out = λ d out. elim (advances.out d out) [
    | inl was ↦ inl was
    | inr again ↦
        inr (inl (faults_in event old new d stay advances.count again.faulted))
  ];
  rebuilding = λ d done is. rebuilding_down old.health d (done - 1) ((advances.rebuilding d done is).1);
  broken = λ lost. elim (advances.broken lost) [
    | inl was ↦ inl was
    | inr two ↦
        inr (two_in event old new stay advances.count two)
  ];
  stays_broken = λ was. ap (λ (s : SetState). s.health) (advances.stays_broken was) ∙ was;
}

-- what taking a disk out makes of the health, by the health before
record Fails (d : ℕ) (h k : Health) : Type 0 where
  out : (x : ℕ) → k ≡ Out x → (h ≡ Out x) ⊎ (d ≡ x)
  rebuilding : (x n : ℕ) → k ≡ Rebuilding x n → ⊥
  broken : k ≡ Broken → (h ≡ Broken) ⊎ ((x : ℕ) × IsDown h x × (x ≢ d))
  stays : h ≡ Broken → k ≡ Broken

other_down : (d x : ℕ) (h : Health) → IsDown h x → (d == x) ≡ false → Fails d h Broken
other_down d x h down other = record {
  out = λ y is. absurd (cc);
  rebuilding = λ y n is. cc;
  broken = λ _. inr (x, down, λ same. (let no = other in absurd (grind (arith, nat_tests))));
  stays = λ _. refl;
}

fails : (d : ℕ) (h : Health) → Fails d h (after_fault h d)
fails d Whole = record {
  out = λ x is. inr (out_is d x is);
  rebuilding = λ x n is. cc;
  broken = λ is. absurd (cc);
  stays = λ is. absurd (cc);
}
  where
    out_is : (a b : ℕ) → Out a ≡ Out b → a ≡ b
    out_is a b e = cc
fails d (Out x) =
    elim (cases_Bool (d == x)) [
      | inl same ↦
          rw same (record {
            out = λ y is. inl is;
            rebuilding = λ y n is. cc;
            broken = λ is. absurd (cc);
            stays = λ is. absurd (cc);
          })
      | inr other ↦ rw other (other_down d x (Out x) refl other)
    ]
fails d (Rebuilding x n) =
    elim (cases_Bool (d == x)) [
      | inl same ↦
          rw same (record {
            out = λ y is. inr (out_here d x y same is);
            rebuilding = λ y m is. cc;
            broken = λ is. absurd (cc);
            stays = λ is. absurd (cc);
          })
      | inr other ↦ rw other (other_down d x (Rebuilding x n) refl other)
    ]
  where
    out_here : (a b c : ℕ) → (a == b) ≡ true → Out b ≡ Out c → a ≡ c
    out_here a b c same is =
        let there : b ≡ c = cc in
        let here : a ≡ b = grind (arith, nat_tests) in
        here ∙ there
fails d Broken =
    record { out = λ x is. absurd (cc); rebuilding = λ x n is. cc; broken = λ _. inl refl; stays = λ _. refl }

-- a disk that an event takes out is lost for that reason
pub cause_failed : (s : SetState) (d : ℕ) → d < length s.disks → HasCause (DiskOut d) s (failed s d)
cause_failed s d there =
    let does : Fails d s.health (after_fault s.health d) = fails d s.health in
    record {
      geometry = refl;
      extents = refl;
      faults = λ x _. omega arith;
      noticed = λ x fault. absurd (let more = fault.more in omega arith);
      out = λ x is. elim (does.out x is) [ inl was ↦ inl was | inr named ↦ inr (inr (taken x named)) ];
      rebuilding = λ x n is. absurd (does.rebuilding x n is);
      broken = λ is.
          elim (does.broken is) [
            | inl was ↦ inl was
            | inr other ↦
                inr (record {
                  one = other.0;
                  other = d;
                  apart = other.2;
                  one_hit = inl other.1;
                  other_hit = inr (inr (record { named = refl; there = there }));
                })
          ];
      stays_broken = does.stays;
    }
  where
    taken : (x : ℕ) → d ≡ x → IsTakenOut (DiskOut d) s x
    taken x same = record { named = ap DiskOut same; there = subst (λ y. y < length s.disks) same there }

-- nor is one where the disks are as they were
pub cause_same : (event : Event) (old new : SetState) → new ≡ old → HasCause event old new
cause_same event old new same =
    subst (λ (s : SetState). HasCause event old s) (sym same)
    (record {
      geometry = refl;
      extents = refl;
      faults = λ x _. omega arith;
      noticed = λ x fault. absurd (let more = fault.more in omega arith);
      out = λ x is. inl is;
      rebuilding = λ x n is. rebuilding_down old.health x n is;
      broken = λ is. inl is;
      stays_broken = λ is. is;
    })

-- an added disk leaves the others, and their health
pub cause_added : (s : SetState) (disk : DiskState) → HasCause (AddDisk disk) s (added s disk)
cause_added s disk = record {
  geometry = refl;
  extents = refl;
  faults = λ d _. more d;
  noticed = λ d fault. absurd (let more = fault.more in let same = here d fault.there in omega arith);
  out = λ d is. inl is;
  rebuilding = λ d n is. rebuilding_down s.health d n is;
  broken = λ is. inl is;
  stays_broken = λ is. is;
}
  where
    here : (d : ℕ) → d < length s.disks → faults_of (added s disk) d ≡ faults_of s d
    here d there = ap (λ (x : DiskState). x.faults) (get_or_append_left s.disks (disk ∷ []) no_disk d there)

    more : (d : ℕ) → faults_of s d ≤ faults_of (added s disk) d
    more d =
        elim (cases_lt d (length s.disks)) [
          | inl there ↦ (let same = here d there in omega arith)
          | inr past ↦ (let none = ap (λ (x : DiskState). x.faults) (get_or_past s.disks d no_disk past) in omega arith)
        ]

replaced_is : (a b c d : ℕ) → Rebuilding a b ≡ Rebuilding c d → a ≡ c
replaced_is a b c d e = cc

-- and so does one that is put in another's place, which then is being rebuilt
pub cause_replaced : (s : SetState) (number : ℕ) (disk : DiskState) → IsDown s.health number
    → HasCause (Replace number disk) s (replaced s number disk)
cause_replaced s number disk down = record {
  geometry = refl;
  extents = refl;
  faults = λ d stays. (let same = here d stays in omega arith);
  noticed = λ d fault. absurd (let more = fault.more in let same = here d fault.same in omega arith);
  out = λ d is. absurd (cc);
  rebuilding = λ d n is. subst (IsDown s.health) (replaced_is number 0 d n is) down;
  broken = λ is. absurd (cc);
  stays_broken = λ was. absurd (subst (λ (h : Health). IsDown h number) was down);
}
  where
    here : (d : ℕ) → IsNotReplaced (Replace number disk) d → faults_of (replaced s number disk) d ≡ faults_of s d
    here d stays =
        ap (λ (x : DiskState). x.faults)
        (get_or-set_other s.disks number d disk no_disk (λ is. stays disk (ap (λ x. Replace x disk) (sym is))))

-- disks that are whole stay so where none faults and none is taken out
pub whole_stays : (event : Event) (old new : SetState) → HasCause event old new → HurtsNone event old new
    → old.health ≡ Whole → new.health ≡ Whole
whole_stays event old new cause hurts whole = by new.health refl
  where
    no_down : (d : ℕ) → IsDown old.health d → ⊥
    no_down d down = subst (λ (h : Health). IsDown h d) whole down

    no_hit : (d : ℕ) → IsHitBy event old new d → ⊥
    no_hit d (inl down) = no_down d down
    no_hit d (inr (inl fault)) = hurts.no_fault d fault
    no_hit d (inr (inr taken)) = hurts.none_out d taken

    by : (h : Health) → new.health ≡ h → h ≡ Whole
    by Whole is = refl
    by (Out d) is =
        elim (cause.out d is) [
          | inl was ↦ absurd (let none = sym whole ∙ was in cc)
          | inr hit ↦ absurd (no_hit d (inr hit))
        ]
    by (Rebuilding d n) is = absurd (no_down d (cause.rebuilding d n is))
    by Broken is =
        elim (cause.broken is) [
          | inl was ↦ absurd (let none = sym whole ∙ was in cc)
          | inr two ↦ absurd (no_hit two.one two.one_hit)
        ]

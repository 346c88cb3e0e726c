-- Which extents are lost, and why.
use Rattle.std.proofs.Common.{◌≡◌, ◌≢◌, ◌⊎◌, inl, inr, ℕ, ◌+◌, ◌<◌, Bool, true, false, eqb, leb, ◌&&◌, refl, sym, ◌∙◌}
use Rattle.std.proofs.Common.{ap, subst, arith}
use Rattle.std.proofs.lemmas.Bool.{eqb-true, ne_eqb}
use Rattle.std.proofs.lemmas.Bool.Decides.{eqb_tells, leb_tells, nat_tests}
use Rattle.ar_disks.specs.declared.address.Place.{Place}
use Rattle.ar_extents.specs.declared.health.Health.{Health}
use Rattle.ar_extents.specs.declared.health.Health.TheVariants.{Whole, Out, Rebuilding, Broken}
use Rattle.ar_extents.specs.Health.{is_lost, is_missing, is_out, IsDown, IsRebuilding, after_done, rebuilt_disk}
use Rattle.ar_extents.specs.Health.{next_extent}
use Rattle.ar_extents.specs.Set.{SetState, IsSound, IsLost, IsMissing}
use Rattle.ar_extents.specs.Follows.{Follows, Faulted, TwoHit}
use Rattle.ar_extents.specs.Access.{next_place}
use Rattle.ar_extents.specs.Changes.{with_done}

bool_cases : (b : Bool) → (b ≡ true) ⊎ (b ≡ false)
bool_cases true = inl refl
bool_cases false = inr refl

and_left : (a b : Bool) → (a && b) ≡ true → a ≡ true
and_left true b e = refl
and_left false b e = absurd cc

-- an extent is one or the other
pub lost_or_sound : (s : SetState) (p : Place) → IsLost s p ⊎ IsSound s p
lost_or_sound s p = bool_cases (is_lost s.health p.disk p.extent)

-- and never both
pub lost_not_sound : (s : SetState) (p : Place) → IsLost s p → IsSound s p → ⊥
lost_not_sound s p lost sound = let k : true ≡ false = sym lost ∙ sound in cc

lost_of_missing : (h : Health) (d e : ℕ) → is_missing h d e ≡ true → is_lost h d e ≡ true
lost_of_missing Whole d e missing = missing
lost_of_missing (Out x) d e missing = missing
lost_of_missing (Rebuilding x done) d e missing = missing
lost_of_missing Broken d e missing = refl

-- a missing extent is lost
pub missing_lost : (s : SetState) (p : Place) → IsMissing s p → IsLost s p
missing_lost s p missing = lost_of_missing s.health p.disk p.extent missing

-- on a broken set every extent is
pub broken_lost : (s : SetState) (p : Place) → s.health ≡ Broken → IsLost s p
broken_lost s p is = let P : Health → Type 0 = λ h. is_lost h p.disk p.extent ≡ true in subst P (sym is) refl

missing_of_lost : (h : Health) (d e : ℕ) → is_lost h d e ≡ true → (is_missing h d e ≡ true) ⊎ (h ≡ Broken)
missing_of_lost Whole d e lost = inl lost
missing_of_lost (Out x) d e lost = inl lost
missing_of_lost (Rebuilding x done) d e lost = inl lost
missing_of_lost Broken d e lost = inr refl

-- and otherwise a lost extent is missing
pub lost_missing_or_broken : (s : SetState) (p : Place) → IsLost s p → IsMissing s p ⊎ (s.health ≡ Broken)
lost_missing_or_broken s p lost = missing_of_lost s.health p.disk p.extent lost

missing_at_mark : (h : Health) → IsRebuilding h → is_missing h (rebuilt_disk h) (next_extent h) ≡ true
missing_at_mark Whole is = absurd is
missing_at_mark (Out x) is = absurd is
missing_at_mark (Rebuilding x done) is = grind (arith, nat_tests)
missing_at_mark Broken is = absurd is

-- the extent that is rebuilt next is missing
pub next_missing : (s : SetState) → IsRebuilding s.health → IsMissing s (next_place s)
next_missing s is = missing_at_mark s.health is

sound_beside : (h : Health) (d e x f : ℕ) → is_missing h d e ≡ true → d ≢ x → is_lost h x f ≡ false
sound_beside Whole d e x f missing ne = absurd cc
sound_beside (Out y) d e x f missing ne =
    let same = eqb-true d y missing in ne_eqb x y (λ is. ne (same ∙ sym is))
sound_beside (Rebuilding y done) d e x f missing ne =
    let same = eqb-true d y (and_left (eqb d y) (leb done e) missing) in
    ap (λ (b : Bool). b && leb done f) (ne_eqb x y (λ is. ne (same ∙ sym is)))
sound_beside Broken d e x f missing ne = absurd cc

-- where an extent is missing, those of other disks are sound
pub other_sound : (s : SetState) (p q : Place) → IsMissing s p → p.disk ≢ q.disk → IsSound s q
other_sound s p q missing apart = sound_beside s.health p.disk p.extent q.disk q.extent missing apart

-- what was lost stays so in a run of reads and writes
pub stays_lost : (a b : SetState) (p : Place) → Follows a b → IsLost a p → IsLost b p
stays_lost a b p ab lost =
    elim (lost_or_sound b p) [ inl is ↦ is | inr sound ↦ absurd (lost_not_sound a p lost (ab.usable p sound)) ]

lost_out : (h : Health) (d e : ℕ) → is_out h d ≡ true → is_lost h d e ≡ true
lost_out Whole d e out = out
lost_out (Out x) d e out = out
lost_out (Rebuilding x done) d e out = absurd cc
lost_out Broken d e out = refl

out_of : (h : Health) (d : ℕ) → ((e : ℕ) → is_lost h d e ≡ true) → ((x done : ℕ) → h ≡ Rebuilding x done → ⊥)
    → is_out h d ≡ true
out_of Whole d all not_rebuilt = all 0
out_of (Out x) d all not_rebuilt = all 0
out_of (Rebuilding x done) d all not_rebuilt = absurd (not_rebuilt x done refl)
out_of Broken d all not_rebuilt = refl

out_not_rebuilt : (h : Health) (d x done : ℕ) → is_out h d ≡ true → h ≡ Rebuilding x done → ⊥
out_not_rebuilt h d x done out is = let P : Health → Type 0 = λ k. is_out k d ≡ true in let k : false ≡ true =
    subst P is out in cc

-- a disk that is out stays so, or the set is broken
pub stays_out : (a b : SetState) (d : ℕ) → Follows a b → is_out a.health d ≡ true → is_out b.health d ≡ true
stays_out a b d ab out =
    out_of b.health d (λ e. let p : Place = record { disk = d; extent = e } in
    stays_lost a b p ab (lost_out a.health d e out))
    (λ x done is. out_not_rebuilt a.health d x done out (ab.rebuilding x done is))

broken_of : (h : Health) → ((d e : ℕ) → is_lost h d e ≡ true) → ((x done : ℕ) → h ≡ Rebuilding x done → ⊥) → h ≡ Broken
broken_of Whole all not_rebuilt = absurd (let k : false ≡ true = all 0 0 in cc)
broken_of (Out x) all not_rebuilt = absurd (let k : x + 1 ≡ x = eqb-true (x + 1) x (all (x + 1) 0) in omega arith)
broken_of (Rebuilding x done) all not_rebuilt = absurd (not_rebuilt x done refl)
broken_of Broken all not_rebuilt = refl

-- a broken set stays so
pub stays_broken : (a b : SetState) → Follows a b → a.health ≡ Broken → b.health ≡ Broken
stays_broken a b ab is =
    broken_of b.health (λ d e. let p : Place = record { disk = d; extent = e } in
    stays_lost a b p ab (broken_lost a p is))
    (λ x done rebuilding. let k : Broken ≡ Rebuilding x done = sym is ∙ ab.rebuilding x done rebuilding in cc)

down_alone : (h : Health) (x y : ℕ) → IsDown h x → IsDown h y → x ≡ y
down_alone Whole x y p q = absurd p
down_alone (Out z) x y p q = p ∙ sym q
down_alone (Rebuilding z done) x y p q = p ∙ sym q
down_alone Broken x y p q = absurd p

two_cause : (a b : SetState) → TwoHit a b → (d : ℕ) × Faulted a b d
two_cause a b two =
    elim two.one_hit [
      | inr grew ↦ (two.one, grew)
      | inl down ↦
          elim two.other_hit [
            | inr grew ↦ (two.other, grew)
            | inl other ↦
                absurd (two.apart (down_alone a.health two.one two.other down other))
          ]
    ]

loss_cause : (a b : SetState) (p : Place) (h : Health) → b.health ≡ h → Follows a b → IsSound a p → IsLost b p
    → (d : ℕ) × Faulted a b d
loss_cause a b p Whole is ab sound lost =
    absurd (let P : Health → Type 0 = λ h. is_lost h p.disk p.extent ≡ true in let k : false
    ≡ true = subst P is lost in cc)
loss_cause a b p (Out x) is ab sound lost =
    elim (ab.out x is) [
      | inr grew ↦ (x, grew)
      | inl was ↦
          absurd (lost_not_sound b p lost (ap (λ (h : Health). is_lost h p.disk p.extent) (is ∙ sym was) ∙ sound))
    ]
loss_cause a b p (Rebuilding x done) is ab sound lost =
    absurd (lost_not_sound b p lost (ap (λ (h : Health). is_lost h p.disk p.extent) (is ∙ sym (ab.rebuilding x done is))
    ∙ sound))
loss_cause a b p Broken is ab sound lost =
    elim (ab.broken is) [
      | inr two ↦ two_cause a b two
      | inl was ↦
          absurd (lost_not_sound a p (broken_lost a p was) sound)
    ]

-- what was sound and is lost has a cause: some disk's fault count has grown
pub lost_has_cause : (a b : SetState) (p : Place) → Follows a b → IsSound a p → IsLost b p → (d : ℕ) × Faulted a b d
lost_has_cause a b p ab sound lost = loss_cause a b p b.health refl ab sound lost

done_sound : (h : Health) (n d e : ℕ) → e < n → ((d ≡ rebuilt_disk h) → (e ≡ next_extent h) → ⊥)
    → is_lost (after_done h n) d e ≡ false → is_lost h d e ≡ false
done_sound Whole n d e lt ne sound = refl
done_sound (Out x) n d e lt ne sound = sound
done_sound (Rebuilding x done) n d e lt ne sound =
    elim (eqb_tells d x) [
      | inr q ↦ ap (λ (b : Bool). b && leb done e) q.0
      | inl q ↦
          elim (leb_tells done e) [
            | inr r ↦ ap (λ (b : Bool). b && leb done e) q.0 ∙ r.0
            | inl r ↦
                elim (eqb_tells (done + 1) n) [
                  | inl z ↦ absurd (ne q.1 (let last = z.1 in let more = r.1 in omega arith))
                  | inr z ↦ absurd (let k : (eqb d x && leb (done + 1) e) ≡ false = rw z.0 at sound in
                      let lt_done : done < e =
                      (let other = ne q.1 in let more = r.1 in omega arith) in grind (arith, nat_tests))
                ]
          ]
    ]
done_sound Broken n d e lt ne sound = sound

-- once an extent counts as done, it is the only one that came to be sound
pub sound_with_done : (s : SetState) (p : Place) → p.extent < s.extents → p ≢ next_place s → IsSound (with_done s) p
    → IsSound s p
sound_with_done s p lt ne sound =
    done_sound s.health s.extents p.disk p.extent lt
    (λ disk extent. ne (ap (λ (d : ℕ). let there : Place = record { disk = d; extent = p.extent } in there) disk
    ∙ ap (λ (e : ℕ). let there : Place = record { disk = rebuilt_disk s.health; extent = e } in there) extent))
    sound

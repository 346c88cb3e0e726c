-- Which members of a group are worked on.
use Rattle.std.proofs.Common.{◌≡◌, ◌≢◌, inl, inr, ℕ, ◌<◌, false, sym, ◌∙◌, ap, subst}
use Rattle.ar_disks.specs.declared.address.Place.{Place}
use Rattle.ar_disks.specs.declared.address.Members.{Members}
use Rattle.ar_disks.specs.Members.{member}
use Rattle.ar_extents.specs.declared.health.Health.{Health}
use Rattle.ar_extents.specs.Health.{IsRebuilding, rebuilt_disk}
use Rattle.ar_extents.specs.declared.health.Health.TheVariants.{Broken}
use Rattle.ar_extents.specs.Set.{SetState, IsSound, IsMissing, IsLost}
use Rattle.ar_extents.specs.Follows.{Follows, Keeps, KeepsBut, Anywhere, LeavesDisks, IsPlace, IsEither, WorksOn}
use Rattle.ar_extents.specs.Access.{next_place}
use Rattle.ar_extents.specs.Plans.{Attempts, read_at}
use Rattle.std.proofs.lemmas.Bool.Decides.{eqb_tells}
use Rattle.ar_extents.specs.Groups.{IsGroup, IsMember}
use Rattle.ar_extents.proofs.Follows.{works_more}
use Rattle.ar_extents.proofs.Asking.{attempt_follows, unread_lost}
use Rattle.ar_extents.proofs.Losses.{missing_lost, next_missing, lost_not_sound, lost_missing_or_broken, stays_lost}
use Rattle.ar_extents.proofs.Losses.{other_sound}
use Rattle.ar_parity.specs.Row.{Blocks}
use Rattle.ar_parity.specs.Group.{RowAgrees}
use Rattle.ar_parity.proofs.Agrees.{add_up_then, agrees_read}

-- where another disk's extent is lost, a read that fails leaves a set that has failed
pub unread_beside : (lost p : Place) (row : ℕ) (a b : SetState) → IsLost a lost → lost.disk ≢ p.disk
    → Attempts (read_at p row) false a b → b.health ≡ Broken
unread_beside lost p row a b was apart tried =
    elim (lost_missing_or_broken b lost (stays_lost a b lost (attempt_follows (read_at p row) false a b tried) was)) [
      | inr broken ↦ broken
      | inl missing ↦ absurd (lost_not_sound b p (unread_lost p row a b tried) (other_sound b lost p missing apart))
    ]

-- work on the one, and on the other of two members
pub first_of_two : (m : Members) (i j : ℕ) (a b : SetState) → WorksOn (IsPlace (member m i)) a b
    → WorksOn (IsEither (member m i) (member m j)) a b
first_of_two m i j a b works =
    works_more (IsPlace (member m i)) (IsEither (member m i) (member m j)) a b (λ p is. inl is) works

-- The extent that is rebuilt was written, once its group was read: every row agrees on what it agreed on.
pub rebuilt_agrees : (a b c : SetState) (m : Members) (row : ℕ) → IsRebuilding a.health
    → WorksOn (IsMember m) a b → Keeps Anywhere a b → b.health ≡ a.health → Follows b c
    → KeepsBut (next_place b) row b c
    → (r : ℕ) (blocks : Blocks) → RowAgrees a m r blocks → RowAgrees c m r blocks
rebuilt_agrees a b c m row rebuilding works keeps health bc but r blocks agrees =
    let read = agrees_read a b m r blocks works.follows keeps agrees in
    record {
      add_up = add_up_then b c blocks bc read.add_up;
      stand = λ i lt. record {
        content_is = λ sound.
            (let before = bc.usable (member m i) sound in
            but.other_places.rows (member m i)
            (λ is.
            (let P : Health → Type 0 = λ h. IsRebuilding h in
            let Q : Place → Type 0 = λ p. IsSound b p in
            lost_not_sound b (next_place b)
            (missing_lost b (next_place b) (next_missing b (subst P (sym health) rebuilding))) (subst Q is before)))
            r
            ∙ (read.stand i lt).content_is before);
      };
    }

-- while a member is rebuilt, work on the group that doesn't use it leaves its disk
pub row_unasked : (m : Members) (i : ℕ) (a b : SetState) → IsGroup a m → i < 4 → IsRebuilding a.health
    → member m i ≡ next_place a → WorksOn (IsMember m) a b
    → LeavesDisks (λ d. d ≡ rebuilt_disk a.health) a b
row_unasked m i a b group lt rebuilding next works = record {
  disks = λ d is.
      works.touches.disks d
      (λ p of sound same.
      elim (eqb_tells of.position i) [
        | inl q ↦
            (let P : Place → Type 0 = λ x. IsMissing a x in
            let here : p ≡ next_place a = of.is ∙ ap (λ (n : ℕ). member m n) q.1 ∙ next in
            lost_not_sound a p (missing_lost a p (subst P (sym here) (next_missing a rebuilding))) sound)
        | inr q ↦
            group.apart of.position i of.below lt q.1
            (ap (λ (x : Place). x.disk) (sym of.is) ∙ sym same ∙ is ∙ sym (ap (λ (x : Place). x.disk) next))
      ]);
}

-- The parts of a unit's flush follow each other.
use Rattle.std.proofs.Common.{◌≡◌, ℕ, ◌+◌, ◌-◌, ◌*◌, ◌<◌, Some, refl, sym, subst, inl, inr, arith}
use Rattle.std.proofs.lemmas.Bool.{cases_lt}
use Rattle.ar_disks.specs.declared.address.Addr.{Addr}
use Rattle.ar_volume.specs.declared.flush.PartFlush.{PartFlush}
use Rattle.ar_volume.specs.declared.flush.PartFlush.TheVariants.{More}
use Rattle.ar_volume.specs.Flush.{FlushesPart, part_blocks}
use Rattle.ar_target.specs.declared.flush_port.FlushOutcome.{FlushOutcome}
use Rattle.ar_sessions.specs.Flushing.{DestagedBefore, DestagedInParts, DestagedPart, flush_outcome}

-- the parts before block `first` of the unit were flushed
pub record DestagedUpTo (addr : Addr) (first : ℕ) : Type 0 where
  pub parts : ℕ
  pub first_is : first ≡ part_blocks * parts
  pub before : DestagedBefore addr parts

-- none so far
pub no_part : (addr : Addr) → DestagedUpTo addr 0
no_part addr = record {
  parts = 0;
  first_is = refl;
  before = record { each = λ i below. absurd (omega arith) };
}

-- where the next part begins
pub next_is : (addr : Addr) (first next : ℕ) → DestagedPart addr first (More next) → next ≡ first + 64
next_is addr first next part =
    let flushes : FlushesPart part.old.array addr first (More next) part.new.array = part.destages.steps.answers in
    (flushes.ends.goes_on next refl).0

-- one more
pub next_part : (addr : Addr) (first next : ℕ) → DestagedUpTo addr first → DestagedPart addr first (More next)
    → DestagedUpTo addr next
next_part addr first next before part =
    let parts : ℕ = before.parts in
    let begun : first ≡ 64 * parts = before.first_is in
    let begins : next ≡ first + 64 = next_is addr first next part in
    record {
      parts = parts + 1;
      first_is = omega (arith, begun, begins);
      before = record {
        each = λ i below. elim (cases_lt i parts) [
          | inl less ↦ before.before.each i less
          | inr past ↦
              let from : first ≡ 64 * i = omega (arith, begun, below, past) in
              let to : next ≡ 64 * (i + 1) = omega (arith, begun, begins, below, past) in
              subst (λ n. DestagedPart addr n (More (64 * (i + 1)))) from
              (subst (λ n. DestagedPart addr first (More n)) to part)
        ];
      };
    }

-- the blocks that are left fall
pub fewer_left : (addr : Addr) (first next : ℕ) → DestagedPart addr first (More next)
    → 1048576 - next < 1048576 - first
fewer_left addr first next part =
    let flushes : FlushesPart part.old.array addr first (More next) part.new.array = part.destages.steps.answers in
    let few : next < 1048576 = flushes.ends.few next refl in
    let begins : next ≡ first + 64 = next_is addr first next part in
    omega (arith, few, begins)

-- the last one
pub last_part : (addr : Addr) (first : ℕ) (answer : PartFlush) (outcome : FlushOutcome) → DestagedUpTo addr first
    → DestagedPart addr first answer → flush_outcome answer ≡ Some outcome → DestagedInParts addr outcome
last_part addr first answer outcome before part is = record {
  parts = before.parts;
  before = before.before;
  answer = answer;
  last = subst (λ n. DestagedPart addr n answer) before.first_is part;
  outcome_is = is;
}

use Rattle.std.proofs.Common.{Option, None, Some, IfNone, ap, arith, sym, subst, true≢false, ◌∙◌}
use Rattle.ar_extents.specs.Loose.{loose_count}
use Rattle.ar_store.specs.Spaces.{store_in}
use Rattle.ar_balance.specs.Rule.{CanShift, IsEven}
use Rattle.ar_balance.proofs.Single.{fewest_single, most_single}
use Rattle.ar_balance.proofs.choose.next_shift.Goals as goal

if_none : {A : Type 0} (o : Option A) (P : Type 0) → P → IfNone o P
if_none None P p = p
if_none (Some x) P p = tt

pub is_uneven-requires-clause-few : goal.is_uneven-requires-clause-few
is_uneven-requires-clause-few g c =
    omega (arith, c.emptiest-on.ensures.below, c.requires.counts.few, c.requires.counts.len)

pub is_uneven-requires-clause-many : goal.is_uneven-requires-clause-many
is_uneven-requires-clause-many g c =
    omega (arith, c.fullest-off.ensures.below, c.requires.counts.few, c.requires.counts.len)

pub returns-then-not-is_uneven-clause-none : goal.returns-then-not-is_uneven-clause-none
returns-then-not-is_uneven-clause-none g c =
    let s = store_in c.args.space.now in
    let on = c.emptiest-on in
    let off = c.fullest-off in
    record {
      few = c.requires.few;
      even = λ a b group position fewest most gap can.
          (let low = c.requires.counts.counts on.result on.ensures.below in
          let high = c.requires.counts.counts off.result off.ensures.below in
          let few = ap (loose_count s.disks) (fewest_single s.disks a on.result fewest on.ensures) in
          let many = ap (loose_count s.disks) (most_single s.disks b off.result most off.ensures) in
          true≢false
          (sym (c.is_uneven.ensures.1 (omega (arith, low, high, few, many, gap))) ∙ c.if-not-is_uneven.true));
    }

pub returns-in_err-found-clause-none : goal.returns-in_err-found-clause-none
returns-in_err-found-clause-none g c =
    let s = store_in c.args.space.now in
    let on = c.emptiest-on in
    let off = c.fullest-off in
    if_none _ (IsEven s) (record {
      few = c.requires.few;
      even = λ a b group position fewest most gap can.
          c.in_err-found.ensures.none group position
          (subst (λ d. CanShift s.book d off.result group position)
          (fewest_single s.disks a on.result fewest on.ensures)
          (subst (λ d. CanShift s.book a d group position) (most_single s.disks b off.result most off.ensures) can));
    })

use Rattle.std.proofs.Common.{◌+◌, refl, sym, ap, ◌∙◌, arith}
use Rattle.ar_disks.specs.Geometry.{rows_of}
use Rattle.ar_extents.specs.Groups.{IsOutside}
use Rattle.ar_extents.specs.Plans.{stops}
use Rattle.ar_extents.proofs.Follows.{keeps_refl, keeps_then}
use Rattle.ar_extents.proofs.Outcomes.{broken_is, done_sound}
use Rattle.ar_store.proofs.Fills.{accessed_refl, accessed_then}
use Rattle.ar_store.proofs.Sources.{copied_then, plans_then, copies_broken}
use Rattle.ar_store.proofs.stripes.copy_group.Goals as goal

pub loop-row-init : goal.loop-row-init
loop-row-init g c = record {
  accessed = accessed_refl c.args.disks.now;
  keeps = keeps_refl (IsOutside c.args.to.now) c.args.disks.now;
  copied = λ i lt. absurd (omega arith);
  plan = stops c.args.disks.now;
  sound = c.requires.sound;
  scratch = refl;
  whole = refl;
}

pub returns-in-Broken-clause-plan : goal.returns-in-Broken-clause-plan
returns-in-Broken-clause-plan g c =
    let a = c.args.disks.now in
    let b = c.loop-row.disks in
    let new = c.copy_stripe.new.disks in
    let inv = c.loop-row.invariant in
    let stripe = c.copy_stripe.ensures in
    let rows = c.rows-row-end.ensures ∙ ap rows_of c.geometry.ensures in
    let below = c.loop-row-test.true in
    copies_broken a.geometry c.args.from.now c.args.to.now (c.loop-row.row + 1) (rows_of a.geometry) a new
    (omega arith) (broken_is new.health (sym c.in-Broken.is ∙ stripe.outcome))
    (plans_then c.args.from.now c.args.to.now c.loop-row.row a b new inv.accessed.follows inv.plan stripe.plan)

pub returns-in-Broken-clause-accessed : goal.returns-in-Broken-clause-accessed
returns-in-Broken-clause-accessed g c =
    accessed_then c.args.disks.now c.loop-row.disks c.copy_stripe.new.disks c.loop-row.invariant.accessed
    c.copy_stripe.ensures.accessed

pub loop-row-preserved : goal.loop-row-preserved
loop-row-preserved g c =
    let a = c.args.disks.now in
    let b = c.loop-row.disks in
    let new = c.copy_stripe.new.disks in
    let one = c.args.from.now in
    let two = c.args.to.now in
    let inv = c.loop-row.invariant in
    let stripe = c.copy_stripe.ensures in
    record {
      accessed = accessed_then a b new inv.accessed stripe.accessed;
      keeps = keeps_then (IsOutside two) a b new inv.keeps stripe.keeps.other_places;
      copied = copied_then one two c.loop-row.row a b new c.requires.apart inv.accessed.follows inv.keeps
          stripe.accessed.follows stripe.keeps inv.copied c.in-Done.ensures.copied;
      plan = plans_then one two c.loop-row.row a b new inv.accessed.follows inv.plan stripe.plan;
      sound = done_sound new.health (sym c.in-Done.is ∙ stripe.outcome);
      scratch = stripe.scratch ∙ inv.scratch;
      whole = stripe.len ∙ inv.whole;
    }

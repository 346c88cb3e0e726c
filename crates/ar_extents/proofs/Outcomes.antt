-- What the answer of a call on a group tells of the health that it leaves.
use Rattle.std.proofs.Common.{◌≡◌, ◌≢◌, Bool, true, false, refl, sym, ap, true≢false}
use Rattle.ar_extents.specs.declared.health.Health.{Health}
use Rattle.ar_extents.specs.declared.health.Health.TheVariants.{Whole, Out, Rebuilding, Broken as AllBroken}
use Rattle.ar_disks.specs.declared.completion.Completion.{Completion}
use Rattle.ar_disks.specs.declared.completion.Completion.TheVariants.{Done, Broken}
use Rattle.ar_extents.specs.Changes.{is_broken_set}
use Rattle.ar_extents.specs.Groups.{outcome_of}

-- whether an answer says that the set is broken
reported : Completion → Bool
reported Done = false
reported Broken = true

-- a call that is done leaves no broken set
pub done_sound : (h : Health) → Done ≡ outcome_of h → h ≢ AllBroken
unfolding reported
done_sound Whole done broken = true≢false (sym (ap is_broken_set broken))
done_sound (Out x) done broken = true≢false (sym (ap is_broken_set broken))
done_sound (Rebuilding x d) done broken = true≢false (sym (ap is_broken_set broken))
done_sound AllBroken done broken = true≢false (sym (ap reported done))

-- one that isn't leaves one
pub broken_is : (h : Health) → Broken ≡ outcome_of h → h ≡ AllBroken
unfolding reported
broken_is Whole answer = absurd (true≢false (ap reported answer))
broken_is (Out x) answer = absurd (true≢false (ap reported answer))
broken_is (Rebuilding x d) answer = absurd (true≢false (ap reported answer))
broken_is AllBroken answer = refl

-- and on a set that isn't broken a call is done
pub sound_done : (h : Health) → h ≢ AllBroken → outcome_of h ≡ Done
sound_done Whole sound = refl
sound_done (Out x) sound = refl
sound_done (Rebuilding x d) sound = refl
sound_done AllBroken sound = absurd (sound refl)

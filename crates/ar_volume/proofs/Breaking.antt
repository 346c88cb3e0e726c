-- When an array is broken, and that it was sound before.
use Rattle.std.proofs.Common.{◌≡◌, ◌≢◌, true, false, refl, sym, ap, ◌∙◌}
use Rattle.ar_extents.specs.declared.health.Health.{Health}
use Rattle.ar_extents.specs.declared.health.Health.TheVariants.{Whole, Out, Rebuilding, Broken}
use Rattle.ar_extents.specs.Changes.{is_broken_set}
use Rattle.ar_extents.specs.Set.{SetState}
use Rattle.ar_store.specs.Calls.{IsAccessed}
use Rattle.ar_extents.proofs.Losses.{stays_broken}

-- the test tells a broken set
pub broken_is : (h : Health) → is_broken_set h ≡ true → h ≡ Broken
broken_is Whole test = absurd (cc)
broken_is (Out d) test = absurd (cc)
broken_is (Rebuilding d n) test = absurd (cc)
broken_is Broken test = refl

pub not_broken : (h : Health) → is_broken_set h ≡ false → h ≢ Broken
not_broken h test lost = let is = sym (ap is_broken_set lost) ∙ test in cc

pub sound_is : (h : Health) → h ≢ Broken → is_broken_set h ≡ false
sound_is Whole sound = refl
sound_is (Out d) sound = refl
sound_is (Rebuilding d n) sound = refl
sound_is Broken sound = absurd (sound refl)

pub accessed_sound : (a b : SetState) → IsAccessed a b → is_broken_set b.health ≡ false → is_broken_set a.health ≡ false
accessed_sound a b accessed now =
    sound_is a.health (λ lost. not_broken b.health now (stays_broken a b accessed.follows lost))

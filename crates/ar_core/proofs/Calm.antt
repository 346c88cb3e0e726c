-- Disks that are whole stay so while none faults and none is taken out.
use Rattle.std.proofs.Common.{◌≡◌, ℕ, zero, suc, Some, List, [], ◌∷◌, take, ap, sym, ◌∙◌}
use Rattle.std.specs.Prelude.{slice_get}
use Rattle.ar_extents.specs.declared.health.Health.TheVariants.{Whole}
use Rattle.ar_volume.specs.Image.{ArrayState}
use Rattle.ar_core.specs.Causes.{IsTakenOut}
use Rattle.ar_core.specs.declared.event.EventOf.TheVariants.{Flush as FlushEvent}
use Rattle.ar_core.specs.Run.{Turn, Did, Looked, Meets, Run, IsCalm, AreCalm}
use Rattle.ar_core.proofs.Causes.{cause_follows, whole_stays}

whole_turn : (old : ArrayState) (turn : Turn) (new : ArrayState) → Meets old turn new → IsCalm turn old new
    → old.store.disks.health ≡ Whole → new.store.disks.health ≡ Whole
whole_turn old (Did event outcome) new steps calm whole =
    whole_stays event old.store.disks new.store.disks steps.disks calm whole
whole_turn old Looked new looks calm whole =
    whole_stays FlushEvent old.store.disks new.store.disks
    (cause_follows FlushEvent old.store.disks new.store.disks (λ d disk is. absurd (cc)) looks.accessed.follows)
    (record { no_fault = λ d fault. calm.none d fault.more; none_out = λ d taken. no_flush d taken }) whole
  where
    no_flush : (d : ℕ) → IsTakenOut FlushEvent old.store.disks d → ⊥
    no_flush d taken = let named = taken.named in cc

-- after each turn of a run whose turns so far were calm
pub whole_run : (old : ArrayState) (turns : List Turn) (states : List ArrayState) (k : ℕ) (new : ArrayState)
    → Run old turns states → AreCalm old (take (suc k) turns) (take (suc k) states) → old.store.disks.health ≡ Whole
    → slice_get states k ≡ Some new → new.store.disks.health ≡ Whole
whole_run old [] [] k new run calm whole there = absurd (cc)
whole_run old [] (s ∷ states) k new run calm whole there = absurd run
whole_run old (turn ∷ turns) [] k new run calm whole there = absurd run
whole_run old (turn ∷ turns) (s ∷ states) zero new run calm whole there =
    let is : s ≡ new = cc there in
    ap (λ (t : ArrayState). t.store.disks.health) (sym is) ∙ whole_turn old turn s run.0 calm.0 whole
whole_run old (turn ∷ turns) (s ∷ states) (suc k) new run calm whole there =
    whole_run s turns states k new run.1 calm.1 (whole_turn old turn s run.0 calm.0 whole) there

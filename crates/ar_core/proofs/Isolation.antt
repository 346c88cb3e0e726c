-- From what each turn does to what each command of a run is answered.
use Rattle.std.proofs.Common.{◌≡◌, ℕ, zero, suc, true, false, Some, List, [], ◌∷◌, ◌++◌, length, take, ◌⊎◌, inl, inr}
use Rattle.std.proofs.Common.{refl, sym, ap, subst, ◌∙◌}
use Rattle.std.specs.Prelude.{slice_get}
use Rattle.ar_unit.specs.Unit.{UnitState, UnitEntry, answer, unmap_answer, after, unit_run}
use Rattle.ar_unit.specs.Broken.{Shape, shape_of, shape_after, broken_answer, broken_unmap}
use Rattle.ar_unit.proofs.Laws.{unit_run-append, after-shape, broken_answer-is, broken_unmap-is}
use Rattle.ar_core.specs.Events.{Event}
use Rattle.ar_core.specs.declared.event.EventOf.TheVariants.{Cmd as CmdEvent, Unmap as UnmapEvent}
use Rattle.ar_core.specs.Events.{Outcome}
use Rattle.ar_core.specs.declared.event.OutcomeOf.TheVariants.{Cmd as CmdOutcome, Unmap as UnmapOutcome}
use Rattle.ar_extents.specs.Changes.{is_broken_set}
use Rattle.ar_volume.specs.Image.{ArrayState, is_broken, image, image_at}
use Rattle.ar_core.proofs.Causes.{was_sound}
use Rattle.ar_core.proofs.Looking.{looked_image, looked_shape}
use Rattle.ar_volume.proofs.Breaking.{broken_is, accessed_sound}
use Rattle.ar_volume.proofs.Images.{image_here}
use Rattle.ar_volume.specs.Sectors.{Address, address_of}
use Rattle.ar_core.specs.Step.{addr_in}
use Rattle.ar_core.specs.Run.{Turn, Did, Looked, Meets, Run, IsRun, TwoMissing, last_of, own, entry_in, turns_of}
use Rattle.ar_core.specs.Run.{IsIsolated, unit_before, AreTwoHitIn}

-- the shape after a run depends on the shape before it
pub unit_run-shape : (entries : List UnitEntry) (u v : UnitState) → shape_of u ≡ shape_of v
    → shape_of (unit_run u entries) ≡ shape_of (unit_run v entries)
unit_run-shape [] u v same = same
unit_run-shape (entry ∷ entries) u v same =
    unit_run-shape entries (after u entry) (after v entry)
    (after-shape u entry ∙ ap (λ (s : Shape). shape_after s entry) same ∙ sym (after-shape v entry))

-- a unit that a list of sectors stands for, as far as an array can still show it
record Agrees (s : ArrayState) (u : UnitState) (a : Address) : Type 0 where
  sound : is_broken s ≡ false → u ≡ image s a
  shape : shape_of u ≡ shape_of (image s a)

-- an array that isn't broken after a turn wasn't before
turn_sound : (old : ArrayState) (turn : Turn) (new : ArrayState) → Meets old turn new → is_broken new ≡ false
    → is_broken old ≡ false
turn_sound old (Did event outcome) new steps now = was_sound event old new steps.disks now
turn_sound old Looked new looks now = accessed_sound old.store.disks new.store.disks looks.accessed now

agrees-turn : (old : ArrayState) (turn : Turn) (new : ArrayState) (u : UnitState) (a : Address)
    → Meets old turn new → Agrees old u a → Agrees new (unit_run u (entry_in a turn)) a
agrees-turn old (Did event outcome) new u a steps agrees = record {
  sound = λ now.
      ap (λ (v : UnitState). unit_run v (entry_in a (Did event outcome)))
      (agrees.sound (was_sound event old new steps.disks now)) ∙ sym (steps.images now a);
  shape = unit_run-shape (entry_in a (Did event outcome)) u (image old a) agrees.shape ∙ sym (steps.shapes a);
}
agrees-turn old Looked new u a looks agrees = record {
  sound = λ now. agrees.sound (turn_sound old Looked new looks now) ∙ sym (looked_image old new looks now a);
  shape = agrees.shape ∙ sym (looked_shape old new looks a);
}

-- the state in which a turn of a run was met, and the one after it, u being what the unit's own entries made of it
record Met (u : UnitState) (a : Address) (turn : Turn) (new : ArrayState) : Type 0 where
  old : ArrayState
  agrees : Agrees old u a
  meets : Meets old turn new

met : (turns : List Turn) (states : List ArrayState) (old : ArrayState) (u : UnitState)
    (k : ℕ) (a : Address) (here : Turn) (new : ArrayState)
    → Run old turns states → Agrees old u a → slice_get turns k ≡ Some here
    → slice_get states k ≡ Some new
    → Met (unit_run u (own a (take k turns))) a here new
met [] states old u k a here new run agrees is there = absurd (cc)
met (turn ∷ turns) [] old u k a here new run agrees is there = absurd run
met (turn ∷ turns) (s ∷ states) old u zero a here new run agrees is there =
    let same : turn ≡ here = cc is in
    let left : s ≡ new = cc there in
    record {
      old = old;
      agrees = agrees;
      meets = subst (λ (t : Turn). Meets old t new) same (subst (λ (n : ArrayState). Meets old turn n) left run.0);
    }
met (turn ∷ turns) (s ∷ states) old u (suc k) a here new run agrees is there =
    subst (λ (v : UnitState). Met v a here new)
    (sym (unit_run-append u (entry_in a turn) (own a (take k turns))))
    (met turns states s (unit_run u (entry_in a turn)) k a here new run.1
    (agrees-turn old turn s u a run.0 agrees) is there)

-- what the unit is after a turn of a run
left : (turns : List Turn) (states : List ArrayState) (old : ArrayState) (u : UnitState) (k : ℕ) (new : ArrayState)
    (a : Address)
    → Run old turns states → Agrees old u a → slice_get states k ≡ Some new
    → Agrees new (unit_run u (own a (take (suc k) turns))) a
left [] [] old u k new a run agrees there = absurd (cc)
left [] (s ∷ states) old u k new a run agrees there = absurd run
left (turn ∷ turns) [] old u k new a run agrees there = absurd run
left (turn ∷ turns) (s ∷ states) old u zero new a run agrees there =
    let is : s ≡ new = cc there in
    subst (λ (n : ArrayState). Agrees n (unit_run u (entry_in a turn ++ [])) a) is
    (subst (λ (v : UnitState). Agrees s v a) (sym (unit_run-append u (entry_in a turn) []))
    (agrees-turn old turn s u a run.0 agrees))
left (turn ∷ turns) (s ∷ states) old u (suc k) new a run agrees there =
    subst (λ (v : UnitState). Agrees new v a)
    (sym (unit_run-append u (entry_in a turn) (own a (take (suc k) turns))))
    (left turns states s (unit_run u (entry_in a turn)) k new a run.1 (agrees-turn old turn s u a run.0 agrees) there)

-- why a turn has lost the data
lost_in : (old : ArrayState) (turn : Turn) (new : ArrayState) → Meets old turn new → is_broken new ≡ true
    → (is_broken old ≡ true) ⊎ AreTwoHitIn turn old new
lost_in old (Did event outcome) new steps lost =
    elim (steps.disks.broken (broken_is new.store.disks.health lost))
    [ inl was ↦ inl (ap is_broken_set was) | inr two ↦ inr two ]
lost_in old Looked new looks lost =
    elim (looks.accessed.follows.broken (broken_is new.store.disks.health lost))
    [ inl was ↦ inl (ap is_broken_set was) | inr two ↦ inr two ]

-- why the state after a turn has lost its data
two_missing : (turns : List Turn) (states : List ArrayState) (old : ArrayState) (k : ℕ) (new : ArrayState)
    → Run old turns states
    → slice_get states k ≡ Some new → is_broken new ≡ true
    → (is_broken old ≡ true) ⊎ TwoMissing old (take (suc k) turns) (take (suc k) states)
two_missing [] [] old k new run there lost = absurd (cc)
two_missing [] (s ∷ states) old k new run there lost = absurd run
two_missing (turn ∷ turns) [] old k new run there lost = absurd run
two_missing (turn ∷ turns) (s ∷ states) old zero new run there lost =
    let is : s ≡ new = cc there in
    elim (lost_in old turn s run.0 (ap is_broken is ∙ lost)) [ inl was ↦ inl was | inr two ↦ inr (inl two) ]
two_missing (turn ∷ turns) (s ∷ states) old (suc k) new run there lost =
    elim (two_missing turns states s k new run.1 there lost) [
      | inl here ↦ elim (lost_in old turn s run.0 here) [ inl was ↦ inl was | inr two ↦ inr (inl two) ]
      | inr later ↦ inr (inr later)
    ]

-- the theorem, from the turns
pub run-isolated : (old : ArrayState) (turns : List Turn) (states : List ArrayState) → Run old turns states
    → IsIsolated old turns states
run-isolated old turns states run = record {
  sound = λ k host lun cdb payload reply new here there now.
      (let a : Address = (host.number, lun) in
      let m = met turns states old (image old a) k a (Did (CmdEvent host lun cdb payload) (CmdOutcome reply)) new run
      (record { sound = λ _. refl; shape = refl }) here.turn there in
      (m.meets.answers.sound now).given.answered here.not_busy
      ∙ ap (λ (v : UnitState). (answer v cdb payload).reply) (sym (image_here (image_at m.old) (addr_in host lun))
      ∙ sym (m.agrees.sound (was_sound (CmdEvent host lun cdb payload) m.old new m.meets.disks now))));
  broken = λ k host lun cdb payload reply new here there lost.
      (let a : Address = (host.number, lun) in
      let m = met turns states old (image old a) k a (Did (CmdEvent host lun cdb payload) (CmdOutcome reply)) new run
      (record { sound = λ _. refl; shape = refl }) here.turn there in
      (m.meets.answers.broken lost).answered here.not_busy
      ∙ ap (λ (s : Shape). broken_answer s cdb (length payload))
      (ap shape_of (sym (image_here (image_at m.old) (addr_in host lun))) ∙ sym m.agrees.shape)
      ∙ broken_answer-is (unit_before old a turns k) cdb payload);
  unmapped = λ k addr lba count reply new here there now.
      (let a : Address = address_of addr in
      let m = met turns states old (image old a) k a (Did (UnmapEvent addr lba count) (UnmapOutcome reply)) new run
      (record { sound = λ _. refl; shape = refl }) here there in
      m.meets.answers.sound now
      ∙ ap (λ (v : UnitState). (unmap_answer v lba count).reply) (sym (image_here (image_at m.old) addr)
      ∙ sym (m.agrees.sound (was_sound (UnmapEvent addr lba count) m.old new m.meets.disks now))));
  unmapped_broken = λ k addr lba count reply new here there lost.
      (let a : Address = address_of addr in
      let m = met turns states old (image old a) k a (Did (UnmapEvent addr lba count) (UnmapOutcome reply)) new run
      (record { sound = λ _. refl; shape = refl }) here there in
      m.meets.answers.broken lost
      ∙ ap (λ (s : Shape). broken_unmap s lba count)
      (ap shape_of (sym (image_here (image_at m.old) addr)) ∙ sym m.agrees.shape)
      ∙ broken_unmap-is (unit_before old a turns k) lba count);
  images = λ k new there now a.
      sym ((left turns states old (image old a) k new a run (record { sound = λ _. refl; shape = refl }) there).sound
      now);
  shapes = λ k new there a.
      sym (left turns states old (image old a) k new a run (record { sound = λ _. refl; shape = refl }) there).shape;
  lost = λ k new there gone. two_missing turns states old k new run there gone;
}

-- one more turn
pub run-more : (turns : List Turn) (states : List ArrayState) (old : ArrayState) (turn : Turn) (new : ArrayState)
    → Run old turns states → Meets (last_of old states) turn new → Run old (turns ++ turn ∷ []) (states ++ new ∷ [])
run-more [] [] old turn new run meets = (meets, tt)
run-more (t ∷ turns) (s ∷ states) old turn new run meets = (run.0, run-more turns states s turn new run.1 meets)
run-more [] (s ∷ states) old turn new run meets = absurd run
run-more (t ∷ turns) [] old turn new run meets = absurd run

pub last_of-more : (states : List ArrayState) (old new : ArrayState) → last_of old (states ++ new ∷ []) ≡ new
last_of-more [] old new = refl
last_of-more (s ∷ states) old new = last_of-more states s new

-- no turn at all
pub no_turn : (s : ArrayState) → IsRun s [] s
no_turn s = record { states = []; run = tt; last = refl; isolated = run-isolated s [] [] tt }

-- a run and one turn more
pub one_more : (old : ArrayState) (turns : List Turn) (mid : ArrayState) (turn : Turn) (new : ArrayState)
    → IsRun old turns mid → Meets mid turn new
    → IsRun old (turns ++ turn ∷ []) new
one_more old turns mid turn new before meets =
    let run = run-more turns before.states old turn new before.run
    (subst (λ (s : ArrayState). Meets s turn new) (sym before.last) meets) in
    record {
      states = before.states ++ new ∷ [];
      run = run;
      last = last_of-more before.states old new;
      isolated = run-isolated old (turns ++ turn ∷ []) (before.states ++ new ∷ []) run;
    }

-- one event more, with its outcome
pub turns_of-more : (events : List Event) (outcomes : List Outcome) (event : Event) (outcome : Outcome)
    → length outcomes ≡ length events
    → turns_of (events ++ event ∷ []) (outcomes ++ outcome ∷ []) ≡ turns_of events outcomes ++ Did event outcome ∷ []
turns_of-more [] [] event outcome same = refl
turns_of-more (e ∷ events) (o ∷ outcomes) event outcome same =
    ap (λ (l : List Turn). Did e o ∷ l) (turns_of-more events outcomes event outcome (cc same))
turns_of-more [] (o ∷ outcomes) event outcome same = absurd (cc)
turns_of-more (e ∷ events) [] event outcome same = absurd (cc)

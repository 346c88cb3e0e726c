use Rattle.std.proofs.Common.{rules, ◌≡◌, ◌++◌, ◌∷◌, [], List, sym, subst, ap, ◌∙◌, arith}
use Rattle.std.proofs.lemmas.List.{append_assoc, append-nil, length-append, nil_from_length}
use Rattle.ar_core.specs.Events.{Event, Outcome}
use Rattle.ar_core.specs.Run.{Turn, Did, IsRun, AreOutcomes, turns_of}
use Rattle.ar_core.proofs.Isolation.{no_turn, one_more, turns_of-more}
use Rattle.ar_core.proofs.array.Array.run.Goals as goal

pub loop-event-init : goal.loop-event-init
loop-event-init g c =
    record { steps = no_turn c.args.self.now; taken = search rules; room = search rules; capacity = search rules }

pub loop-event-preserved : goal.loop-event-preserved
loop-event-preserved g c =
    let before = c.loop-event.invariant.steps in
    let turns = turns_of c.loop-event.yielded c.loop-event.outcomes.items in
    let more : turns_of (c.loop-event.yielded ++ c.in-Some.event ∷ []) c.push_reserved.new.self.items
    ≡ turns ++ Did c.in-Some.event c.step-outcome.result ∷ [] =
    ap (λ (outcomes : List Outcome). turns_of (c.loop-event.yielded ++ c.in-Some.event ∷ []) outcomes)
    c.push_reserved.ensures.items
    ∙ turns_of-more c.loop-event.yielded c.loop-event.outcomes.items c.in-Some.event c.step-outcome.result
    (omega (arith, c.loop-event.invariant.room, c.loop-event.outcomes.ok)) in
    record {
      steps =
          subst (λ (l : List Turn). IsRun c.args.self.now l c.step-outcome.new.self) (sym more)
          (one_more c.args.self.now turns c.loop-event.self (Did c.in-Some.event c.step-outcome.result)
          c.step-outcome.new.self before c.step-outcome.ensures);
      taken =
          append_assoc c.loop-event.yielded (c.in-Some.event ∷ []) c.next.new.self.rest.items
          ∙ ap (λ (l : List Event). c.loop-event.yielded ++ l) (sym c.in-Some.ensures.steps.0)
          ∙ c.loop-event.invariant.taken;
      room = omega (
        arith,
        length-append c.loop-event.yielded (c.in-Some.event ∷ []),
        c.push_reserved.ensures.len,
        c.loop-event.invariant.room,
      );
      capacity = c.push_reserved.ensures.capacity ∙ c.loop-event.invariant.capacity;
    }

pub returns-clause-isolated : goal.returns-clause-isolated
returns-clause-isolated g c =
    let none : c.loop-event.event-iterator.rest.items ≡ [] =
    nil_from_length c.loop-event.event-iterator.rest.items (sym c.loop-event.event-iterator.rest.ok.0
    ∙ c.in-None.ensures.steps.0) in
    let all : c.loop-event.yielded ≡ c.args.events.items =
    sym (append-nil c.loop-event.yielded) ∙ ap (λ (l : List Event). c.loop-event.yielded ++ l) (sym none)
    ∙ c.loop-event.invariant.taken in
    subst (λ (events : List Event). AreOutcomes c.args.self.now events c.loop-event.outcomes.items c.loop-event.self)
    all
    (record {
      each = omega (arith, c.loop-event.invariant.room, c.loop-event.outcomes.ok);
      run = c.loop-event.invariant.steps;
    })

use Rattle.std.proofs.Common.{◌∙◌, refl, sym}
use Rattle.std.proofs.lemmas.Option.{slice_get_read}
use Rattle.ar_plan.proofs.Creating.{created_more}
use Rattle.ar_plan.proofs.units.create_units.Goals as goal

pub returns-in-Some : goal.returns-in-Some
returns-in-Some g c = record {
  unit = c.index-units-number.result;
  there = slice_get_read c.args.units.now _ c.loop-number.number c.index-units-number.result refl
      c.loop-number-test.true c.index-units-number.is;
  middle = g.A.ServedArray.state c.loop-number.array;
  before = c.loop-number.invariant;
  outcome = c.make-outcome.result;
  refused = sym c.refusal_in.ensures ∙ c.in-Some.is;
  operated = record {
    does = c.make-outcome.ensures.does;
    kept = c.make-outcome.ensures.kept;
    recorded = c.make-outcome.ensures.recorded;
  };
}

pub loop-number-preserved : goal.loop-number-preserved
loop-number-preserved g c =
    created_more c.args.units.now c.loop-number.number c.index-units-number.result
    (g.A.ServedArray.state c.args.array.now) (g.A.ServedArray.state c.loop-number.array)
    (g.A.ServedArray.state c.make-outcome.new.self)
    c.index-units-number.is c.loop-number-test.true c.loop-number.invariant
    (record {
      outcome = c.make-outcome.result;
      done = sym c.refusal_in.ensures ∙ c.in_default.is;
      operated = record {
        does = c.make-outcome.ensures.does;
        kept = c.make-outcome.ensures.kept;
        recorded = c.make-outcome.ensures.recorded;
      };
    })

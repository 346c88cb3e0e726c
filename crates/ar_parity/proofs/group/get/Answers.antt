use Rattle.std.proofs.Common.{◌∙◌}
use Rattle.ar_parity.proofs.SlotLemmas.{whole_given}
use Rattle.ar_parity.proofs.group.get.Goals as goal

pub returns : goal.returns
returns g c =
    let got = c.get_part.ensures in
    record {
      outcome = got.outcome;
      gives = whole_given c.get_part.result c.args.set.now c.args.members.now c.args.slot c.get_part.new.into
          (c.get_part.auto.into ∙ c.requires.whole) got.gives;
      plan = got.plan;
      scratch = got.scratch;
    }

use Rattle.std.proofs.Common.{◌∙◌}
use Rattle.ar_parity.proofs.Agrees.{whole_sum}
use Rattle.ar_parity.proofs.degraded.lost_block.Goals as goal

pub returns : goal.returns
returns g c = record {
  answer = c.sum_of_three.ensures.answer;
  block = whole_sum c.sum_of_three.result c.args.set.now c.args.members.now c.args.row c.args.lost
      c.sum_of_three.new.into (c.sum_of_three.auto.into ∙ c.requires.whole) c.sum_of_three.ensures.block;
  health = c.sum_of_three.ensures.health;
  made = c.sum_of_three.ensures.made;
  keeps = c.sum_of_three.ensures.keeps;
  works = c.sum_of_three.ensures.works;
}

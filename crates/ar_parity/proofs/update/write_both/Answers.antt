use Rattle.std.proofs.Common.{sym, ◌∙◌}
use Rattle.ar_extents.proofs.Follows.{follows_then}
use Rattle.ar_extents.proofs.Plans.{one_then, carries_broken}
use Rattle.ar_parity.specs.Plans.{write_member}
use Rattle.ar_parity.proofs.Agrees.{broken_stands}
use Rattle.ar_parity.proofs.Updates.{kept_beside, stands_beside}
use Rattle.ar_parity.proofs.update.write_both.Goals as goal

pub returns-in-Done : goal.returns-in-Done
returns-in-Done g c =
    let m = c.args.members.now in
    let a = c.args.set.now in
    let b = c.write_part.new.set in
    let d = c.write_part-in-Done.new.set in
    let i = c.args.position in
    let j = c.args.parity in
    let row = c.args.row in
    let one = c.write_part.ensures in
    let two = c.write_part-in-Done.ensures in
    let apart = c.requires.group.apart in
    record {
      answer = two.answer;
      block = λ x stands.
          stands_beside b d m row j i _ apart c.requires.two.other c.requires.two.one c.requires.two.apart
          two.works.follows two.keeps (one.here x stands);
      parity = λ x stands.
          two.here x (stands_beside a b m row i j x apart c.requires.two.one c.requires.two.other
          (λ e. c.requires.two.apart (sym e)) one.works.follows one.keeps stands);
      others = λ k lk ki kj.
          kept_beside b d m row j k apart c.requires.two.other lk kj two.keeps row
          ∙ kept_beside a b m row i k apart c.requires.two.one lk ki one.keeps row;
      follows = follows_then a b d one.works.follows two.works.follows;
      plan = one_then _ _ _ _ _ one.plan two.plan;
    }

pub returns-in-Broken : goal.returns-in-Broken
returns-in-Broken g c =
    let m = c.args.members.now in
    let b = c.write_part.new.set in
    let row = c.args.row in
    let one = c.write_part.ensures in
    let broken = c.in-Broken.ensures.answer in
    record {
      answer = broken;
      block = λ x stands. one.here x stands;
      parity = λ x stands. broken_stands b m row c.args.parity _ broken;
      others = λ k lk ki kj. kept_beside c.args.set.now b m row c.args.position k c.requires.group.apart
          c.requires.two.one lk ki one.keeps row;
      follows = one.works.follows;
      plan = one_then _ _ _ _ _ one.plan
          (carries_broken (write_member m c.args.parity row) _ broken);
    }

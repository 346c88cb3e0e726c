use Rattle.ar_parity.specs.Row.{row_of, data_position}
use Rattle.ar_parity.proofs.SlotLemmas.{whole_put}
use Rattle.ar_parity.proofs.Updates.{stripe_updated}
use Rattle.ar_parity.proofs.group.put.Goals as goal

pub returns : goal.returns
returns g c =
    let m = c.args.members.now in
    let a = c.args.set.now in
    let b = c.put_part.new.set in
    let slot = c.args.slot in
    let put = c.put_part.ensures in
    record {
      row = stripe_updated a b m (row_of slot) (data_position slot) c.args.from.now c.requires.whole put.row;
      holds = λ x held. whole_put a b m slot c.args.from.now x c.requires.whole held (put.holds x held);
      writes = put.writes;
      scratch = put.scratch;
    }

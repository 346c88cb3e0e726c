use Rattle.ar_history.proofs.Answering.{kept_answers}
use Rattle.ar_history.proofs.served_array.KeptServedArray.ask.Goals as goal

pub returns : goal.returns
returns g c =
    let done = c.host-served.ensures in
    kept_answers c.host-served.result.at c.args.self.now c.host-served.new.self c.args.seat.now c.host-served.new.seat
    c.args.lun c.args.cdb.now c.args.payload c.host-served.result.reply done.serves done.kept done.does done.counts
    done.host done.begun done.memory

use Rattle.std.proofs.Common.{subst, sym}
use Rattle.ar_served.specs.Seat.{SeatState}
use Rattle.ar_sessions.specs.Port.{AsksArray}
use Rattle.ar_sessions.proofs.Asking.{asks_settled}
use Rattle.ar_sessions.proofs.port.ask_locked.Goals as goal

pub returns-in-Some-clause-asks : goal.returns-in-Some-clause-asks
returns-in-Some-clause-asks g c =
    subst
    (λ (s : SeatState). AsksArray g.A.ServedArray.stores g.A.ServedArray.persists c.args.seat.now c.args.lun
    c.args.cdb.now c.args.payload c.settle_later.result s)
    (sym c.settle_later.ensures.seat)
    (asks_settled _ _ _ _ _ _ _ _ _ c.ask_once-asked.ensures.asks c.settle_later.ensures.settles)

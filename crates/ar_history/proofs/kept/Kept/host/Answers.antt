use Rattle.std.proofs.Common.{sym, subst, vec_capacity}
use Rattle.ar_served.specs.Counts.{counts_after, raised}
use Rattle.ar_served.specs.Kept.{KeptState}
use Rattle.ar_served.specs.Serving.{BeginsByPlace}
use Rattle.ar_history.specs.Recording.{ServesHost}
use Rattle.ar_history.proofs.Commands.{serves_counted}
use Rattle.ar_history.proofs.Memory.{begins_counted}
use Rattle.ar_history.proofs.kept.Kept.host.Goals as goal

pub returns-clause-serves : goal.returns-clause-serves
returns-clause-serves g c =
    let inside = c.self-2.inside in
    let done = c.execute-served in
    let counts =
    counts_after inside.live.counts c.host.result.number c.args.cdb c.len-sent.result done.result.reply in
    let events = raised inside.live.events 1 in
    subst (λ (w : KeptState). ServesHost c.args.self.now c.args.seat.now c.args.lun c.args.cdb c.args.payload
    done.result.reply done.result.at
    (record {
      array = w.array;
      history = inside.history.items;
      room = vec_capacity inside.history;
      counts = w.counts;
      events = w.events;
    }) done.new.seat)
    (sym c.count_command.ensures.counted)
    (subst (λ (k : KeptState). ServesHost c.args.self.now c.args.seat.now c.args.lun c.args.cdb c.args.payload
    done.result.reply done.result.at
    (record k { counts = counts; events = events }) done.new.seat) (sym c.self-2.view_is)
    (serves_counted c.args.self.now c.args.seat.now c.args.lun c.args.cdb c.args.payload done.result.reply
    done.result.at
    done.new.self done.new.seat counts events done.ensures.serves))

pub returns-clause-begun : goal.returns-clause-begun
returns-clause-begun g c =
    let inside = c.self-2.inside in
    let done = c.execute-served in
    let counts =
    counts_after inside.live.counts c.host.result.number c.args.cdb c.len-sent.result done.result.reply in
    let events = raised inside.live.events 1 in
    subst (λ (w : KeptState). BeginsByPlace c.args.self.now c.args.seat.now c.args.lun c.args.cdb c.args.payload
    done.result.reply
    (record {
      array = w.array;
      history = inside.history.items;
      room = vec_capacity inside.history;
      counts = w.counts;
      events = w.events;
    }) done.new.seat)
    (sym c.count_command.ensures.counted)
    (subst (λ (k : KeptState). BeginsByPlace c.args.self.now c.args.seat.now c.args.lun c.args.cdb c.args.payload
    done.result.reply
    (record k { counts = counts; events = events }) done.new.seat) (sym c.self-2.view_is)
    (begins_counted c.args.self.now c.args.seat.now c.args.lun c.args.cdb c.args.payload done.result.reply
    done.new.self done.new.seat counts events done.ensures.begun))

use Rattle.std.proofs.Common.{subst, sym}
use Rattle.ar_served.specs.Kept.{KeptState}
use Rattle.ar_served.specs.Served.{AnswersCommand}
use Rattle.ar_sessions.proofs.Replies.{served_reply}
use Rattle.ar_sessions.proofs.port.ask_with.Goals as goal

pub settle_now-requires : goal.settle_now-requires
settle_now-requires g c =
    let state = g.A.ServedArray.state in
    served_reply (state c.lend.new.array).array (state c.ask-reply.new.self).array c.args.seat.now.host c.args.lun
    c.args.cdb.now c.args.payload c.ask-reply.result
    (state c.lend.new.array).history (state c.ask-reply.new.self).history c.fits-cdb c.ask-reply.ensures.serves

pub returns-clause-answers : goal.returns-clause-answers
returns-clause-answers g c =
    let state = g.A.ServedArray.state in
    record {
      own = c.ask-reply.result;
      answers =
          subst (λ (k : KeptState). AnswersCommand g.A.ServedArray.stores
          (state c.args.array.now) c.args.seat.now c.args.lun
          c.args.cdb.now c.args.payload c.ask-reply.result k c.ask-reply.new.seat)
          (sym c.settle_now.ensures.same)
          (subst (λ (k : KeptState). AnswersCommand g.A.ServedArray.stores k c.args.seat.now c.args.lun c.args.cdb.now
          c.args.payload c.ask-reply.result (state c.ask-reply.new.self) c.ask-reply.new.seat)
          c.lend.ensures c.ask-reply.ensures);
      settles = c.settle_now.ensures.settles;
    }

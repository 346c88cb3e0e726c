use Rattle.std.proofs.Common.{subst, sym, ap, ◌∙◌}
use Rattle.ar_scsi.specs.declared.reply.Reply.{Reply}
use Rattle.ar_frames.specs.Frame.{IsReply}
use Rattle.ar_served.specs.Served.{asks_commit}
use Rattle.ar_sessions.proofs.Asking.{lasting_commit, lasting_reply-is}
use Rattle.ar_sessions.proofs.port.settle_with.Goals as goal

pub returns-clause-settles : goal.returns-clause-settles
returns-clause-settles g c = record {
  lasts = c.settle-lasts.result;
  reply_is = c.lasting_reply.ensures;
  failed = c.settle-lasts.ensures.failed;
}

pub returns-clause-lasts : goal.returns-clause-lasts
returns-clause-lasts g c asked =
    let both = lasting_commit c.settle-lasts.result c.args.cdb.now c.args.reply
    (sym (ap (λ (r : Reply). asks_commit c.args.cdb.now r) c.lasting_reply.ensures) ∙ asked) in
    c.settle-lasts.ensures.settled both.0 both.1

pub returns-clause-reply : goal.returns-clause-reply
returns-clause-reply g c =
    subst IsReply (sym c.lasting_reply.ensures) (lasting_reply-is c.settle-lasts.result c.args.reply c.requires)

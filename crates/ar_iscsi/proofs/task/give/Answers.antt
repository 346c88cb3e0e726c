use Rattle.std.proofs.Common.{◌≡◌, ◌∙◌, ℕ, inr, sym, subst}
use Rattle.std.specs.Prelude.{Option, MatchOption}
use Rattle.ar_scsi.specs.Reply.{check}
use Rattle.ar_scsi.specs.Sense.{logical_unit_not_supported}
use Rattle.ar_iscsi.proofs.task.give.Goals as goal

pub returns-in-Some-clause-once : goal.returns-in-Some-clause-once
returns-in-Some-clause-once g c =
    inr (record {
      command = c.args.command.now;
      payload = c.args.payload;
      reply = c.command.result;
      given = subst (λ (o : Option ℕ). MatchOption o ((c.command.result ≡ check logical_unit_not_supported)
          × (c.command.new.self ≡ c.args.port.now))
          (λ lun. g.P.Port.commands c.args.port.now lun c.args.command.now.cdb c.args.payload c.command.result
          c.command.new.self))
          (sym (sym c.lun_number.ensures ∙ c.in-Some.is)) c.command.ensures.command;
    })

use Rattle.std.proofs.Common.{length, Result, subst}
use Rattle.ar_scsi.specs.declared.command.Command.{Command}
use Rattle.ar_scsi.specs.declared.sense.Sense.{Sense}
use Rattle.ar_scsi.specs.Reading.{reading}
use Rattle.ar_unit.specs.Unit.{obeyed}
use Rattle.ar_unit.specs.Broken.{broken_obeyed}
use Rattle.ar_volume.specs.Image.{unit_sectors, attention_at}
use Rattle.ar_core.specs.Served.{Serves}
use Rattle.ar_core.proofs.Serving.{serves_check, settles_check}
use Rattle.ar_core.proofs.array.Array.execute_present.Goals as goal

pub returns-in-Err-clause-serves : goal.returns-in-Err-clause-serves
unfolding obeyed broken_obeyed
returns-in-Err-clause-serves g c =
    subst
    (λ (r : Result Command Sense). Serves c.args.self.now c.args.addr
    (obeyed (unit_sectors c.args.self.now c.args.addr) (attention_at c.args.self.now.store.book c.args.addr) r
    c.args.bytes.now) (broken_obeyed c.args.sectors r (length c.args.bytes.now)) c.check.result c.args.self.now)
    c.in-Err.ensures.value
    (serves_check c.args.self.now c.args.addr c.in-Err.sense c.check.result c.check.ensures)

pub returns-in-Err-clause-settles : goal.returns-in-Err-clause-settles
returns-in-Err-clause-settles g c =
    settles_check c.args.self.now c.args.addr (reading c.args.cdb.now) c.in-Err.sense c.check.result c.check.ensures

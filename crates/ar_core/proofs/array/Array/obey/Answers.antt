use Rattle.std.proofs.Common.{true, ℕ, ◌*◌, length, Ok, sym, subst, ◌∙◌}
use Rattle.ar_scsi.specs.declared.command.Command.{Command}
use Rattle.ar_scsi.specs.declared.command.Command.TheVariants.{TestReady, Inquiry, Capacity}
use Rattle.ar_scsi.specs.Data.{capacity_data}
use Rattle.ar_scsi.specs.Reply.{good}
use Rattle.ar_unit.specs.Unit.{obeyed, IsGiven}
use Rattle.ar_unit.specs.Broken.{broken_obeyed}
use Rattle.ar_volume.specs.Image.{unit_sectors, attention_at}
use Rattle.ar_core.specs.Served.{Serves, Settles}
use Rattle.ar_volume.proofs.Images.{length-unit_sectors}
use Rattle.ar_core.proofs.Serving.{serves_quiet, settles_same}
use Rattle.ar_core.proofs.Short.{capacity_few, given_few, inquiry_few}
use Rattle.ar_core.proofs.array.Array.obey.Goals as goal

pub returns-in-TestReady-clause-serves : goal.returns-in-TestReady-clause-serves
unfolding obeyed broken_obeyed
returns-in-TestReady-clause-serves g c =
    subst
    (λ (command : Command). Serves c.args.self.now c.args.addr
    (obeyed (unit_sectors c.args.self.now c.args.addr) (attention_at c.args.self.now.store.book c.args.addr)
    (Ok command) c.args.bytes.now) (broken_obeyed c.args.sectors (Ok command) (length c.args.bytes.now))
    c.test_ready.result c.args.self.now)
    (sym c.in-TestReady.is)
    (c.test_ready.ensures.serves c.args.addr)

pub returns-in-TestReady-clause-settles : goal.returns-in-TestReady-clause-settles
returns-in-TestReady-clause-settles g c =
    subst
    (λ (command : Command). Settles c.args.self.now c.args.addr (Ok command) c.test_ready.result c.args.self.now)
    (sym c.in-TestReady.is)
    (settles_same c.args.self.now c.args.addr (Ok (TestReady)) c.test_ready.result (λ lba count fua is _. cc)
    (λ lba count is _. cc))

pub returns-in-Inquiry-clause-serves : goal.returns-in-Inquiry-clause-serves
unfolding obeyed broken_obeyed
returns-in-Inquiry-clause-serves g c =
    subst
    (λ (command : Command). Serves c.args.self.now c.args.addr
    (obeyed (unit_sectors c.args.self.now c.args.addr) (attention_at c.args.self.now.store.book c.args.addr)
    (Ok command) c.args.bytes.now) (broken_obeyed c.args.sectors (Ok command) (length c.args.bytes.now))
    c.inquiry.result c.args.self.now)
    (sym c.in-Inquiry.is)
    (serves_quiet c.args.self.now c.args.addr _ _ c.inquiry.result (λ _. c.inquiry.ensures) (λ _. c.inquiry.ensures))

pub returns-in-Inquiry-clause-settles : goal.returns-in-Inquiry-clause-settles
returns-in-Inquiry-clause-settles g c =
    subst
    (λ (command : Command). Settles c.args.self.now c.args.addr (Ok command) c.inquiry.result c.args.self.now)
    (sym c.in-Inquiry.is)
    (settles_same c.args.self.now c.args.addr (Ok (Inquiry c.in-Inquiry.allocation_length)) c.inquiry.result
    (λ lba count fua is _. cc) (λ lba count is _. cc))

pub returns-in-Capacity-clause-serves : goal.returns-in-Capacity-clause-serves
unfolding obeyed broken_obeyed
returns-in-Capacity-clause-serves g c =
    subst
    (λ (command : Command). Serves c.args.self.now c.args.addr
    (obeyed (unit_sectors c.args.self.now c.args.addr) (attention_at c.args.self.now.store.book c.args.addr)
    (Ok command) c.args.bytes.now) (broken_obeyed c.args.sectors (Ok command) (length c.args.bytes.now))
    c.capacity.result c.args.self.now)
    (sym c.in-Capacity.is)
    (let len = length-unit_sectors c.args.self.now c.args.addr ∙ c.requires.sectors_same in
    serves_quiet c.args.self.now c.args.addr (good (capacity_data (length (unit_sectors c.args.self.now c.args.addr))))
    (good (capacity_data c.args.sectors)) c.capacity.result
    (λ _. subst (λ (n : ℕ). IsGiven (good (capacity_data n)) c.capacity.result) (sym len) c.capacity.ensures)
    (λ _. c.capacity.ensures))

pub returns-in-Capacity-clause-settles : goal.returns-in-Capacity-clause-settles
returns-in-Capacity-clause-settles g c =
    subst
    (λ (command : Command). Settles c.args.self.now c.args.addr (Ok command) c.capacity.result c.args.self.now)
    (sym c.in-Capacity.is)
    (settles_same c.args.self.now c.args.addr (Ok (Capacity)) c.capacity.result (λ lba count fua is _. cc)
    (λ lba count is _. cc))

pub returns-in-Read-clause-serves : goal.returns-in-Read-clause-serves
unfolding obeyed broken_obeyed
returns-in-Read-clause-serves g c =
    subst
    (λ (command : Command). Serves c.args.self.now c.args.addr
    (obeyed (unit_sectors c.args.self.now c.args.addr) (attention_at c.args.self.now.store.book c.args.addr)
    (Ok command) c.args.bytes.now) (broken_obeyed c.args.sectors (Ok command) (length c.args.bytes.now)) c.read.result
    c.read.new.self)
    (sym c.in-Read.is)
    (c.read.ensures.serves)

pub returns-in-Read-clause-settles : goal.returns-in-Read-clause-settles
returns-in-Read-clause-settles g c =
    subst
    (λ (command : Command). Settles c.args.self.now c.args.addr (Ok command) c.read.result c.read.new.self)
    (sym c.in-Read.is)
    (c.read.ensures.settles)

pub returns-in-Write-clause-serves : goal.returns-in-Write-clause-serves
unfolding obeyed broken_obeyed
returns-in-Write-clause-serves g c =
    subst
    (λ (command : Command). Serves c.args.self.now c.args.addr
    (obeyed (unit_sectors c.args.self.now c.args.addr) (attention_at c.args.self.now.store.book c.args.addr)
    (Ok command) c.args.bytes.now) (broken_obeyed c.args.sectors (Ok command) (length c.args.bytes.now))
    c.write.result c.write.new.self)
    (sym c.in-Write.is)
    (c.write.ensures.serves)

pub returns-in-Write-clause-settles : goal.returns-in-Write-clause-settles
returns-in-Write-clause-settles g c =
    subst
    (λ (command : Command). Settles c.args.self.now c.args.addr (Ok command) c.write.result c.write.new.self)
    (sym c.in-Write.is)
    (c.write.ensures.settles)

pub returns-in-Inquiry-clause-few : goal.returns-in-Inquiry-clause-few
returns-in-Inquiry-clause-few g c =
    given_few _ c.inquiry.result (65535 * 512) c.inquiry.ensures (inquiry_few true c.in-Inquiry.allocation_length)

pub returns-in-Capacity-clause-few : goal.returns-in-Capacity-clause-few
returns-in-Capacity-clause-few g c =
    given_few _ c.capacity.result (65535 * 512) c.capacity.ensures (capacity_few c.args.sectors)

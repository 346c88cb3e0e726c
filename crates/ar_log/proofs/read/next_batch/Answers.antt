use Rattle.std.proofs.Common.{arith}
use Rattle.ar_log.specs.Codec.{items_of}
use Rattle.ar_log.proofs.Ahead.{reads_on, reads_all, nothing_stands, then_err, then_some, then_none}
use Rattle.ar_log.proofs.read.next_batch.Goals as goal

pub returns-clause-batch : goal.returns-clause-batch
returns-clause-batch g c =
    then_some _ _ _ c.read_batch.result c.read_batch.ensures.batch c.read_batch.ensures.place
    (λ read begins goes clean at_place. reads_on (g.M.Media.seen c.args.media.now) c.args.place at_place
    (items_of read.records.items) read.next (begins clean) goes)

pub returns-clause-last : goal.returns-clause-last
returns-clause-last g c =
    then_none _ _ c.read_batch.result c.read_batch.ensures.closed
    (λ gate clean at_place. reads_all (g.M.Media.seen c.args.media.now) c.args.place at_place (gate clean))

pub returns-clause-damaged : goal.returns-clause-damaged
returns-clause-damaged g c =
    then_err _ _ c.read_batch.result c.read_batch.ensures.damaged
    (λ e damage is clean at_place batches stands. nothing_stands (g.M.Media.seen c.args.media.now) c.args.place at_place
    (damage is clean at_place.left) batches stands)

pub returns-clause-progress : goal.returns-clause-progress
returns-clause-progress g c =
    then_some _ _ _ c.read_batch.result c.read_batch.ensures.place c.read_batch.ensures.place
    (λ read goes _. omega (arith, goes.at))

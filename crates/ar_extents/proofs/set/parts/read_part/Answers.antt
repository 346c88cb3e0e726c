use Rattle.std.proofs.Common.{arith}
use Rattle.ar_extents.proofs.Disks.{ReadsPart-map_set, OthersStay-map_set}
use Rattle.ar_extents.proofs.set.parts.read_part.Goals as goal

pub returns-clause-read : goal.returns-clause-read
returns-clause-read g c =
    ReadsPart-map_set g.D.Disk.state c.args.disks.now.items c.args.place.disk c.index_mut-disk.result.now
    c.read_part-answered.new.self c.args.place.extent c.args.row c.args.first
    c.read_part-answered.result c.read_part-answered.new.into
    (omega (arith, c.args.disks.now.ok.0)) c.index_mut-disk.ensures.value c.read_part-answered.ensures.read

pub returns-clause-others : goal.returns-clause-others
returns-clause-others g c =
    OthersStay-map_set g.D.Disk.state c.args.disks.now.items c.args.place.disk c.read_part-answered.new.self

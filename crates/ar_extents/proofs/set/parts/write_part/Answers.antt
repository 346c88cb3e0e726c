use Rattle.std.proofs.Common.{arith}
use Rattle.ar_extents.proofs.Disks.{WritesPart-map_set, OthersStay-map_set}
use Rattle.ar_extents.proofs.set.parts.write_part.Goals as goal

pub returns-clause-written : goal.returns-clause-written
returns-clause-written g c =
    WritesPart-map_set g.D.Disk.state c.args.disks.now.items c.args.place.disk c.index_mut-disk.result.now
    c.write_part-answered.new.self c.args.place.extent c.args.row c.args.first
    c.write_part-answered.result c.args.from.now
    (omega (arith, c.args.disks.now.ok.0)) c.index_mut-disk.ensures.value c.write_part-answered.ensures.written

pub returns-clause-others : goal.returns-clause-others
returns-clause-others g c =
    OthersStay-map_set g.D.Disk.state c.args.disks.now.items c.args.place.disk c.write_part-answered.new.self

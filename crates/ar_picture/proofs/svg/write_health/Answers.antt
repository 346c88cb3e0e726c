use Rattle.std.proofs.Common.{ap, sym}
use Rattle.ar_picture.specs.Drawings.{health_svg}
use Rattle.ar_picture.proofs.Appending.{said_as}
use Rattle.ar_picture.proofs.svg.write_health.Goals as goal

pub returns-in-Rebuilding : goal.returns-in-Rebuilding
returns-in-Rebuilding g c =
    let old = g.W.Write.contents c.args.out.now in
    let new = g.W.Write.contents c.writeln-in-Rebuilding.new.self in
    let same = sym (ap (health_svg c.args.picture.now.extents) c.in-Rebuilding.is) in
    record { text = said_as c.writeln-in-Rebuilding.result old new same c.writeln-in-Rebuilding.ensures.bytes }

pub returns-in-Broken : goal.returns-in-Broken
returns-in-Broken g c =
    let old = g.W.Write.contents c.args.out.now in
    let new = g.W.Write.contents c.writeln-in-Broken.new.self in
    let same = sym (ap (health_svg c.args.picture.now.extents) c.in-Broken.is) in
    record { text = said_as c.writeln-in-Broken.result old new same c.writeln-in-Broken.ensures.bytes }

pub returns-in-Lost : goal.returns-in-Lost
returns-in-Lost g c =
    let old = g.W.Write.contents c.args.out.now in
    let new = g.W.Write.contents c.writeln-in-Lost.new.self in
    let same = sym (ap (health_svg c.args.picture.now.extents) c.in-Lost.is) in
    record { text = said_as c.writeln-in-Lost.result old new same c.writeln-in-Lost.ensures.bytes }

use Rattle.std.proofs.Common.{◌∙◌, ap}
use Rattle.ar_target.specs.Provisioning.{names_past}
use Rattle.ar_target.proofs.Descriptors.{none_past, fits_unit}
use Rattle.ar_target.proofs.discarding.unmap_unit.Goals as goal

pub discard_ranges-requires-clause-fit : goal.discard_ranges-requires-clause-fit
discard_ranges-requires-clause-fit g c = λ i lt.
    fits_unit c.args.last _ _ c.ranges.last.fits
    (none_past c.args.last c.args.list.now i c.descriptor_count.result lt
    (ap (names_past c.args.last c.args.list.now) c.descriptor_count.ensures.count ∙ c.in-None.ensures.within))

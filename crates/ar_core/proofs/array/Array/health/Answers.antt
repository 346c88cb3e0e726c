use Rattle.std.proofs.Common.{subst}
use Rattle.ar_unit.specs.Unit.{IsWhole}
use Rattle.ar_volume.specs.Image.{ArrayState, image}
use Rattle.ar_volume.proofs.Images.{image_whole}
use Rattle.ar_core.proofs.array.Array.health.Goals as goal

pub returns-clause-whole : goal.returns-clause-whole
returns-clause-whole g c = λ sound a.
    subst (λ (s : ArrayState). IsWhole (image s a)) c.self.view_is
    (image_whole c.self.inside.blocks (c.health.ensures.whole sound) a)

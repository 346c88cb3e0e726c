use Rattle.std.proofs.Common.{sym, ap, ◌∙◌}
use Rattle.ar_disks.specs.declared.geometry.Geometry.{Geometry}
use Rattle.ar_disks.specs.Block.{zeros}
use Rattle.ar_disks.specs.Geometry.{block_len_of}
use Rattle.ar_volume.specs.Image.{seen_at}
use Rattle.ar_volume.proofs.Discarding.{unwritten_zeros, zeros_inside}
use Rattle.ar_volume.proofs.blocks.Blocks.unmap_part.Goals as goal

pub returns-then-is_unwritten-clause-inside : goal.returns-then-is_unwritten-clause-inside
returns-then-is_unwritten-clause-inside g c = λ done i low high.
    zeros_inside c.args.geometry (seen_at c.args.self.now c.args.key) c.args.first c.args.count i
    (unwritten_zeros c.args.self.now c.args.key (sym c.is_unwritten.ensures ∙ c.if-is_unwritten.true)
    ∙ ap (λ (h : Geometry). zeros (block_len_of h)) (sym c.requires.shape))
    c.requires.within low high

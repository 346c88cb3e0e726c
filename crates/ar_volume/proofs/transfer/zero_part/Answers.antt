use Rattle.std.proofs.Common.{◌≡◌, ◌⊎◌, ℕ, ◌*◌, ◌+◌, ◌≤◌, List, length, ap, ◌∙◌, inl, inr, arith}
use Rattle.ar_disks.specs.declared.geometry.Geometry.{Geometry}
use Rattle.ar_disks.specs.Geometry.{sectors_of, block_len_of}
use Rattle.ar_disks.specs.Block.{sectors_at, with_sectors, zeros}
use Rattle.ar_disks.specs.Lending.{refilled}
use Rattle.ar_disks.proofs.Sectors.{block_len-sectors, sectors_at-with_sectors_inside, sectors_at-with_sectors_outside}
use Rattle.ar_volume.proofs.Discarding.{length-zeros}
use Rattle.ar_volume.proofs.Pieces.{refilled_is}
use Rattle.ar_volume.proofs.transfer.zero_part.Goals as goal

pub zero_sectors-requires : goal.zero_sectors-requires
zero_sectors-requires g c =
    let shape : Geometry = g.B.Backing.geometry c.args.blocks.now in
    let len : block_len_of shape ≡ 512 * sectors_of shape = block_len-sectors shape in
    let kept : length c.get.new.into ≡ length c.args.block.now =
    c.get.auto.into ∙ ap length c.bytes_mut.ensures.value in
    let same : length (refilled c.args.block.now c.get.new.into) ≡ length c.get.new.into =
    ap length (refilled_is c.args.block.now c.get.new.into kept) in
    omega (arith, len, kept, same, c.requires.whole, c.requires.within)

pub returns-in-Done-clause-inside : goal.returns-in-Done-clause-inside
returns-in-Done-clause-inside g c = λ done i low high.
    let shape : Geometry = g.B.Backing.geometry c.args.blocks.now in
    let fill : List ℕ = zeros (c.args.count * 512) in
    let many : length fill ≡ c.args.count * 512 = length-zeros (c.args.count * 512) in
    let len : block_len_of shape ≡ 512 * sectors_of shape = block_len-sectors shape in
    let kept : length c.get.new.into ≡ length c.args.block.now =
    c.get.auto.into ∙ ap length c.bytes_mut.ensures.value in
    let whole : length c.get.new.into ≡ block_len_of shape = kept ∙ c.requires.whole in
    let put : c.zero_sectors.new.block ≡ with_sectors c.get.new.into c.args.first fill =
    c.zero_sectors.ensures.zeroed
    ∙ ap (λ (b : List ℕ). with_sectors b c.args.first fill)
    (refilled_is c.args.block.now c.get.new.into kept) in
    ap (λ (b : List ℕ). sectors_at b i 1) ((c.put.ensures.written done).written ∙ c.bytes.ensures ∙ put)
    ∙ sectors_at-with_sectors_inside c.get.new.into fill c.args.first i low
    (omega (arith, many)) (omega (arith, many, c.requires.within))

pub returns-in-Done-clause-outside : goal.returns-in-Done-clause-outside
returns-in-Done-clause-outside g c = λ done i apart exists.
    let shape : Geometry = g.B.Backing.geometry c.args.blocks.now in
    let fill : List ℕ = zeros (c.args.count * 512) in
    let many : length fill ≡ c.args.count * 512 = length-zeros (c.args.count * 512) in
    let len : block_len_of shape ≡ 512 * sectors_of shape = block_len-sectors shape in
    let kept : length c.get.new.into ≡ length c.args.block.now =
    c.get.auto.into ∙ ap length c.bytes_mut.ensures.value in
    let whole : length c.get.new.into ≡ block_len_of shape = kept ∙ c.requires.whole in
    let put : c.zero_sectors.new.block ≡ with_sectors c.get.new.into c.args.first fill =
    c.zero_sectors.ensures.zeroed
    ∙ ap (λ (b : List ℕ). with_sectors b c.args.first fill)
    (refilled_is c.args.block.now c.get.new.into kept) in
    let far : (i + 1 ≤ c.args.first) ⊎ (512 * c.args.first + length fill ≤ 512 * i) =
    elim apart [ inl before ↦ inl (omega arith) | inr after ↦ inr (omega (arith, many)) ] in
    ap (λ (b : List ℕ). sectors_at b i 1) ((c.put.ensures.written done).written ∙ c.bytes.ensures ∙ put)
    ∙ sectors_at-with_sectors_outside c.get.new.into fill c.args.first i far
    (omega (arith, many, c.requires.within))
    ∙ ap (λ (b : List ℕ). sectors_at b i 1) (c.get.ensures.content c.in-Done.is)

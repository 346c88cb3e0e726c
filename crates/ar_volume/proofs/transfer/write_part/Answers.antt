use Rattle.std.proofs.Common.{◌≡◌, ◌⊎◌, ℕ, ◌*◌, ◌+◌, ◌≤◌, List, length, sym, ap, ◌∙◌, inl, inr, arith}
use Rattle.ar_disks.specs.Geometry.{block_len_of}
use Rattle.ar_disks.specs.Block.{sectors_at, with_sectors}
use Rattle.ar_disks.proofs.Sectors.{sectors_at-with_sectors_inside, sectors_at-with_sectors_outside}
use Rattle.ar_volume.proofs.Pieces.{refilled_is}
use Rattle.ar_volume.proofs.transfer.write_part.Goals as goal

pub returns-then-is_in_place-clause-inside : goal.returns-then-is_in_place-clause-inside
returns-then-is_in_place-clause-inside g c = λ done i low high.
    let whole : length (g.B.Backing.block_at c.args.blocks.now c.args.key) ≡ block_len_of c.args.geometry =
    c.put_part.ensures.whole done ∙ ap block_len_of (sym c.requires.shape) in
    ap (λ (b : List ℕ). sectors_at b i 1) (c.put_part.ensures.written done).written
    ∙ sectors_at-with_sectors_inside (g.B.Backing.block_at c.args.blocks.now c.args.key) c.args.bytes.now c.args.first
    i low high (omega (arith, whole, c.requires.within))

pub returns-then-is_in_place-clause-outside : goal.returns-then-is_in_place-clause-outside
returns-then-is_in_place-clause-outside g c = λ done i apart exists.
    let whole : length (g.B.Backing.block_at c.args.blocks.now c.args.key) ≡ block_len_of c.args.geometry =
    c.put_part.ensures.whole done ∙ ap block_len_of (sym c.requires.shape) in
    let far : (i + 1 ≤ c.args.first) ⊎ (512 * c.args.first + length c.args.bytes.now ≤ 512 * i) =
    elim apart [ inl before ↦ inl (omega arith) | inr after ↦ inr after ] in
    ap (λ (b : List ℕ). sectors_at b i 1) (c.put_part.ensures.written done).written
    ∙ sectors_at-with_sectors_outside (g.B.Backing.block_at c.args.blocks.now c.args.key) c.args.bytes.now c.args.first
    i far (omega (arith, whole, c.requires.within))

pub returns-in-Done-clause-inside : goal.returns-in-Done-clause-inside
returns-in-Done-clause-inside g c = λ done i low high.
    let kept : length c.get.new.into ≡ length c.args.block.now =
    c.get.auto.into ∙ ap length c.bytes_mut.ensures.value in
    let whole : length c.get.new.into ≡ block_len_of c.args.geometry = kept ∙ c.requires.whole in
    let put : c.set_sectors.new.self ≡ with_sectors c.get.new.into c.args.first c.args.bytes.now =
    c.set_sectors.ensures.sectors
    ∙ ap (λ (b : List ℕ). with_sectors b c.args.first c.args.bytes.now)
    (refilled_is c.args.block.now c.get.new.into kept) in
    ap (λ (b : List ℕ). sectors_at b i 1) ((c.put-in-Done.ensures.written done).written ∙ c.bytes.ensures ∙ put)
    ∙ sectors_at-with_sectors_inside c.get.new.into c.args.bytes.now c.args.first i low
    high (omega (arith, whole, c.requires.within))

pub returns-in-Done-clause-outside : goal.returns-in-Done-clause-outside
returns-in-Done-clause-outside g c = λ done i apart exists.
    let kept : length c.get.new.into ≡ length c.args.block.now =
    c.get.auto.into ∙ ap length c.bytes_mut.ensures.value in
    let whole : length c.get.new.into ≡ block_len_of c.args.geometry = kept ∙ c.requires.whole in
    let put : c.set_sectors.new.self ≡ with_sectors c.get.new.into c.args.first c.args.bytes.now =
    c.set_sectors.ensures.sectors
    ∙ ap (λ (b : List ℕ). with_sectors b c.args.first c.args.bytes.now)
    (refilled_is c.args.block.now c.get.new.into kept) in
    let far : (i + 1 ≤ c.args.first) ⊎ (512 * c.args.first + length c.args.bytes.now ≤ 512 * i) =
    elim apart [ inl before ↦ inl (omega arith) | inr after ↦ inr after ] in
    ap (λ (b : List ℕ). sectors_at b i 1) ((c.put-in-Done.ensures.written done).written ∙ c.bytes.ensures ∙ put)
    ∙ sectors_at-with_sectors_outside c.get.new.into c.args.bytes.now c.args.first i far
    (omega (arith, whole, c.requires.within))
    ∙ ap (λ (b : List ℕ). sectors_at b i 1) (c.get.ensures.content c.in-Done.is)

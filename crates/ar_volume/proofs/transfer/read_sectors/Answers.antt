use Rattle.std.proofs.Common.{◌≡◌, ◌⊎◌, ℕ, ◌%◌, ◌/◌, ◌+◌, ◌-◌, ◌*◌, ◌<◌, ◌≤◌, List, take, drop}
use Rattle.std.proofs.Common.{length, inl, inr, min, ap, sym, subst, ◌∙◌, arith}
use Rattle.std.proofs.lemmas.Slice.{take-put_mid, take-put_mid_below}
use Rattle.ar_disks.specs.declared.address.Key.{Key}
use Rattle.ar_disks.specs.Geometry.{sectors_of}
use Rattle.ar_disks.specs.Block.{part_at, sectors_at}
use Rattle.ar_disks.proofs.Sectors.{part_at_sectors}
use Rattle.ar_volume.specs.Sectors.{unit_block, key_of}
use Rattle.ar_cache.proofs.Keeping.{keeps_then}
use Rattle.ar_volume.proofs.Pieces.{cut_part-length, sectors_in-more, part-some, part-within, stored_done}
use Rattle.ar_volume.proofs.Putting.{turn-more, part-edge}
use Rattle.ar_volume.proofs.transfer.read_sectors.Goals as goal

pub loop-at-preserved : goal.loop-at-preserved
loop-at-preserved g c =
    let at : ℕ = c.loop-at.at in
    let part : ℕ = c.min-part.result in
    let block_of : ℕ → List ℕ = unit_block (g.B.Backing.block_at c.args.blocks.now) c.args.addr in
    let sectors : c.sectors-sectors.result ≡ sectors_of c.args.geometry = c.sectors-sectors.ensures in
    let within : at % sectors_of c.args.geometry + part ≤ sectors_of c.args.geometry =
    part-within c.args.geometry at (c.args.lba + c.args.count - at) part (c.min-part.ensures
    ∙ ap (λ (s : ℕ). min (s - at % s) (c.args.lba + c.args.count - at)) sectors) in
    let piece : sectors_at (g.B.Backing.block_at c.loop-at.blocks (key_of c.args.addr (at / c.sectors-sectors.result)))
    (at % c.sectors-sectors.result) part
    ≡ sectors_at (block_of (at / sectors_of c.args.geometry)) (at % sectors_of c.args.geometry) part =
    ap (λ (b : List ℕ). sectors_at b (at % c.sectors-sectors.result) part)
    (c.loop-at.invariant.blocks.same (key_of c.args.addr (at / c.sectors-sectors.result)))
    ∙ ap (λ (s : ℕ). sectors_at (block_of (at / s)) (at % s) part) sectors in
    let front : (at - c.args.lba) * 512 ≡ 512 * (at - c.args.lba) = omega arith in
    let from : ℕ = at - c.args.lba in
    let asked : List ℕ = take (from * 512 + part * 512 - from * 512) (drop (from * 512) c.loop-at.out) in
    let long : length asked ≡ 512 * part =
    cut_part-length c.loop-at.out from part
    (omega (arith, c.loop-at.auto.out, c.requires.sectors, c.loop-at.invariant.from, c.min-part.ensures)) in
    let many : length c.get_part.new.into ≡ 512 * part = c.get_part.auto.into ∙ long in
    let some : 0 < part =
    part-some c.args.geometry at (c.args.lba + c.args.count - at) part (c.min-part.ensures
    ∙ ap (λ (s : ℕ). min (s - at % s) (c.args.lba + c.args.count - at)) sectors) (omega arith) in
    let key : Key = key_of c.args.addr (at / sectors_of c.args.geometry) in
    let got : g.B.Backing.gets c.loop-at.blocks key c.get_part.new.self =
    subst (λ (s : ℕ). g.B.Backing.gets c.loop-at.blocks (key_of c.args.addr (at / s)) c.get_part.new.self) sectors
    c.get_part.ensures.gets in
    let edge : (at ≡ c.args.lba) ⊎ (at % sectors_of c.args.geometry ≡ 0) =
    elim c.loop-at.invariant.edge [ inl is ↦ is | inr past ↦ absurd (omega (arith, past)) ] in
    let ended : ((at + part ≡ c.args.lba) ⊎ ((at + part) % sectors_of c.args.geometry ≡ 0))
    ⊎ (at + part ≡ c.args.lba + c.args.count) =
    elim (part-edge c.args.geometry at (c.args.lba + c.args.count - at) part (c.min-part.ensures
    ∙ ap (λ (s : ℕ). min (s - at % s) (c.args.lba + c.args.count - at)) sectors)) [
      | inl whole ↦ inl (inr whole)
      | inr rest ↦ inr (omega arith)
    ] in
    record {
      from = omega arith;
      until = omega arith;
      begun =
          take-put_mid ((at - c.args.lba) * 512) _ c.loop-at.out c.get_part.new.into (512 * (at + part - c.args.lba))
          (omega (arith, many, c.loop-at.invariant.from))
          (omega (arith, c.loop-at.auto.out, c.requires.sectors, c.loop-at.invariant.until))
          ∙ sectors_in-more c.args.geometry block_of c.args.lba at part (take ((at - c.args.lba) * 512) c.loop-at.out)
          c.get_part.new.into
          c.loop-at.invariant.from within (ap (λ n. take n c.loop-at.out) front ∙ c.loop-at.invariant.begun)
          (c.get_part.ensures.content c.in-Done.is
          ∙ ap (λ n. part_at (g.B.Backing.block_at c.loop-at.blocks
          (key_of c.args.addr (at / c.sectors-sectors.result))) (at % c.sectors-sectors.result) n) long
          ∙ part_at_sectors _ _ part ∙ piece);
      blocks = record {
        same = λ k. (c.get_part.ensures.blocks c.in-Done.is).same k
            ∙ c.loop-at.invariant.blocks.same k;
      };
      sound = stored_done (g.B.Backing.is_broken c.get_part.new.self) (sym c.get_part.ensures.answer
          ∙ c.in-Done.is);
      keeps = keeps_then _ _ _ _ g.met.B.Backing.follows_trans _ _ _ c.loop-at.invariant.keeps
          c.get_part.ensures.keeps;
      gets =
          turn-more g.B.Backing.gets c.args.geometry c.args.addr c.args.lba at part c.args.blocks.now c.loop-at.blocks
          c.get_part.new.self
          c.loop-at.invariant.from some within edge c.loop-at.invariant.gets got;
      edge = ended;
    }

pub returns-in_default-clause-gets : goal.returns-in_default-clause-gets
returns-in_default-clause-gets g c =
    let at : ℕ = c.loop-at.at in
    let part : ℕ = c.min-part.result in
    let sectors : c.sectors-sectors.result ≡ sectors_of c.args.geometry = c.sectors-sectors.ensures in
    let part_is : part
    ≡ min (sectors_of c.args.geometry - at % sectors_of c.args.geometry) (c.args.lba + c.args.count - at) =
    c.min-part.ensures ∙ ap (λ (s : ℕ). min (s - at % s) (c.args.lba + c.args.count - at)) sectors in
    let got : g.B.Backing.gets c.loop-at.blocks (key_of c.args.addr (at / sectors_of c.args.geometry))
    c.get_part.new.self =
    subst (λ (s : ℕ). g.B.Backing.gets c.loop-at.blocks (key_of c.args.addr (at / s)) c.get_part.new.self) sectors
    c.get_part.ensures.gets in
    let edge : (at ≡ c.args.lba) ⊎ (at % sectors_of c.args.geometry ≡ 0) =
    elim c.loop-at.invariant.edge [ inl is ↦ is | inr past ↦ absurd (omega (arith, past)) ] in
    record {
      many = at + part - c.args.lba;
      within = omega arith;
      in_turn =
          turn-more g.B.Backing.gets c.args.geometry c.args.addr c.args.lba at part c.args.blocks.now c.loop-at.blocks
          c.get_part.new.self
          c.loop-at.invariant.from
          (part-some c.args.geometry at (c.args.lba + c.args.count - at) part part_is (omega arith))
          (part-within c.args.geometry at (c.args.lba + c.args.count - at) part part_is)
          edge c.loop-at.invariant.gets got;
    }

pub returns-in_default-clause-stopped : goal.returns-in_default-clause-stopped
returns-in_default-clause-stopped g c _ =
    let at : ℕ = c.loop-at.at in
    let sectors : c.sectors-sectors.result ≡ sectors_of c.args.geometry = c.sectors-sectors.ensures in
    let reached : at ≡ c.args.lba + (at - c.args.lba) = omega (arith, c.loop-at.invariant.from) in
    let got : g.B.Backing.gets c.loop-at.blocks (key_of c.args.addr (at / sectors_of c.args.geometry))
    c.get_part.new.self =
    subst (λ (s : ℕ). g.B.Backing.gets c.loop-at.blocks (key_of c.args.addr (at / s)) c.get_part.new.self) sectors
    c.get_part.ensures.gets in
    record {
      fails = record {
        many = at - c.args.lba;
        below = omega arith;
        next = c.loop-at.blocks;
        in_turn = c.loop-at.invariant.gets;
        sound = c.loop-at.invariant.sound;
        last = subst
            (λ (n : ℕ). g.B.Backing.gets c.loop-at.blocks (key_of c.args.addr (n / sectors_of c.args.geometry))
            c.get_part.new.self) reached got;
      };
      begun =
          take-put_mid_below ((at - c.args.lba) * 512) _ c.loop-at.out c.get_part.new.into (512 * (at - c.args.lba))
          (omega arith)
          (omega (arith, c.loop-at.auto.out, c.requires.sectors, c.loop-at.invariant.until))
          ∙ c.loop-at.invariant.begun;
    }

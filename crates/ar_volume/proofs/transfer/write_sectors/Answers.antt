use Rattle.std.proofs.Common.{◌≡◌, ◌⊎◌, Bool, ◌||◌, ℕ, ◌==◌, ◌%◌, ◌/◌, ◌+◌, ◌-◌, ◌*◌, ◌<◌, ◌≤◌, List, inl, inr, min}
use Rattle.std.proofs.Common.{take, drop, length, sym, ap, subst, ◌∙◌, arith}
use Rattle.ar_disks.specs.Geometry.{block_len_of, sectors_of}
use Rattle.ar_volume.specs.Sectors.{unit_block, key_of}
use Rattle.ar_volume.specs.Storing.{Overwrites, Replaces, StopsOver, StopsReplacing, is_whole}
use Rattle.ar_cache.proofs.Keeping.{keeps_then}
use Rattle.ar_disks.specs.declared.address.Key.{Key}
use Rattle.ar_volume.proofs.Putting.{part-edge, part-whole, turn-more, turn-stops}
use Rattle.ar_volume.proofs.Pieces.{other_block, other_unit, PutsPart, part-within, part-some, stored_done}
use Rattle.ar_volume.proofs.Pieces.{written-inside, written-outside, cut_part, cut_part-length, bytes-whole}
use Rattle.ar_volume.proofs.transfer.write_sectors.Goals as goal

pub loop-at-preserved : goal.loop-at-preserved
loop-at-preserved g c =
    let at : ℕ = c.loop-at.at in
    let part : ℕ = c.min-part.result in
    let old : ℕ → List ℕ = unit_block (g.B.Backing.block_at c.args.blocks.now) c.args.addr in
    let mid : ℕ → List ℕ = unit_block (g.B.Backing.block_at c.loop-at.blocks) c.args.addr in
    let new : ℕ → List ℕ = unit_block (g.B.Backing.block_at c.write_part.new.blocks) c.args.addr in
    let first : ℕ = at - c.args.lba in
    let piece : List ℕ = take (first * 512 + part * 512 - first * 512) (drop (first * 512) c.args.bytes.now) in
    let sectors : c.sectors-sectors.result ≡ sectors_of c.args.geometry = c.sectors-sectors.ensures in
    let within : at % sectors_of c.args.geometry + part ≤ sectors_of c.args.geometry =
    part-within c.args.geometry at (c.args.lba + c.args.count - at) part (c.min-part.ensures
    ∙ ap (λ (s : ℕ). min (s - at % s) (c.args.lba + c.args.count - at)) sectors) in
    let long : length piece ≡ 512 * part =
    cut_part-length c.args.bytes.now first part (omega (arith, c.requires.sectors)) in
    let some : 0 < part =
    part-some c.args.geometry at (c.args.lba + c.args.count - at) part (c.min-part.ensures
    ∙ ap (λ (s : ℕ). min (s - at % s) (c.args.lba + c.args.count - at)) sectors) (omega arith) in
    let puts : PutsPart c.args.geometry mid new piece at part (sectors_of c.args.geometry) =
    subst (PutsPart c.args.geometry mid new piece at part) sectors
    (record {
      inside = λ i low high. c.write_part.ensures.inside c.in-Done.is i low (omega (arith, long, high));
      outside = λ i apart exists.
          c.write_part.ensures.outside c.in-Done.is i
          (elim apart [ inl before ↦ inl before | inr after ↦ inr (omega (arith, long, after)) ]) exists;
      others = λ q other. c.write_part.ensures.others c.in-Done.is (key_of c.args.addr q)
          (other_block c.args.addr q (at / c.sectors-sectors.result) other);
    }) in
    let key : Key = key_of c.args.addr (at / sectors_of c.args.geometry) in
    let edge : (at ≡ c.args.lba) ⊎ (at % sectors_of c.args.geometry ≡ 0) =
    elim c.loop-at.invariant.edge [ inl is ↦ is | inr past ↦ absurd (omega (arith, past)) ] in
    let part_is : part
    ≡ min (sectors_of c.args.geometry - at % sectors_of c.args.geometry) (c.args.lba + c.args.count - at) =
    c.min-part.ensures ∙ ap (λ (s : ℕ). min (s - at % s) (c.args.lba + c.args.count - at)) sectors in
    let part_whole : length piece == block_len_of c.args.geometry ≡ is_whole c.args.geometry c.args.lba c.args.count
    key =
    bytes-whole c.args.geometry (length piece) part long
    ∙ part-whole c.args.geometry c.args.addr c.args.lba c.args.count at part part_is c.loop-at.invariant.from
    (omega arith) edge in
    let b = g.B.Backing in
    let put : Overwrites b.gets b.puts b.in_place c.args.geometry c.args.lba c.args.count c.loop-at.blocks key
    c.write_part.new.blocks =
    subst (λ (w : Bool). Replaces b.gets b.puts (w || b.in_place c.loop-at.blocks key) c.loop-at.blocks key
    c.write_part.new.blocks) part_whole
    (subst (λ (s : ℕ). Replaces b.gets b.puts
    ((length piece == block_len_of c.args.geometry) || b.in_place c.loop-at.blocks (key_of c.args.addr (at / s)))
    c.loop-at.blocks (key_of c.args.addr (at / s)) c.write_part.new.blocks) sectors
    (c.write_part.ensures.puts c.in-Done.is)) in
    let ended : ((at + part ≡ c.args.lba) ⊎ ((at + part) % sectors_of c.args.geometry ≡ 0))
    ⊎ (at + part ≡ c.args.lba + c.args.count) =
    elim (part-edge c.args.geometry at (c.args.lba + c.args.count - at) part (c.min-part.ensures
    ∙ ap (λ (s : ℕ). min (s - at % s) (c.args.lba + c.args.count - at)) sectors)) [
      | inl whole ↦ inl (inr whole)
      | inr rest ↦ inr (omega arith)
    ] in
    record {
      from = omega arith;
      until = omega arith;
      inside = written-inside c.args.geometry mid new c.args.bytes.now piece c.args.lba at part c.loop-at.invariant.from
          within (cut_part c.args.bytes.now first part) puts c.loop-at.invariant.inside;
      outside = written-outside c.args.geometry old mid new piece c.args.lba at part c.loop-at.invariant.from within
          puts c.loop-at.invariant.outside;
      others = λ k other.
          c.write_part.ensures.others c.in-Done.is k
          (other_unit k (key_of c.args.addr (at / c.sectors-sectors.result)) other)
          ∙ c.loop-at.invariant.others k other;
      put =
          turn-more (Overwrites b.gets b.puts b.in_place c.args.geometry c.args.lba c.args.count)
          c.args.geometry c.args.addr c.args.lba at part c.args.blocks.now c.loop-at.blocks c.write_part.new.blocks
          c.loop-at.invariant.from some within edge c.loop-at.invariant.put put;
      edge = ended;
      sound = stored_done _ (sym c.write_part.ensures.answer ∙ c.in-Done.is);
      keeps = keeps_then _ _ _ _ g.met.B.Backing.follows_trans _ _ _ c.loop-at.invariant.keeps
          c.write_part.ensures.keeps;
      len = c.write_part.ensures.len ∙ c.loop-at.invariant.len;
    }

pub returns-in-Broken-clause-stopped : goal.returns-in-Broken-clause-stopped
returns-in-Broken-clause-stopped g c = λ lost.
    let at : ℕ = c.loop-at.at in
    let part : ℕ = c.min-part.result in
    let sectors : c.sectors-sectors.result ≡ sectors_of c.args.geometry = c.sectors-sectors.ensures in
    let part_is : part
    ≡ min (sectors_of c.args.geometry - at % sectors_of c.args.geometry) (c.args.lba + c.args.count - at) =
    c.min-part.ensures ∙ ap (λ (s : ℕ). min (s - at % s) (c.args.lba + c.args.count - at)) sectors in
    let within : at % sectors_of c.args.geometry + part ≤ sectors_of c.args.geometry =
    part-within c.args.geometry at (c.args.lba + c.args.count - at) part part_is in
    let first : ℕ = at - c.args.lba in
    let piece : List ℕ = take (first * 512 + part * 512 - first * 512) (drop (first * 512) c.args.bytes.now) in
    let long : length piece ≡ 512 * part =
    cut_part-length c.args.bytes.now first part (omega (arith, c.requires.sectors)) in
    let some : 0 < part = part-some c.args.geometry at (c.args.lba + c.args.count - at) part part_is (omega arith) in
    let key : Key = key_of c.args.addr (at / sectors_of c.args.geometry) in
    let edge : (at ≡ c.args.lba) ⊎ (at % sectors_of c.args.geometry ≡ 0) =
    elim c.loop-at.invariant.edge [ inl is ↦ is | inr past ↦ absurd (omega (arith, past)) ] in
    let part_whole : length piece == block_len_of c.args.geometry ≡ is_whole c.args.geometry c.args.lba c.args.count
    key =
    bytes-whole c.args.geometry (length piece) part long
    ∙ part-whole c.args.geometry c.args.addr c.args.lba c.args.count at part part_is c.loop-at.invariant.from
    (omega arith) edge in
    let b = g.B.Backing in
    let stop : StopsOver b.gets b.breaks b.in_place b.is_broken c.args.geometry c.args.lba c.args.count c.loop-at.blocks
    key c.write_part.new.blocks =
    subst (λ (w : Bool). StopsReplacing b.gets b.breaks b.is_broken (w || b.in_place c.loop-at.blocks key)
    c.loop-at.blocks key c.write_part.new.blocks) part_whole
    (subst (λ (s : ℕ). StopsReplacing b.gets b.breaks b.is_broken
    ((length piece == block_len_of c.args.geometry) || b.in_place c.loop-at.blocks (key_of c.args.addr (at / s)))
    c.loop-at.blocks (key_of c.args.addr (at / s)) c.write_part.new.blocks) sectors
    (c.write_part.ensures.stopped c.in-Broken.is)) in
    turn-stops (Overwrites b.gets b.puts b.in_place c.args.geometry c.args.lba c.args.count)
    (StopsOver b.gets b.breaks b.in_place b.is_broken c.args.geometry c.args.lba c.args.count)
    c.args.geometry c.args.addr c.args.lba c.args.count at part c.args.blocks.now c.loop-at.blocks
    c.write_part.new.blocks
    c.loop-at.invariant.from some (omega arith) within edge c.loop-at.invariant.put stop

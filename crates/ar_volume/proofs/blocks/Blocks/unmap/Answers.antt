use Rattle.std.proofs.Common.{◌≡◌, ◌⊎◌, Bool, ℕ, ◌==◌, ◌%◌, ◌/◌, ◌+◌, ◌-◌, ◌*◌, ◌<◌, ◌≤◌, List, inl, inr, min, sym, ap}
use Rattle.std.proofs.Common.{subst, ◌∙◌, arith}
use Rattle.ar_cache.specs.Backing.{StopsInTurn}
use Rattle.ar_cache.proofs.Keeping.{keeps_then}
use Rattle.ar_disks.specs.declared.address.Key.{Key}
use Rattle.ar_disks.specs.declared.geometry.Geometry.{Geometry}
use Rattle.ar_disks.specs.Block.{zeros}
use Rattle.ar_disks.specs.Geometry.{sectors_of}
use Rattle.ar_volume.specs.Image.{seen_at}
use Rattle.ar_volume.specs.Laws.{follows_then}
use Rattle.ar_volume.specs.Sectors.{unit_block, key_of, keys_in}
use Rattle.ar_volume.specs.Storing.{is_whole}
use Rattle.ar_volume.specs.Unmap.{DiscardsBlock, DiscardsPart, StopsDiscarding, StopsPart, is_unwritten}
use Rattle.ar_volume.proofs.Discarding.{zeros_part}
use Rattle.ar_volume.proofs.Putting.{part-edge, part-whole, turn-more, turn-stops}
use Rattle.ar_volume.proofs.Pieces.{other_block, other_unit, PutsPart, part-within, part-some, stored_done}
use Rattle.ar_volume.proofs.Pieces.{written-inside, written-outside}
use Rattle.ar_volume.proofs.blocks.Blocks.unmap.Goals as goal

pub loop-at-preserved : goal.loop-at-preserved
loop-at-preserved g c =
    let at : ℕ = c.loop-at.at in
    let part : ℕ = c.min-part.result in
    let old : ℕ → List ℕ = unit_block (seen_at c.args.self.now) c.args.addr in
    let mid : ℕ → List ℕ = unit_block (seen_at c.loop-at.self) c.args.addr in
    let new : ℕ → List ℕ = unit_block (seen_at c.unmap_part.new.self) c.args.addr in
    let first : ℕ = at - c.args.lba in
    let piece : List ℕ = zeros (part * 512) in
    let sectors : c.sectors-sectors.result ≡ sectors_of c.args.geometry = c.sectors-sectors.ensures in
    let part_is : part
    ≡ min (sectors_of c.args.geometry - at % sectors_of c.args.geometry) (c.args.lba + c.args.count - at) =
    c.min-part.ensures ∙ ap (λ (s : ℕ). min (s - at % s) (c.args.lba + c.args.count - at)) sectors in
    let within : at % sectors_of c.args.geometry + part ≤ sectors_of c.args.geometry =
    part-within c.args.geometry at (c.args.lba + c.args.count - at) part part_is in
    let some : 0 < part = part-some c.args.geometry at (c.args.lba + c.args.count - at) part part_is (omega arith) in
    let puts : PutsPart c.args.geometry mid new piece at part (sectors_of c.args.geometry) =
    subst (PutsPart c.args.geometry mid new piece at part) sectors
    (record {
      inside = c.unmap_part.ensures.inside c.in-Done.is;
      outside = c.unmap_part.ensures.outside c.in-Done.is;
      others = λ q other. c.unmap_part.ensures.others c.in-Done.is (key_of c.args.addr q)
          (other_block c.args.addr q (at / c.sectors-sectors.result) other);
    }) in
    let key : Key = key_of c.args.addr (at / sectors_of c.args.geometry) in
    let edge : (at ≡ c.args.lba) ⊎ (at % sectors_of c.args.geometry ≡ 0) =
    elim c.loop-at.invariant.edge [ inl is ↦ is | inr past ↦ absurd (omega (arith, past)) ] in
    let part_whole : part == sectors_of c.args.geometry ≡ is_whole c.args.geometry c.args.lba c.args.count key =
    part-whole c.args.geometry c.args.addr c.args.lba c.args.count at part part_is c.loop-at.invariant.from
    (omega arith) edge in
    let discard : DiscardsBlock c.args.geometry c.args.lba c.args.count c.loop-at.self key c.unmap_part.new.self =
    subst (λ (b : Bool). DiscardsPart b (is_unwritten c.loop-at.self key) c.loop-at.self key c.unmap_part.new.self)
    part_whole
    (subst (λ (s : ℕ). DiscardsPart (part == sectors_of c.args.geometry)
    (is_unwritten c.loop-at.self (key_of c.args.addr (at / s))) c.loop-at.self
    (key_of c.args.addr (at / s)) c.unmap_part.new.self) sectors
    (c.unmap_part.ensures.discards c.in-Done.is)) in
    let ended : ((at + part ≡ c.args.lba) ⊎ ((at + part) % sectors_of c.args.geometry ≡ 0))
    ⊎ (at + part ≡ c.args.lba + c.args.count) =
    elim (part-edge c.args.geometry at (c.args.lba + c.args.count - at) part part_is) [
      | inl whole ↦ inl (inr whole)
      | inr rest ↦ inr (omega arith)
    ] in
    record {
      from = omega arith;
      until = omega arith;
      inside = written-inside c.args.geometry mid new (zeros (c.args.count * 512)) piece c.args.lba at part
          c.loop-at.invariant.from
          within (zeros_part c.args.count first part (omega (arith, part_is))) puts c.loop-at.invariant.inside;
      outside = written-outside c.args.geometry old mid new piece c.args.lba at part c.loop-at.invariant.from within
          puts c.loop-at.invariant.outside;
      others = λ k other.
          c.unmap_part.ensures.others c.in-Done.is k
          (other_unit k (key_of c.args.addr (at / c.sectors-sectors.result)) other)
          ∙ c.loop-at.invariant.others k other;
      discard =
          turn-more (DiscardsBlock c.args.geometry c.args.lba c.args.count)
          c.args.geometry c.args.addr c.args.lba at part c.args.self.now c.loop-at.self c.unmap_part.new.self
          c.loop-at.invariant.from some within edge c.loop-at.invariant.discard discard;
      edge = ended;
      sound = stored_done _ (sym c.unmap_part.ensures.answer ∙ c.in-Done.is);
      keeps = keeps_then _ _ _ _ follows_then _ _ _ c.loop-at.invariant.keeps c.unmap_part.ensures.keeps;
      len = c.unmap_part.ensures.len ∙ c.loop-at.invariant.len;
    }

pub returns-in-Broken-clause-stopped : goal.returns-in-Broken-clause-stopped
returns-in-Broken-clause-stopped g c = λ lost.
    let at : ℕ = c.loop-at.at in
    let part : ℕ = c.min-part.result in
    let sectors : c.sectors-sectors.result ≡ sectors_of c.args.geometry = c.sectors-sectors.ensures in
    let part_is : part
    ≡ min (sectors_of c.args.geometry - at % sectors_of c.args.geometry) (c.args.lba + c.args.count - at) =
    c.min-part.ensures ∙ ap (λ (s : ℕ). min (s - at % s) (c.args.lba + c.args.count - at)) sectors in
    let within : at % sectors_of c.args.geometry + part ≤ sectors_of c.args.geometry =
    part-within c.args.geometry at (c.args.lba + c.args.count - at) part part_is in
    let some : 0 < part = part-some c.args.geometry at (c.args.lba + c.args.count - at) part part_is (omega arith) in
    let key : Key = key_of c.args.addr (at / sectors_of c.args.geometry) in
    let edge : (at ≡ c.args.lba) ⊎ (at % sectors_of c.args.geometry ≡ 0) =
    elim c.loop-at.invariant.edge [ inl is ↦ is | inr past ↦ absurd (omega (arith, past)) ] in
    let part_whole : part == sectors_of c.args.geometry ≡ is_whole c.args.geometry c.args.lba c.args.count key =
    part-whole c.args.geometry c.args.addr c.args.lba c.args.count at part part_is c.loop-at.invariant.from
    (omega arith) edge in
    let stop : StopsDiscarding c.args.geometry c.args.lba c.args.count c.loop-at.self key c.unmap_part.new.self =
    subst (λ (w : Bool). StopsPart w (is_unwritten c.loop-at.self key) c.loop-at.self key c.unmap_part.new.self)
    part_whole
    (subst (λ (s : ℕ). StopsPart (part == sectors_of c.args.geometry)
    (is_unwritten c.loop-at.self (key_of c.args.addr (at / s))) c.loop-at.self
    (key_of c.args.addr (at / s)) c.unmap_part.new.self) sectors
    (c.unmap_part.ensures.stopped c.in-Broken.is)) in
    subst (λ (h : Geometry). StopsInTurn (DiscardsBlock h c.args.lba c.args.count)
    (StopsDiscarding h c.args.lba c.args.count) (keys_in h c.args.addr c.args.lba c.args.count) c.args.self.now
    c.unmap_part.new.self) c.requires.shape
    (turn-stops (DiscardsBlock c.args.geometry c.args.lba c.args.count)
    (StopsDiscarding c.args.geometry c.args.lba c.args.count)
    c.args.geometry c.args.addr c.args.lba c.args.count at part c.args.self.now c.loop-at.self
    c.unmap_part.new.self
    c.loop-at.invariant.from some (omega arith) within edge c.loop-at.invariant.discard stop)

pub returns-in-Broken-clause-follows : goal.returns-in-Broken-clause-follows
returns-in-Broken-clause-follows g c =
    follows_then c.args.self.now c.loop-at.self c.unmap_part.new.self c.loop-at.invariant.keeps.joined
    c.unmap_part.ensures.keeps.joined

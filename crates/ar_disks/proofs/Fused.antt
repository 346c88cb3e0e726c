-- What stands on a disk behind a fuse.
use Rattle.std.proofs.Common.{◌≡◌, ℕ, Bool, true, false, IsTrue, List, length, refl, ap, sym, ◌∙◌}
use Rattle.ar_disks.specs.Block.{part_at}
use Rattle.ar_disks.specs.Disk.{DiskState, AccessesDisk, Reads, ReadsPart, Writes, block_at}
use Rattle.ar_disks.specs.Fuse.{FuseState, blown}

-- the disk with its own word on whether it is gone, and its own count of faults
abbrev pub fused : DiskState → Bool → ℕ → DiskState
fused disk gone faults = record disk { gone = gone; faults = faults }

pub block_at-fused : (disk : DiskState) (gone : Bool) (faults e r : ℕ)
    → block_at (fused disk gone faults) e r ≡ block_at disk e r
unfolding block_at
block_at-fused disk gone faults e r = refl

block_at-blown : (old : FuseState) (e r : ℕ) → block_at (blown old).disk e r ≡ block_at old.disk e r
unfolding block_at
block_at-blown old e r = refl

blown_answers : (old : FuseState) → AccessesDisk old.disk (blown old).disk false
blown_answers old =
    record { geometry = refl; extents = refl; gone = refl; stays_gone = λ _. refl; faults = refl; accesses = refl }

-- a read that the fuse doesn't pass
pub blown_reads : (old : FuseState) (answer : Bool) (e r : ℕ) (into : List ℕ) → answer ≡ false
    → Reads old.disk (blown old).disk e r answer into
blown_reads old false e r into h = record {
  answers = blown_answers old;
  blocks = λ f s. block_at-blown old f s;
  content = λ done. absurd (cc);
}
blown_reads old true e r into h = absurd (cc)

-- a read of a part that it doesn't pass
pub blown_reads_part : (old : FuseState) (answer : Bool) (e r first : ℕ) (into : List ℕ) → answer ≡ false
    → ReadsPart old.disk (blown old).disk e r first answer into
blown_reads_part old false e r first into h = record {
  block = blown_reads old false e r (block_at old.disk e r) h;
  part = λ done. absurd (cc);
}
blown_reads_part old true e r first into h = absurd (cc)

-- a write that the fuse doesn't pass
pub blown_writes : (old : FuseState) (answer : Bool) (e r : ℕ) (from : List ℕ) → answer ≡ false
    → Writes old.disk (blown old).disk e r answer from
blown_writes old false e r from h = record {
  answers = blown_answers old;
  written = λ done. absurd (cc);
  same_extent = λ s ne. block_at-blown old e s;
  other_extents = λ f s ne. block_at-blown old f s;
}
blown_writes old true e r from h = absurd (cc)

passed_answers : (old new : DiskState) (faults : ℕ) → AccessesDisk old new true
    → AccessesDisk (fused old false faults) (fused new false faults) true
passed_answers old new faults a =
    record {
      geometry = a.geometry;
      extents = a.extents;
      gone = refl;
      stays_gone = λ gone. gone;
      faults = refl;
      accesses = a.accesses;
    }

-- a read that the fuse passes
pub passed_reads : (old new : DiskState) (gone : Bool) (faults e r : ℕ) (answer : Bool) (into : List ℕ)
    → gone ≡ false → IsTrue answer
    → Reads old new e r answer into → Reads (fused old gone faults) (fused new gone faults) e r answer into
passed_reads old new false faults e r true into there done reads = record {
  answers = passed_answers old new faults reads.answers;
  blocks = λ f s. block_at-fused new _ _ f s ∙ reads.blocks f s ∙ sym (block_at-fused old _ _ f s);
  content = λ _. reads.content refl ∙ sym (block_at-fused old _ _ e r);
}
passed_reads old new true faults e r answer into there done reads = absurd (cc)
passed_reads old new gone faults e r false into there done reads = absurd (cc)

-- a read of a part that it passes
pub passed_reads_part : (old new : DiskState) (gone : Bool) (faults e r first : ℕ) (answer : Bool) (into : List ℕ)
    → gone ≡ false → IsTrue answer → ReadsPart old new e r first answer into
    → ReadsPart (fused old gone faults) (fused new gone faults) e r first answer into
passed_reads_part old new gone faults e r first answer into there done reads = record {
  block = passed_reads old new gone faults e r answer (block_at (fused old gone faults) e r) there done (record {
    answers = reads.block.answers;
    blocks = reads.block.blocks;
    content = λ _. block_at-fused old gone faults e r;
  });
  part = λ _.
      reads.part done
      ∙ ap (λ block. part_at block first (length into)) (sym (block_at-fused old gone faults e r));
}

-- a write that the fuse passes
pub passed_writes : (old new : DiskState) (gone : Bool) (faults e r : ℕ) (answer : Bool) (from : List ℕ)
    → gone ≡ false → IsTrue answer
    → Writes old new e r answer from → Writes (fused old gone faults) (fused new gone faults) e r answer from
passed_writes old new false faults e r true from there done writes = record {
  answers = passed_answers old new faults writes.answers;
  written = λ _. block_at-fused new _ _ e r ∙ writes.written refl;
  same_extent = λ s ne. block_at-fused new _ _ e s ∙ writes.same_extent s ne ∙ sym (block_at-fused old _ _ e s);
  other_extents = λ f s ne. block_at-fused new _ _ f s ∙ writes.other_extents f s ne ∙ sym (block_at-fused old _ _ f s);
}
passed_writes old new true faults e r answer from there done writes = absurd (cc)
passed_writes old new gone faults e r false from there done writes = absurd (cc)

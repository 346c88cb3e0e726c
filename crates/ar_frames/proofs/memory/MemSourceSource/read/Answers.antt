use Rattle.std.proofs.Common.{◌≡◌, ◌+◌, ◌-◌, ℕ, List, take, drop, refl, sym, ap, ◌∙◌, arith}
use Rattle.ar_frames.proofs.Streams.{mem_reads}
use Rattle.ar_frames.proofs.memory.MemSourceSource.read.Goals as goal

pub returns-clause-read : goal.returns-clause-read
returns-clause-read c =
    let at = c.self.inside.at in
    let n = c.min-next.result in
    let same : (at + n) - at ≡ n = omega arith in
    record {
      given = sym c.self.view_is ∙ mem_reads at n c.self.inside.bytes.items c.copy_from_slice.new.self _
          (c.copy_from_slice.ensures.after ∙ ap (λ (l : List ℕ). take ((at + n) - at) (drop at l)) c.deref.ensures.value
          ∙ ap (λ m. take m (drop at c.self.inside.bytes.items)) same)
          (omega arith);
      faults = refl;
    }

-- The description of one command: its head, and as much of the usage map as the block has bytes.
use Rattle.std.proofs.Common.{◌≡◌, ◌∙◌, ℕ, ◌+◌, List, [], ◌∷◌, ◌++◌, Some, suc, sym, ap, append-nil, arith, take}
use Rattle.ar_target.specs.declared.operations.Operation.{Operation}
use Rattle.ar_target.specs.Operations.{cdb_len, one_command, usage_of}

-- four bytes in front are taken with more after them
taken_4 : (a b c d n : ℕ) (l : List ℕ) → take (4 + n) (a ∷ b ∷ c ∷ d ∷ l) ≡ a ∷ b ∷ c ∷ d ∷ take n l
taken_4 a b c d n l =
    let e : 4 + n ≡ suc (suc (suc (suc n))) = omega arith in ap (λ (k : ℕ). take k (a ∷ b ∷ c ∷ d ∷ l)) e

-- the head, and the map that was copied
pub one_taken : (operation : Operation) (n len : ℕ) (usage copied : List ℕ) → n ≡ len → len ≡ cdb_len operation.code
    → copied ≡ usage → usage_of operation ≡ Some usage
    → take (4 + n) (0x00 ∷ 0x03 ∷ 0x00 ∷ len ∷ (copied ++ [])) ≡ one_command operation (usage_of operation)
one_taken operation n len usage copied count size same found =
    taken_4 0x00 0x03 0x00 len n (copied ++ [])
    ∙ ap (λ (l : List ℕ). 0x00 ∷ 0x03 ∷ 0x00 ∷ len ∷ take n l) (append-nil copied ∙ same)
    ∙ ap (λ (k : ℕ). 0x00 ∷ 0x03 ∷ 0x00 ∷ len ∷ take k usage) (count ∙ size)
    ∙ ap (λ (k : ℕ). 0x00 ∷ 0x03 ∷ 0x00 ∷ k ∷ take (cdb_len operation.code) usage) size
    ∙ sym (ap (one_command operation) found)

-- The numbers of a range, one after another.
use Rattle.std.proofs.Common.{◌≡◌, ℕ, suc, ◌+◌, ◌-◌, ◌<◌, ◌∷◌, ap, arith}
use Rattle.std.specs.List.{range_with_len}

-- the first of the numbers from a to before b, and the others
pub range_next : (a b : ℕ) → a < b → range_with_len a (b - a) ≡ a ∷ range_with_len (a + 1) (b - (a + 1))
range_next a b less =
    let e : b - a ≡ suc (b - (a + 1)) = omega arith in
    ap (range_with_len a) e

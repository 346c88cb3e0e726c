use Rattle.std.proofs.Common.{◌≡◌, ◌+◌, ◌-◌, ◌<◌, ◌≤◌, ◌∙◌, ℕ, Bool, true, false, List, length, get_or, take, drop, ltb}
use Rattle.std.proofs.Common.{refl, sym, ap, get_or-take, get_or-drop, length-take, length-drop, arith, rules}
use Rattle.std.proofs.lemmas.Bool.{ltb-true, ltb-false}
use Rattle.ar_answers.proofs.runs.far_len.Goals as goal

-- the bytes at the front and those after them
joined : (bytes : List ℕ) (byte front more room : ℕ) → ((k : ℕ) → k < front → get_or bytes k 0 ≡ byte) → more ≤ room
    → ((k : ℕ) → k < more → get_or (take room (drop front bytes)) k 0 ≡ byte) → (k : ℕ) → k < front + more
    → get_or bytes k 0 ≡ byte
joined bytes byte front more room before few behind k within = at (ltb k front) refl
  where
    at : (b : Bool) → ltb k front ≡ b → get_or bytes k 0 ≡ byte
    at true is = before k (ltb-true _ _ is)
    at false is =
        let past : front ≤ k = ltb-false _ _ is in
        let here : k - front < more = omega arith in
        let place : front + (k - front) ≡ k = omega arith in
        ap (λ i. get_or bytes i 0) (sym place) ∙ sym (get_or-drop front bytes (k - front) 0)
        ∙ sym (get_or-take room (drop front bytes) (k - front) 0 (omega arith)) ∙ behind (k - front) here

pub loop-equal-preserved : goal.loop-equal-preserved
loop-equal-preserved c =
    let bytes = c.args.bytes.now in
    let front = c.loop-equal.equal in
    let room : front + 256 - front ≡ 256 = omega arith in
    let fits : front + 256 ≤ length bytes = omega (arith, c.loop-equal-test.true) in (
      fits,
      joined bytes c.args.byte front 256 (front + 256 - front) c.loop-equal.invariant.1 (omega arith)
          (λ k within. c.is_all_of.ensures.0 (search rules) k
          (omega (arith, length-take (front + 256 - front) (drop front bytes), length-drop front bytes))),
    )

pub returns-clause-equal : goal.returns-clause-equal
returns-clause-equal c =
    let bytes = c.args.bytes.now in
    let front = c.loop-equal.equal in
    joined bytes c.args.byte front c.count_of.result (length bytes - front) c.loop-equal.invariant.1
    (omega (
      arith,
      c.count_of.ensures.few,
      length-take (length bytes - front) (drop front bytes),
      length-drop front bytes,
    )) c.count_of.ensures.equal

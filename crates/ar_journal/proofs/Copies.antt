-- Two batches, record by record.
use Rattle.std.proofs.Common.{◌≡◌, ℕ, ◌+◌, ◌<◌, List, [], ◌∷◌, ◌++◌, length, get_or, take, Vec, sym, ◌∙◌, ap}
use Rattle.std.specs.declared.alloc.Global.{Global}
use Rattle.std.proofs.lemmas.List.{map-append, take_more}
use Rattle.ar_log.specs.Codec.{items_of}

items_more : (vs : List (Vec ℕ Global)) (i : ℕ) (v : Vec ℕ Global) → i < length vs → v ≡ get_or vs i v
    → items_of (take (i + 1) vs) ≡ items_of (take i vs) ++ v.items ∷ []
items_more vs i v lt is =
    ap (λ (l : List (Vec ℕ Global)). items_of l)
    (take_more vs i v lt ∙ ap (λ (w : Vec ℕ Global). take i vs ++ w ∷ []) (sym is))
    ∙ map-append (λ (w : Vec ℕ Global). w.items) (take i vs) (v ∷ [])

pub same_more : (vs ws : List (Vec ℕ Global)) (i : ℕ) (v w : Vec ℕ Global) → i < length vs → i < length ws
    → v ≡ get_or vs i v → w ≡ get_or ws i w
    → items_of (take i vs) ≡ items_of (take i ws) → v.items ≡ w.items
    → items_of (take (i + 1) vs) ≡ items_of (take (i + 1) ws)
same_more vs ws i v w in_vs in_ws v_is w_is so_far same =
    items_more vs i v in_vs v_is
    ∙ ap (λ (l : List (List ℕ)). l ++ v.items ∷ []) so_far
    ∙ ap (λ (x : List ℕ). items_of (take i ws) ++ x ∷ []) same
    ∙ sym (items_more ws i w in_ws w_is)

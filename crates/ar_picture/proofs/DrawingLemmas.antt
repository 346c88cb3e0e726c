-- The text of an SVG, piece by piece.
use Rattle.std.proofs.Common.{◌≡◌, ◌∙◌, ℕ, ◌+◌, List, [], ◌∷◌, ◌++◌, Option, Result, OnOk, length, suc, refl, sym, ap}
use Rattle.std.proofs.Common.{add-zero, append_assoc, append-nil, arith}
use Rattle.std.specs.Io.KnownBytes.{Appends}
use Rattle.std.specs.List.{flat_map, range_with_len}
use Rattle.ar_picture.specs.declared.picture.Unit.{Unit as PictureUnit}
use Rattle.ar_picture.specs.Drawings.{unit_svg, units_svg}
use Rattle.ar_picture.proofs.Appending.{appends_as, appends_then, ends_with}
use Rattle.ar_picture.proofs.MapLemmas.{columns-more}

-- a text is appended, as a record, so that lemmas find the writers and the text
pub record Adds (old new : Option (List ℕ)) (text : List ℕ) : Type 0 where
  pub it : Appends old new text

-- a text that is known by another name
pub adds_as : {old new : Option (List ℕ)} {xs ys : List ℕ} → xs ≡ ys → Appends old new xs → Adds old new ys
adds_as {old} {new} {xs} {ys} same added = record { it = appends_as old new xs ys same added }

-- a text, and then another
pub adds_then : {old mid new : Option (List ℕ)} {xs ys : List ℕ} → Adds old mid xs → Adds mid new ys
    → Adds old new (xs ++ ys)
adds_then {old} {mid} {new} {xs} {ys} first then = record { it = appends_then old mid new xs ys first.it then.it }

-- a text, and then the last one, where that could be written
pub adds_last : {T E : Type 0} {old mid : Option (List ℕ)} {xs : List ℕ} (r : Result T E) (new : Option (List ℕ))
    (ys : List ℕ)
    → Adds old mid xs → OnOk r (Appends mid new ys) → OnOk r (Appends old new (xs ++ ys))
adds_last {old} {mid} {xs} r new ys first last = ends_with r old mid new xs ys (xs ++ ys) refl first.it last

-- the texts of the numbers below n, and then that of n
pub appends_next : (f : ℕ → List ℕ) (old mid new : Option (List ℕ)) (n : ℕ)
    → Appends old mid (flat_map f (range_with_len 0 n))
    → Appends mid new (f n) → Appends old new (flat_map f (range_with_len 0 (n + 1)))
appends_next f old mid new n first then =
    let before = flat_map f (range_with_len 0 n) in
    appends_as old new (before ++ f n) (flat_map f (range_with_len 0 (n + 1))) (columns-more f [] n)
    (appends_then old mid new before (f n) first then)

-- a line for one unit more
pub units-more : (x line : ℕ) (units : List PictureUnit) (unit : PictureUnit)
    → units_svg x line units ++ unit_svg x (line + length units) unit ≡ units_svg x line (units ++ unit ∷ [])
units-more x line [] unit =
    ap (λ n. unit_svg x n unit) (add-zero line) ∙ sym (append-nil (unit_svg x line unit))
units-more x line (first ∷ units) unit =
    let next : line + suc (length units) ≡ line + 1 + length units = omega arith in
    let head = unit_svg x line first in
    append_assoc head (units_svg x (line + 1) units) (unit_svg x (line + suc (length units)) unit)
    ∙ ap (λ n. head ++ (units_svg x (line + 1) units ++ unit_svg x n unit)) next
    ∙ ap (λ (text : List ℕ). head ++ text) (units-more x (line + 1) units unit)

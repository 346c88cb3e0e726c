-- What a word is answered with, from what the words after it are read as.
use Rattle.std.proofs.Common.{◌≡◌, ◌∙◌, ◌==◌, ℕ, true, ap, sym, subst, List, [], ◌∷◌, length, Option, Some, None}
use Rattle.std.proofs.Common.{Result, refl, rules, tests}
use Rattle.std.specs.Option.{ok_or}
use Rattle.ar_language.specs.declared.fault.FaultKind.{FaultKind}
use Rattle.ar_language.specs.declared.fault.FaultKind.TheVariants.{BadArgument}
use Rattle.ar_language.specs.declared.order.Order.{Order}
use Rattle.ar_language.specs.Forms.{Words, Gives, ParsesAs, ReadsOrder}

-- a name that is this text is read as it
pub named : (Reads : List ℕ → Words → Result Order FaultKind
    → Type 0) (name text : List ℕ) (words : Words) (r : Result Order FaultKind)
    → name ≡ text → Reads text words r → Reads name words r
named Reads name text words r same reads =
    let P : List ℕ → Type 0 = λ n. Reads n words r in subst P (sym same) reads

given : (Form : Type 0) (Asked : Order → Type 0) (o : Option Order) → Gives Form Asked o
    → ParsesAs Form Asked (ok_or o BadArgument)
given Form Asked None h = (refl, h)
given Form Asked (Some order) h = h

-- where no order is given the arguments are bad
pub answered : (Form : Type 0) (Asked : Order → Type 0) (o p : Option Order) (r : Result Order FaultKind)
    → Gives Form Asked o → p ≡ o → r ≡ ok_or p BadArgument → ParsesAs Form Asked r
answered Form Asked o p r gives same value =
    let f : Option Order → Result Order FaultKind = λ x. ok_or x BadArgument in
    let P : Result Order FaultKind → Type 0 = λ x. ParsesAs Form Asked x in
    subst P (sym (value ∙ ap f same)) (given Form Asked o gives)

-- words of a form that says the same, and orders that are asked for so too
pub gives_as : (Form Form' : Type 0) (Asked Asked' : Order → Type 0) (o : Option Order)
    → (Form → Form') → (Form' → Form) → ((order : Order) → Asked order → Asked' order) → Gives Form Asked o
    → Gives Form' Asked' o
gives_as Form Form' Asked Asked' None there back as_well h = λ form. h (back form)
gives_as Form Form' Asked Asked' (Some order) there back as_well h = (there h.0, as_well order h.1)

-- an order of one word
pub alone_as : (name : List ℕ) (words : Words) (r : Result Order FaultKind) → (length words == 0) ≡ true
    → ReadsOrder name [] r → ReadsOrder name words r
alone_as name [] r none reads = reads
alone_as name (word ∷ words) r none reads = absurd (search (rules, tests))

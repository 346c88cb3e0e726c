-- What a shift costs: each row is read and written once.
use Rattle.std.proofs.Common.{◌≡◌, ◌≢◌, ℕ, zero, suc, true, List, [], ◌∷◌, ◌++◌, map, refl, sym, ap, subst, ◌∙◌}
use Rattle.std.proofs.lemmas.List.{append-nil, append_assoc, map-append}
use Rattle.ar_disks.specs.Geometry.{rows_of}
use Rattle.ar_disks.specs.declared.address.Place.{Place}
use Rattle.ar_extents.specs.declared.log.AccessKind.{AccessKind}
use Rattle.ar_extents.specs.declared.log.AccessKind.TheVariants.{Read, Write}
use Rattle.ar_extents.specs.declared.log.RowAccess.{RowAccess}
use Rattle.ar_extents.specs.Set.{SetState}
use Rattle.ar_extents.specs.Plans.{Attempt, AttemptsAll, all_done, one_done, access_of}
use Rattle.ar_extents.proofs.Plans.{one_made, answered_used}
use Rattle.ar_book.specs.declared.class.Class.{Class}
use Rattle.ar_book.specs.declared.class.Class.TheVariants.{Free, Mirrored, Parity}
use Rattle.ar_store.specs.Store.{StoreState, class_in}
use Rattle.ar_store.specs.Plans.{MakesAccesses}
use Rattle.ar_store.proofs.SqueezeCosts.{made_none}
use Rattle.ar_balance.specs.Copies.{row_copy, rows_copy, row_copies_kinds, IsExtentCopied, IsFilled}
use Rattle.ar_balance.specs.Balance.{IsExtentShifted, switched}

-- the accesses of attempts that all succeeded
all_made : (ts : List Attempt) (a b : SetState) → AttemptsAll ts true a b
    → b.log ≡ a.log ++ map (λ (t : Attempt). access_of t true) ts
all_made [] a _ (all_done _) = sym (append-nil a.log)
all_made (t ∷ rest) a b (one_done _ _ _ _ m _ tried more) =
    let made = map (λ (u : Attempt). access_of u true) rest in
    let one = one_made t true a m (answered_used t a m tried) tried in
    all_made rest m b more ∙ ap (λ l. l ++ made) one.log ∙ append_assoc a.log (access_of t true ∷ []) made

rows_are : (from to : Place) (n : ℕ)
    → map (λ (x : RowAccess). x.kind) (map (λ (t : Attempt). access_of t true) (rows_copy from to n))
    ≡ row_copies_kinds n
rows_are from to zero = refl
rows_are from to (suc n) =
    let done : Attempt → RowAccess = λ t. access_of t true in
    let kind : RowAccess → AccessKind = λ x. x.kind in
    ap (λ l. map kind l) (map-append done (rows_copy from to n) (row_copy from to n))
    ∙ map-append kind (map done (rows_copy from to n)) (map done (row_copy from to n))
    ∙ ap (λ l. l ++ Read ∷ Write ∷ []) (rows_are from to n)

copy_made : (from to : Place) (a b : SetState) → IsExtentCopied a b from to
    → MakesAccesses (row_copies_kinds (rows_of a.geometry)) a b
copy_made from to a b copied = record {
  made = map (λ (t : Attempt). access_of t true) (rows_copy from to (rows_of a.geometry));
  log = all_made (rows_copy from to (rows_of a.geometry)) a b copied.made;
  kinds_are = rows_are from to (rows_of a.geometry);
}

fill_made : (c : Class) (from to : Place) (a b : SetState) → c ≢ Free → IsFilled c a b from to
    → MakesAccesses (row_copies_kinds (rows_of a.geometry)) a b
fill_made Free from to a b used filled = absurd (used refl)
fill_made Mirrored from to a b used filled = copy_made from to a b filled
fill_made Parity from to a b used filled = copy_made from to a b filled

-- that an extent is assigned and another isn't is no access
switched_made : (kinds : List AccessKind) (a b : SetState) (from to : Place) (new : StoreState)
    → new.disks ≡ switched b from to
    → MakesAccesses kinds a b → MakesAccesses kinds a new.disks
switched_made kinds a b from to new is made = record {
  made = made.made;
  log = ap (λ (s : SetState). s.log) is ∙ made.log;
  kinds_are = made.kinds_are;
}

pub shift_made : (old new : StoreState) (group on off : ℕ) → IsExtentShifted old new group on off
    → class_in old group ≢ Free
    → MakesAccesses (row_copies_kinds (rows_of old.disks.geometry)) old.disks new.disks
shift_made old new group on off shifts used =
    switched_made (row_copies_kinds (rows_of old.disks.geometry)) old.disks shifts.copied shifts.from shifts.to new
    (ap (λ (s : StoreState). s.disks) shifts.tables)
    (fill_made (class_in old group) shifts.from shifts.to old.disks shifts.copied used shifts.filled)

pub free_shift_made : (old new : StoreState) (group on off : ℕ) → IsExtentShifted old new group on off
    → class_in old group ≡ Free
    → MakesAccesses [] old.disks new.disks
free_shift_made old new group on off shifts is =
    let P : Class → Type 0 = λ c. IsFilled c old.disks shifts.copied shifts.from shifts.to in
    let same : shifts.copied ≡ old.disks = subst P is shifts.filled in
    switched_made [] old.disks shifts.copied shifts.from shifts.to new (ap (λ (s : StoreState). s.disks) shifts.tables)
    (subst (λ (s : SetState). MakesAccesses [] old.disks s) (sym same) (made_none old.disks))

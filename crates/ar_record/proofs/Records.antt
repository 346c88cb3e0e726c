-- What is read is encoded so, and what is encoded so is read.
use Rattle.std.proofs.Common.{◌≡◌, ℕ, zero, suc, ◌+◌, ◌^◌, ◌<◌, ◌≤◌, Bool, true, false, cond, eqb, List, [], ◌∷◌, ◌++◌}
use Rattle.std.proofs.Common.{length, Option, Some, None, Result, Ok, Err, refl, sym, ap, subst, ◌∙◌, append_assoc}
use Rattle.std.proofs.Common.{arith}
use Rattle.std.specs.Prelude.{IfOk, All}
use Rattle.std.specs.List.{AllByRecursion}
use Rattle.std.proofs.lemmas.List.Elements.{All-from_recursion}
use Rattle.std.specs.Int.{w32, w64, to_be_bytes}
use Rattle.std.proofs.lemmas.Bool.{eqb-true, ne_eqb}
use Rattle.std.proofs.lemmas.List.{append-nil, nil_from_length}
use Rattle.ar_record.specs.declared.record.Record.{Record as Stored}
use Rattle.ar_record.specs.declared.decoding.DecodeError.{DecodeError}
use Rattle.ar_record.specs.Record.{RecordData, Make, Grow, Remove, Command, Unmap, AddDisk, data_of, all_data}
use Rattle.ar_record.specs.Record.{IsEncodable, AreEncodable, HasUnitNumbers}
use Rattle.ar_record.specs.Encoding.{encoding_of, encodings_of}
use Rattle.ar_record.specs.Reading.{◌>>=◌, ReadsAs, bytes_at, number_at, named_unit_at, sized_at, command_at}
use Rattle.ar_record.specs.Reading.{discard_at, record_at, decoded, with_record, all_decoded}
use Rattle.ar_record.proofs.Fields.{IsBytes, IsBytes-rest, bind_some, test_some, some_is, Takes, Takes-then, Takes-byte}
use Rattle.ar_record.proofs.Fields.{number_takes, number_again, wide_number_takes, wide_number_again, bytes_take}
use Rattle.ar_record.proofs.Fields.{bytes_again, unit_takes, unit_again, sized_takes, sized_again}

abbrev no_record : Option (RecordData × List ℕ)
no_record = None

command_takes : (bytes : List ℕ) (x : RecordData × List ℕ) → IsBytes bytes → command_at bytes ≡ Some x
    → Takes (3 ∷ bytes) (encoding_of x.0) x.1 × IsEncodable x.0
unfolding command_at
command_takes bytes x fits e =
    let a = bind_some (named_unit_at bytes)
    (λ unit. bytes_at 16 unit.1 >>= λ cdb. number_at w32 cdb.1 >>= λ count. bytes_at count.0 count.1 >>= λ payload.
    Some (Command unit.0.0 unit.0.1 cdb.0 payload.0, payload.1)) x e in
    let b = bind_some (bytes_at 16 a.0.1)
    (λ cdb. number_at w32 cdb.1 >>= λ count. bytes_at count.0 count.1 >>= λ payload. Some
    (Command a.0.0.0 a.0.0.1 cdb.0 payload.0, payload.1)) x a.2 in
    let c = bind_some (number_at w32 b.0.1)
    (λ count. bytes_at count.0 count.1 >>= λ payload. Some (Command a.0.0.0 a.0.0.1 b.0.0 payload.0, payload.1)) x
    b.2 in
    let d = bind_some (bytes_at c.0.0 c.0.1) (λ payload. Some (Command a.0.0.0 a.0.0.1 b.0.0 payload.0, payload.1)) x
    c.2 in
    let t0 = unit_takes bytes a.0 fits a.1 in
    let t1 = bytes_take 16 a.0.1 b.0 t0.0.rest_fits b.1 in
    let t2 = number_takes b.0.1 c.0 t1.0.rest_fits c.1 in
    let t3 = bytes_take c.0.0 c.0.1 d.0 t2.0.rest_fits d.1 in
    let e23 = Takes-then b.0.1 (to_be_bytes w32 c.0.0) c.0.1 d.0.0 d.0.1 t2.0 t3.0 in
    let e23' = subst (λ (k : ℕ). Takes b.0.1 (to_be_bytes w32 k ++ d.0.0) d.0.1) (sym t3.1) e23 in
    let e13 = Takes-then a.0.1 b.0.0 b.0.1 (to_be_bytes w32 (length d.0.0) ++ d.0.0) d.0.1 t1.0 e23' in
    let e03 =
    Takes-then bytes (a.0.0.0 ∷ a.0.0.1 ∷ []) a.0.1 (b.0.0 ++ (to_be_bytes w32 (length d.0.0) ++ d.0.0)) d.0.1 t0.0
    e13 in
    let small : length d.0.0 < 2 ^ 32 = omega (arith, t3.1, t2.1) in
    subst (λ (y : RecordData × List ℕ). Takes (3 ∷ bytes) (encoding_of y.0) y.1 × IsEncodable y.0)
    (some_is (Command a.0.0.0 a.0.0.1 b.0.0 d.0.0, d.0.1) x d.2)
    (Takes-byte 3 bytes _ d.0.1 e03, (t0.1, record { cdb_len = t1.1; payload_fits = small }))

command_again : (host lun : ℕ) (cdb payload rest : List ℕ) → IsEncodable (Command host lun cdb payload)
    → command_at (host ∷ lun ∷ (cdb ++ (to_be_bytes w32 (length payload) ++ (payload ++ rest)))) ≡ Some
    (Command host lun cdb payload, rest)
unfolding command_at
command_again host lun cdb payload rest fits =
    rw (
      unit_again host lun (cdb ++ (to_be_bytes w32 (length payload) ++ (payload ++ rest))) fits.0,
      bytes_again 16 cdb (to_be_bytes w32 (length payload) ++ (payload ++ rest)) fits.1.cdb_len,
      number_again (length payload) (payload ++ rest) fits.1.payload_fits,
      bytes_again (length payload) payload rest refl,
    ) refl

discard_takes : (bytes : List ℕ) (x : RecordData × List ℕ) → IsBytes bytes → discard_at bytes ≡ Some x
    → Takes (5 ∷ bytes) (encoding_of x.0) x.1 × IsEncodable x.0
unfolding discard_at
discard_takes bytes x fits e =
    let a = bind_some (named_unit_at bytes)
    (λ unit. number_at w64 unit.1 >>= λ lba. number_at w32 lba.1 >>= λ count. Some
    (Unmap unit.0.0 unit.0.1 lba.0 count.0, count.1)) x e in
    let b = bind_some (number_at w64 a.0.1)
    (λ lba. number_at w32 lba.1 >>= λ count. Some (Unmap a.0.0.0 a.0.0.1 lba.0 count.0, count.1)) x a.2 in
    let c = bind_some (number_at w32 b.0.1) (λ count. Some (Unmap a.0.0.0 a.0.0.1 b.0.0 count.0, count.1)) x b.2 in
    let t0 = unit_takes bytes a.0 fits a.1 in
    let t1 = wide_number_takes a.0.1 b.0 t0.0.rest_fits b.1 in
    let t2 = number_takes b.0.1 c.0 t1.0.rest_fits c.1 in
    let e12 = Takes-then a.0.1 (to_be_bytes w64 b.0.0) b.0.1 (to_be_bytes w32 c.0.0) c.0.1 t1.0 t2.0 in
    let e02 =
    Takes-then bytes (a.0.0.0 ∷ a.0.0.1 ∷ []) a.0.1 (to_be_bytes w64 b.0.0 ++ to_be_bytes w32 c.0.0) c.0.1 t0.0
    e12 in
    subst (λ (y : RecordData × List ℕ). Takes (5 ∷ bytes) (encoding_of y.0) y.1 × IsEncodable y.0)
    (some_is (Unmap a.0.0.0 a.0.0.1 b.0.0 c.0.0, c.0.1) x c.2)
    (Takes-byte 5 bytes _ c.0.1 e02, (t0.1, record { lba_fits = t1.1; count_fits = t2.1 }))

discard_again : (host lun lba count : ℕ) (rest : List ℕ) → IsEncodable (Unmap host lun lba count)
    → discard_at (host ∷ lun ∷ (to_be_bytes w64 lba ++ (to_be_bytes w32 count ++ rest))) ≡ Some
    (Unmap host lun lba count, rest)
unfolding discard_at
discard_again host lun lba count rest fits =
    rw (
      unit_again host lun (to_be_bytes w64 lba ++ (to_be_bytes w32 count ++ rest)) fits.0,
      wide_number_again lba (to_be_bytes w32 count ++ rest) fits.1.lba_fits,
      number_again count rest fits.1.count_fits,
    ) refl

unknown : (kind : ℕ) (bytes : List ℕ) → 6 ≤ kind → record_at (kind ∷ bytes) ≡ None
unfolding record_at
unknown kind bytes le =
    rw (
      ne_eqb kind 0 (λ e. omega (arith, e, le)),
      ne_eqb kind 1 (λ e. omega (arith, e, le)),
      ne_eqb kind 2 (λ e. omega (arith, e, le)),
      ne_eqb kind 3 (λ e. omega (arith, e, le)),
      ne_eqb kind 4 (λ e. omega (arith, e, le)),
      ne_eqb kind 5 (λ e. omega (arith, e, le)),
    ) refl

none_is_none : (x : RecordData × List ℕ) → no_record ≡ Some x → ⊥
none_is_none x e = cc

record_takes : (bytes : List ℕ) (x : RecordData × List ℕ) → IsBytes bytes → record_at bytes ≡ Some x
    → Takes bytes (encoding_of x.0) x.1 × IsEncodable x.0
unfolding record_at
record_takes [] x fits e = absurd cc
record_takes (zero ∷ bytes) x fits e =
    let b = bind_some (sized_at bytes) (λ unit. Some (Make unit.0.0.0 unit.0.0.1 unit.0.1, unit.1)) x e in
    let t = sized_takes bytes b.0 (IsBytes-rest 0 bytes fits) b.1 in
    subst (λ (y : RecordData × List ℕ). Takes (0 ∷ bytes) (encoding_of y.0) y.1 × IsEncodable y.0)
    (some_is (Make b.0.0.0.0 b.0.0.0.1 b.0.0.1, b.0.1) x b.2) (Takes-byte 0 bytes _ b.0.1 t.0, t.1)
record_takes (suc zero ∷ bytes) x fits e =
    let b = bind_some (sized_at bytes) (λ unit. Some (Grow unit.0.0.0 unit.0.0.1 unit.0.1, unit.1)) x e in
    let t = sized_takes bytes b.0 (IsBytes-rest 1 bytes fits) b.1 in
    subst (λ (y : RecordData × List ℕ). Takes (1 ∷ bytes) (encoding_of y.0) y.1 × IsEncodable y.0)
    (some_is (Grow b.0.0.0.0 b.0.0.0.1 b.0.0.1, b.0.1) x b.2) (Takes-byte 1 bytes _ b.0.1 t.0, t.1)
record_takes (suc (suc zero) ∷ bytes) x fits e =
    let b = bind_some (named_unit_at bytes) (λ unit. Some (Remove unit.0.0 unit.0.1, unit.1)) x e in
    let t = unit_takes bytes b.0 (IsBytes-rest 2 bytes fits) b.1 in
    subst (λ (y : RecordData × List ℕ). Takes (2 ∷ bytes) (encoding_of y.0) y.1 × IsEncodable y.0)
    (some_is (Remove b.0.0.0 b.0.0.1, b.0.1) x b.2) (Takes-byte 2 bytes _ b.0.1 t.0, t.1)
record_takes (suc (suc (suc zero)) ∷ bytes) x fits e = command_takes bytes x (IsBytes-rest 3 bytes fits) e
record_takes (suc (suc (suc (suc zero))) ∷ bytes) x fits e =
    let b = bind_some (number_at w32 bytes) (λ extents. Some (AddDisk extents.0, extents.1)) x e in
    let t = number_takes bytes b.0 (IsBytes-rest 4 bytes fits) b.1 in
    subst (λ (y : RecordData × List ℕ). Takes (4 ∷ bytes) (encoding_of y.0) y.1 × IsEncodable y.0)
    (some_is (AddDisk b.0.0, b.0.1) x b.2) (Takes-byte 4 bytes _ b.0.1 t.0, t.1)
record_takes (suc (suc (suc (suc (suc zero)))) ∷ bytes) x fits e = discard_takes bytes x (IsBytes-rest 5 bytes fits) e
record_takes (suc (suc (suc (suc (suc (suc k))))) ∷ bytes) x fits e =
    absurd (none_is_none x (sym (unknown (suc (suc (suc (suc (suc (suc k)))))) bytes (omega arith)) ∙ e))

record_again : (r : RecordData) (rest : List ℕ) → IsEncodable r → record_at (encoding_of r ++ rest) ≡ Some (r, rest)
unfolding record_at
record_again (Make host lun sectors) rest fits = rw (sized_again host lun sectors rest fits.0 fits.1) refl
record_again (Grow host lun sectors) rest fits = rw (sized_again host lun sectors rest fits.0 fits.1) refl
record_again (Remove host lun) rest fits = rw (unit_again host lun rest fits) refl
record_again (Command host lun cdb payload) rest fits =
    let regrouped : (cdb ++ (to_be_bytes w32 (length payload) ++ payload)) ++ rest ≡ cdb
    ++ (to_be_bytes w32 (length payload) ++ (payload ++ rest)) =
    append_assoc cdb (to_be_bytes w32 (length payload) ++ payload) rest
    ∙ ap (λ (w : List ℕ). cdb ++ w) (append_assoc (to_be_bytes w32 (length payload)) payload rest) in
    ap (λ (w : List ℕ). command_at (host ∷ lun ∷ w)) regrouped ∙ command_again host lun cdb payload rest fits
record_again (Unmap host lun lba count) rest fits =
    let regrouped : (to_be_bytes w64 lba ++ to_be_bytes w32 count) ++ rest ≡ to_be_bytes w64 lba
    ++ (to_be_bytes w32 count ++ rest) = append_assoc (to_be_bytes w64 lba) (to_be_bytes w32 count) rest in
    ap (λ (w : List ℕ). discard_at (host ∷ lun ∷ w)) regrouped ∙ discard_again host lun lba count rest fits
record_again (AddDisk extents) rest fits = rw (number_again extents rest fits) refl

pub decoded_takes : (bytes : List ℕ) (r : RecordData) → IsBytes bytes → decoded bytes ≡ Some r → IsEncodable r
    × (bytes ≡ encoding_of r)
unfolding decoded
decoded_takes bytes r fits e =
    let a = bind_some (record_at bytes) (λ found. cond (eqb (length found.1) 0) (Some found.0) None) r e in
    let g = test_some (eqb (length a.0.1) 0) a.0.0 r a.2 in
    let t = record_takes bytes a.0 fits a.1 in
    let nothing : a.0.1 ≡ [] = nil_from_length a.0.1 (eqb-true _ _ g.0) in
    let whole : bytes ≡ encoding_of a.0.0 = t.0.parts ∙ ap (λ (w : List ℕ). encoding_of a.0.0 ++ w) nothing
    ∙ append-nil (encoding_of a.0.0) in
    subst (λ (y : RecordData). IsEncodable y × (bytes ≡ encoding_of y)) g.1 (t.1, whole)

pub decoded_again : (r : RecordData) → IsEncodable r → decoded (encoding_of r) ≡ Some r
unfolding decoded
decoded_again r fits =
    let one : record_at (encoding_of r) ≡ Some (r, []) = ap record_at (sym (append-nil (encoding_of r)))
    ∙ record_again r [] fits in
    rw one refl

pub is_found : (bytes : List ℕ) (r : Result Stored DecodeError) → IsBytes bytes → ReadsAs data_of r (decoded bytes)
    → IfOk r (λ found. IsEncodable (data_of found) × (bytes ≡ encoding_of (data_of found)))
is_found bytes (Ok found) fits given = decoded_takes bytes (data_of found) fits given
is_found bytes (Err e) fits given = tt

-- the records of items that are put together
with_record-append : (r : Option RecordData) (records more : List RecordData)
    → with_record r (records ++ more) ≡ with_record r records ++ more
with_record-append None records more = refl
with_record-append (Some r) records more = refl

pub all_decoded-append : (items more : List (List ℕ)) → all_decoded (items ++ more) ≡ all_decoded items
    ++ all_decoded more
all_decoded-append [] more = refl
all_decoded-append (item ∷ items) more =
    ap (λ (l : List RecordData). with_record (decoded item) l) (all_decoded-append items more)
    ∙ with_record-append (decoded item) (all_decoded items) (all_decoded more)

pub all_again : (records : List RecordData) → AreEncodable records → all_decoded (encodings_of records) ≡ records
all_again [] fit = refl
all_again (r ∷ records) fit =
    ap (λ (found : Option RecordData). with_record found (all_decoded (encodings_of records))) (decoded_again r fit.0)
    ∙ ap (λ (l : List RecordData). r ∷ l) (all_again records fit.1)

-- each record fits at its place
each_fits : (records : List Stored) → AreEncodable (all_data records)
    → AllByRecursion (λ entry. IsEncodable (data_of entry)) records
each_fits [] fit = tt
each_fits (r ∷ records) fit = (fit.0, each_fits records fit.1)

pub record_fits : (records : List Stored) → AreEncodable (all_data records)
    → All (λ entry. IsEncodable (data_of entry)) records
record_fits records fit = All-from_recursion (λ entry. IsEncodable (data_of entry)) records (each_fits records fit)

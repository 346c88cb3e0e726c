-- A head that is read is the one that was encoded, and what is encoded is read.
use Rattle.std.proofs.Common.{◌≡◌, ◌<◌, ◌≤◌, ◌^◌, ◌+◌, ℕ, suc, Bool, true, false, cond, ltb, eqb, List, [], ◌∷◌, ◌++◌}
use Rattle.std.proofs.Common.{length, take, drop, Option, Some, None, Result, Ok, Err, refl, sym, ap, subst, ◌∙◌}
use Rattle.std.proofs.Common.{arith, inl, inr}
use Rattle.std.specs.Prelude.{IfOk}
use Rattle.std.specs.Int.{Width, w16, w64, byte_len, from_be_bytes, to_be_bytes}
use Rattle.std.proofs.lemmas.Bool.{cases_lt, ltb-false, le-ltb, eqb-true, eq-eqb}
use Rattle.std.proofs.lemmas.List.{take_at, drop_at, take-append-drop, length-append, length-take, get_or-drop}
use Rattle.std.proofs.lemmas.List.{get_or-take, get_or_past}
use Rattle.std.proofs.lemmas.Nat.{be_bytes_2, from_be_bytes-to_be_bytes_2}
use Rattle.ar_disks.specs.declared.geometry.Geometry.{Geometry}
use Rattle.ar_disks.specs.declared.geometry.Geometry.TheVariants.{Paper, Small}
use Rattle.ar_record.specs.Reading.{◌>>=◌, bytes_at, number_at}
use Rattle.ar_record.proofs.Fields.{IsBytes, IsBytes-rest, bind_some, guard_some, some_is, Takes}
use Rattle.ar_record.proofs.Fields.{wide_number_takes, wide_number_again, bytes_take, bytes_again}
use Rattle.ar_compaction.specs.declared.head.HeadError.{HeadError}
use Rattle.ar_compaction.specs.declared.head.HeadError.TheVariants.{OtherVersion}
use Rattle.ar_compaction.specs.declared.head.StoreHead.{StoreHead}
use Rattle.ar_compaction.specs.Head.{HeadData, IsEncodingOf, IsHead, fields_of, former_encoding, geometry_byte}
use Rattle.ar_compaction.specs.Head.{head_data, head_encoding, makes_part}
use Rattle.ar_compaction.specs.HeadReading.{fields_at, geometry_at, head_with, makes_field_at, shape_at, name_at}
use Rattle.ar_compaction.specs.HeadReading.{or_invalid}
use Rattle.ar_compaction.specs.HeadReading.{HeadReadsAs, head_decoded}
use Rattle.ar_compaction.specs.Makes.{no_makes}

-- ---- a number of two bytes

bytes-drop : (n : ℕ) (bytes : List ℕ) → IsBytes bytes → IsBytes (drop n bytes)
bytes-drop n bytes h i = rw get_or-drop (h (n + i))

bytes-take : (n : ℕ) (bytes : List ℕ) → IsBytes bytes → IsBytes (take n bytes)
bytes-take n bytes h i =
    elim (cases_lt i n) [
      | inl lt ↦ rw (get_or-take n bytes i 0 lt) (h i)
      | inr le ↦ rw (get_or_past (take n bytes) i 0 (omega (arith, length-take n bytes))) (omega arith)
    ]

short_takes : (bytes : List ℕ) (x : ℕ × List ℕ) → IsBytes bytes → number_at w16 bytes ≡ Some x
    → Takes bytes (to_be_bytes w16 x.0) x.1 × (x.0 < 2 ^ 16)
short_takes bytes x fits e =
    let g = guard_some (ltb (length bytes) 2) (from_be_bytes w16 (take 2 bytes), drop 2 bytes) x e in
    let long : 2 ≤ length bytes = ltb-false _ _ g.0 in
    let two : length (take 2 bytes) ≡ 2 = omega (arith, length-take 2 bytes) in
    let are : IsBytes (take 2 bytes) = bytes-take 2 bytes fits in
    let front : to_be_bytes w16 (from_be_bytes w16 (take 2 bytes)) ≡ take 2 bytes =
    be_bytes_2 (take 2 bytes) (from_be_bytes w16 (take 2 bytes)) two are refl in
    let below : from_be_bytes w16 (take 2 bytes) < 2 ^ 16 = omega (arith, are 0, are 1) in
    subst (λ (y : ℕ × List ℕ). Takes bytes (to_be_bytes w16 y.0) y.1 × (y.0 < 2 ^ 16)) g.1 (
      record {
        parts = subst (λ (t : List ℕ). bytes ≡ t ++ drop 2 bytes) (sym front) (sym (take-append-drop 2 bytes));
        rest_fits = bytes-drop 2 bytes fits;
      },
      below,
    )

again_by : (w : Width) (n : ℕ) (rest : List ℕ) → length (to_be_bytes w n) ≡ byte_len w
    → from_be_bytes w (to_be_bytes w n) ≡ n → number_at w (to_be_bytes w n ++ rest) ≡ Some (n, rest)
again_by w n rest len back =
    let long : ltb (length (to_be_bytes w n ++ rest)) (byte_len w) ≡ false =
    le-ltb _ _ (omega (arith, len, length-append (to_be_bytes w n) rest)) in
    rw (long, take_at (to_be_bytes w n) rest (byte_len w) len, drop_at (to_be_bytes w n) rest (byte_len w) len, back)
    refl

short_again : (n : ℕ) (rest : List ℕ) → n < 2 ^ 16 → number_at w16 (to_be_bytes w16 n ++ rest) ≡ Some (n, rest)
short_again n rest lt = again_by w16 n rest refl (from_be_bytes-to_be_bytes_2 n lt)

-- ---- the shape

geometry_takes : (byte : ℕ) (g : Geometry) → geometry_at byte ≡ Some g → byte ≡ geometry_byte g
geometry_takes byte g e = by (eqb byte 0) refl (eqb byte 1) refl e
  where
    by : (p : Bool) → eqb byte 0 ≡ p → (q : Bool) → eqb byte 1 ≡ q
        → cond p (Some Paper) (cond q (Some Small) None) ≡ Some g → byte ≡ geometry_byte g
    by true f q h e = eqb-true byte 0 f ∙ ap geometry_byte (some_is Paper g e)
    by false f true h e = eqb-true byte 1 h ∙ ap geometry_byte (some_is Small g e)
    by false f false h e = absurd cc

geometry_again : (g : Geometry) → geometry_at (geometry_byte g) ≡ Some g
geometry_again Paper = refl
geometry_again Small = refl

shape_takes : (bytes : List ℕ) (x : (Geometry × ℕ) × List ℕ) → IsBytes bytes → shape_at bytes ≡ Some x
    → Takes bytes (geometry_byte x.0.0 ∷ x.0.1 ∷ []) x.1 × (x.0.1 < 256)
shape_takes [] x fits e = absurd cc
shape_takes (geometry ∷ []) x fits e = absurd cc
shape_takes (geometry ∷ disks ∷ rest) x fits e =
    let a = bind_some (geometry_at geometry) (λ found. Some ((found, disks), rest)) x e in
    let byte = geometry_takes geometry a.0 a.1 in
    subst (λ (y : (Geometry × ℕ) × List ℕ). Takes (geometry ∷ disks ∷ rest) (geometry_byte y.0.0 ∷ y.0.1 ∷ []) y.1
    × (y.0.1 < 256)) (some_is ((a.0, disks), rest) x a.2)
    (record { parts = ap (λ (b : ℕ). b ∷ disks ∷ rest) byte; rest_fits = λ i. fits (suc (suc i)) }, fits 1)

shape_again : (g : Geometry) (disks : ℕ) (rest : List ℕ)
    → shape_at (geometry_byte g ∷ disks ∷ rest) ≡ Some ((g, disks), rest)
shape_again g disks rest = rw (geometry_again g) refl

-- ---- the name

name_takes : (bytes name : List ℕ) → name_at bytes ≡ Some name → (bytes ≡ length name ∷ name) × (length name ≤ 64)
name_takes [] name e = absurd cc
name_takes (count ∷ rest) name e =
    by (ltb 64 count) refl (eqb (length rest) count) refl e
  where
    by : (long : Bool) → ltb 64 count ≡ long → (same : Bool) → eqb (length rest) count ≡ same
        → cond long None (cond same (Some rest) None) ≡ Some name
        → (count ∷ rest ≡ length name ∷ name) × (length name ≤ 64)
    by true f same g e = absurd cc
    by false f false g e = absurd cc
    by false f true g e =
        let is : rest ≡ name = some_is rest name e in
        let len : length rest ≡ count = eqb-true _ _ g in
        let short : count ≤ 64 = ltb-false _ _ f in
        subst (λ (y : List ℕ). (count ∷ rest ≡ length y ∷ y) × (length y ≤ 64)) is
        (ap (λ (n : ℕ). n ∷ rest) (sym len), omega (arith, len, short))

name_again : (name : List ℕ) → length name ≤ 64 → name_at (length name ∷ name) ≡ Some name
name_again name short = rw (le-ltb 64 (length name) short, eq-eqb (length name) (length name) refl) refl

-- ---- the units made

-- what is read of them is what the version has, and zeros where it is the former one
record TakesMakes (is_former : Bool) (bytes : List ℕ) (x : List ℕ × List ℕ) : Type 0 where
  taken : Takes bytes (makes_part is_former x.0) x.1
  len : length x.0 ≡ 64
  none : is_former ≡ true → x.0 ≡ no_makes

makes_takes : (is_former : Bool) (bytes : List ℕ) (x : List ℕ × List ℕ) → IsBytes bytes
    → makes_field_at is_former bytes ≡ Some x → TakesMakes is_former bytes x
makes_takes true bytes x fits e =
    subst (λ (y : List ℕ × List ℕ). TakesMakes true bytes y) (some_is (no_makes, bytes) x e)
    (record { taken = record { parts = refl; rest_fits = fits }; len = refl; none = λ _. refl })
makes_takes false bytes x fits e =
    let t = bytes_take 64 bytes x fits e in record { taken = t.0; len = t.1; none = λ none. absurd cc }

makes_again : (is_former : Bool) (makes rest : List ℕ) → length makes ≡ 64 → (is_former ≡ true → makes ≡ no_makes)
    → makes_field_at is_former (makes_part is_former makes ++ rest) ≡ Some (makes, rest)
makes_again true makes rest len none = ap (λ (m : List ℕ). Some (m, rest)) (sym (none refl))
makes_again false makes rest len none = bytes_again 64 makes rest len

-- ---- all fields

-- what the fields of a version are those of
record AreFields (is_former : Bool) (bytes : List ℕ) (head : HeadData) : Type 0 where
  is : IsHead head
  bytes_are : bytes ≡ fields_of is_former head
  none : is_former ≡ true → head.makes ≡ no_makes

fields_take : (is_former : Bool) (bytes : List ℕ) (head : HeadData) → IsBytes bytes
    → fields_at is_former bytes ≡ Some head → AreFields is_former bytes head
unfolding fields_at
fields_take is_former bytes head fits e =
    let a = bind_some (number_at w64 bytes)
    (λ generation. bytes_at 16 generation.1 >>= λ identity. shape_at identity.1 >>= λ shape. number_at w16 shape.1
    >>= λ extents. makes_field_at is_former extents.1 >>= λ makes. name_at makes.1 >>= λ name. Some
    (head_with generation.0 identity.0 shape.0 extents.0 makes.0 name)) head e in
    let b = bind_some (bytes_at 16 a.0.1)
    (λ identity. shape_at identity.1 >>= λ shape. number_at w16 shape.1
    >>= λ extents. makes_field_at is_former extents.1 >>= λ makes. name_at makes.1 >>= λ name.
    Some (head_with a.0.0 identity.0 shape.0 extents.0 makes.0 name)) head a.2 in
    let c = bind_some (shape_at b.0.1)
    (λ shape. number_at w16 shape.1 >>= λ extents. makes_field_at is_former extents.1 >>= λ makes. name_at makes.1
    >>= λ name. Some (head_with a.0.0 b.0.0 shape.0 extents.0 makes.0 name)) head b.2 in
    let d = bind_some (number_at w16 c.0.1)
    (λ extents. makes_field_at is_former extents.1 >>= λ makes. name_at makes.1 >>= λ name. Some
    (head_with a.0.0 b.0.0 c.0.0 extents.0 makes.0 name)) head c.2 in
    let m = bind_some (makes_field_at is_former d.0.1)
    (λ makes. name_at makes.1 >>= λ name. Some (head_with a.0.0 b.0.0 c.0.0 d.0.0 makes.0 name)) head d.2 in
    let n = bind_some (name_at m.0.1) (λ name. Some (head_with a.0.0 b.0.0 c.0.0 d.0.0 m.0.0 name)) head m.2 in
    let t0 = wide_number_takes bytes a.0 fits a.1 in
    let t1 = bytes_take 16 a.0.1 b.0 t0.0.rest_fits b.1 in
    let t2 = shape_takes b.0.1 c.0 t1.0.rest_fits c.1 in
    let t3 = short_takes c.0.1 d.0 t2.0.rest_fits d.1 in
    let t4 = makes_takes is_former d.0.1 m.0 t3.0.rest_fits m.1 in
    let t5 = name_takes m.0.1 n.0 n.1 in
    let shape : List ℕ = geometry_byte c.0.0.0 ∷ c.0.0.1 ∷ [] in
    let made : HeadData = head_with a.0.0 b.0.0 c.0.0 d.0.0 m.0.0 n.0 in
    let whole : bytes ≡ fields_of is_former made =
    t0.0.parts ∙ ap (λ (l : List ℕ). to_be_bytes w64 a.0.0 ++ l)
    (t1.0.parts ∙ ap (λ (l : List ℕ). b.0.0 ++ l)
    (t2.0.parts ∙ ap (λ (l : List ℕ). shape ++ l)
    (t3.0.parts ∙ ap (λ (l : List ℕ). to_be_bytes w16 d.0.0 ++ l)
    (t4.taken.parts ∙ ap (λ (l : List ℕ). makes_part is_former m.0.0 ++ l) t5.0)))) in
    let is : IsHead made = record {
      generation_fits = t0.1;
      identity_len = t1.1;
      disks_fit = t2.1;
      extents_fit = t3.1;
      makes_len = t4.len;
      name_short = t5.1;
    } in
    subst (λ (h : HeadData). AreFields is_former bytes h)
    (some_is made head n.2) (record { is = is; bytes_are = whole; none = t4.none })

fields_again : (is_former : Bool) (head : HeadData) → IsHead head → (is_former ≡ true → head.makes ≡ no_makes)
    → fields_at is_former (fields_of is_former head) ≡ Some head
unfolding fields_at
fields_again is_former head is none =
    let name = length head.name ∷ head.name in
    let makes = makes_part is_former head.makes ++ name in
    let extents = to_be_bytes w16 head.extents ++ makes in
    let shape = geometry_byte head.geometry ∷ head.disks ∷ [] ++ extents in
    rw (
      wide_number_again head.generation (head.identity ++ shape) is.generation_fits,
      bytes_again 16 head.identity shape is.identity_len,
      geometry_again head.geometry,
      short_again head.extents makes is.extents_fit,
      makes_again is_former head.makes name is.makes_len none,
      name_again head.name is.name_short,
    ) refl

-- ---- the whole head

or_some : (r : Option HeadData) (head : HeadData) → or_invalid r ≡ Ok head → r ≡ Some head
or_some None head e = absurd cc
or_some (Some h) head e = cc

head_takes : (bytes : List ℕ) (head : HeadData) → IsBytes bytes → head_decoded bytes ≡ Ok head
    → IsHead head × IsEncodingOf head bytes
head_takes [] head fits e = absurd cc
head_takes (version ∷ bytes) head fits e = by (eqb version 1) refl (eqb version 2) refl e
  where
    by : (p : Bool) → eqb version 1 ≡ p → (q : Bool) → eqb version 2 ≡ q
        → cond p (or_invalid (fields_at true bytes)) (cond q (or_invalid (fields_at false bytes)) (Err OtherVersion))
        ≡ Ok head
        → IsHead head × IsEncodingOf head (version ∷ bytes)
    by true f q g e =
        let t =
        fields_take true bytes head (IsBytes-rest version bytes fits) (or_some (fields_at true bytes) head e) in (
          t.is,
          inr (ap (λ (v : ℕ). v ∷ bytes) (eqb-true version 1 f) ∙ ap (λ (l : List ℕ). 1 ∷ l) t.bytes_are, t.none refl),
        )
    by false f true g e =
        let t =
        fields_take false bytes head (IsBytes-rest version bytes fits) (or_some (fields_at false bytes) head e) in (
          t.is,
          inl (ap (λ (v : ℕ). v ∷ bytes) (eqb-true version 2 g) ∙ ap (λ (l : List ℕ). 2 ∷ l) t.bytes_are),
        )
    by false f false g e = absurd cc

pub head_found : (bytes : List ℕ) (r : Result StoreHead HeadError) → IsBytes bytes
    → HeadReadsAs head_data r (head_decoded bytes)
    → IfOk r (λ found. IsHead (head_data found) × IsEncodingOf (head_data found) bytes)
head_found bytes (Ok found) fits given = head_takes bytes (head_data found) fits given
head_found bytes (Err e) fits given = tt

pub head_again : (head : HeadData) → IsHead head → head_decoded (head_encoding head) ≡ Ok head
head_again head is = ap or_invalid (fields_again false head is (λ former. absurd cc))

pub former_again : (head : HeadData) → IsHead head → head.makes ≡ no_makes
    → head_decoded (former_encoding head) ≡ Ok head
former_again head is none = ap or_invalid (fields_again true head is (λ _. none))

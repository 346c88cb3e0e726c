-- Bytes with data that are cut into them, as they are put and as they are sent.
use Rattle.std.proofs.Common.{◌≡◌, ◌∙◌, ℕ, ◌+◌, ◌-◌, ◌<◌, ◌≤◌, ◌^◌, List, [], ◌∷◌, ◌++◌, refl, sym, ap, subst}
use Rattle.std.proofs.Common.{length, take, drop, get_or, append_assoc, append-nil, length-append, length-drop, arith}
use Rattle.std.proofs.Common.{length-take-le, take_all, drop-drop, slice_range, false, true}
use Rattle.std.proofs.lemmas.List.{drop-append-le, take-append-le, get_or-drop}
use Rattle.std.proofs.Math.Seq.{drop-append_seam, take-append_seam}
use Rattle.bytes.proofs.Ranges.{take-append_past}
use Rattle.ar_frames.specs.Stream.{SinkState, Writing, Sending}
use Rattle.ar_frames.specs.declared.transfer.Sent.TheVariants.{Whole, Part}
use Rattle.ar_frames.proofs.Streams.{Writing-none, Writing-trans, Writing-same}
use Rattle.ar_iscsi.specs.declared.answer.Cut.{Cut}
use Rattle.ar_iscsi.specs.declared.response.SequenceNumbers.{SequenceNumbers}
use Rattle.ar_iscsi.specs.declared.response.TargetPdu.{TargetPdu}
use Rattle.ar_iscsi.specs.Answer.{woven, fronts, lens, AreCut, PutsCut, no_cut}
use Rattle.ar_iscsi.specs.Pdu.{padding_len}
use Rattle.ar_iscsi.specs.Response.{padding, target_header, target_pdu}
use Rattle.ar_iscsi.proofs.Headers.{responses_are}

-- bytes that are appended stay behind all data
pub woven_append : (cuts : List Cut) (bytes more carried : List ℕ) → fronts cuts ≤ length bytes
    → woven cuts (bytes ++ more) carried ≡ woven cuts bytes carried ++ more
woven_append [] bytes more carried within = refl
woven_append (cut ∷ cuts) bytes more carried within =
    let fits : cut.front ≤ length bytes = omega (arith, within) in
    let rest : fronts cuts ≤ length (drop cut.front bytes) = omega (arith, within, length-drop cut.front bytes) in
    let front = take cut.front bytes in
    let piece = take cut.len carried in
    let others = woven cuts (drop cut.front bytes) (drop cut.len carried) in
    ap (λ (l : List ℕ). l ++ (piece ++ woven cuts (drop cut.front (bytes ++ more)) (drop cut.len carried)))
    (take-append-le cut.front bytes more fits)
    ∙ ap (λ (l : List ℕ). front ++ (piece ++ woven cuts l (drop cut.len carried)))
    (drop-append-le cut.front bytes more fits)
    ∙ ap (λ (l : List ℕ). front ++ (piece ++ l))
    (woven_append cuts (drop cut.front bytes) more (drop cut.len carried) rest)
    ∙ ap (λ (l : List ℕ). front ++ l) (sym (append_assoc piece others more))
    ∙ sym (append_assoc front (piece ++ others) more)

-- the counts of one place more
pub fronts_more : (cuts : List Cut) (cut : Cut) → fronts (cuts ++ cut ∷ []) ≡ fronts cuts + cut.front
fronts_more [] cut = omega arith
fronts_more (first ∷ cuts) cut = omega (arith, fronts_more cuts cut)

pub lens_more : (cuts : List Cut) (cut : Cut) → lens (cuts ++ cut ∷ []) ≡ lens cuts + cut.len
lens_more [] cut = omega arith
lens_more (first ∷ cuts) cut = omega (arith, lens_more cuts cut)

-- a PDU is appended: its header, the next data, and the bytes after them
pub woven_cut : (cuts : List Cut) (cut : Cut) (bytes header after carried : List ℕ) → fronts cuts ≤ length bytes
    → fronts cuts + cut.front ≡ length bytes + length header
    → woven (cuts ++ cut ∷ []) (bytes ++ (header ++ after)) carried
    ≡ woven cuts bytes carried ++ (header ++ (take cut.len (drop (lens cuts) carried) ++ after))
woven_cut [] cut bytes header after carried within place =
    let seam : cut.front ≡ length (bytes ++ header) = omega (arith, place, length-append bytes header) in
    let piece = take cut.len carried in
    ap (λ (l : List ℕ). take cut.front l ++ (piece ++ drop cut.front l)) (sym (append_assoc bytes header after))
    ∙ ap (λ (n : ℕ). take n ((bytes ++ header) ++ after) ++ (piece ++ drop n ((bytes ++ header) ++ after))) seam
    ∙ ap (λ (l : List ℕ). l ++ (piece ++ drop (length (bytes ++ header)) ((bytes ++ header) ++ after)))
    (take-append_seam (bytes ++ header) after)
    ∙ ap (λ (l : List ℕ). (bytes ++ header) ++ (piece ++ l)) (drop-append_seam (bytes ++ header) after)
    ∙ append_assoc bytes header (piece ++ after)
woven_cut (first ∷ cuts) cut bytes header after carried within place =
    let fits : first.front ≤ length bytes = omega (arith, within) in
    let room = length-drop first.front bytes in
    let front = take first.front bytes in
    let piece = take first.len carried in
    let bytes' = drop first.front bytes in
    let carried' = drop first.len carried in
    let more = header ++ (take cut.len (drop (lens cuts) carried') ++ after) in
    let step : woven (cuts ++ cut ∷ []) (bytes' ++ (header ++ after)) carried' ≡ woven cuts bytes' carried' ++ more =
    woven_cut cuts cut bytes' header after carried' (omega (arith, within, room)) (omega
    (arith, within, place, room)) in
    ap (λ (l : List ℕ). l ++ (piece ++ woven (cuts ++ cut ∷ []) (drop first.front (bytes ++
    (header ++ after))) carried'))
    (take-append-le first.front bytes (header ++ after) fits)
    ∙ ap (λ (l : List ℕ). front ++ (piece ++ woven (cuts ++ cut ∷ []) l carried'))
    (drop-append-le first.front bytes (header ++ after) fits)
    ∙ ap (λ (l : List ℕ). front ++ (piece ++ l)) step
    ∙ ap (λ (l : List ℕ). front ++ l) (sym (append_assoc piece (woven cuts bytes' carried') more))
    ∙ sym (append_assoc front (piece ++ woven cuts bytes' carried') more)
    ∙ ap (λ (l : List ℕ). (front ++ (piece ++ woven cuts bytes' carried')) ++ (header ++ (take cut.len l ++ after)))
    (drop-drop (lens cuts) first.len carried)

-- the next data, and the bytes before them
woven_first : (cuts : List Cut) (c : Cut) (bytes carried : List ℕ) → 0 < length cuts → c ≡ get_or cuts 0 no_cut
    → woven cuts bytes carried
    ≡ take c.front bytes ++ (take c.len carried ++ woven (drop 1 cuts) (drop c.front bytes) (drop c.len carried))
woven_first [] c bytes carried some is = absurd (omega (arith, some))
woven_first (cut ∷ cuts) c bytes carried some is =
    subst (λ (x : Cut). woven (cut ∷ cuts) bytes carried
    ≡ take x.front bytes ++ (take x.len carried ++ woven cuts (drop x.front bytes) (drop x.len carried))) (sym is) refl

-- the last data, or none, with the bytes before and after them
woven_only : (cuts : List Cut) (c : Cut) (bytes carried : List ℕ) → length cuts ≤ 1 → c ≡ get_or cuts 0 no_cut
    → woven cuts bytes carried ≡ take c.front bytes ++ (take c.len carried ++ drop c.front bytes)
woven_only [] c bytes carried one is =
    subst (λ (x : Cut). bytes ≡ take x.front bytes ++ (take x.len carried ++ drop x.front bytes)) (sym is) refl
woven_only (cut ∷ []) c bytes carried one is =
    subst (λ (x : Cut). woven (cut ∷ []) bytes carried
    ≡ take x.front bytes ++ (take x.len carried ++ drop x.front bytes)) (sym is) refl
woven_only (cut ∷ other ∷ cuts) c bytes carried one is = absurd (omega (arith, one))

-- the place at the front fits, and so do those after it
first_fits : (cuts : List Cut) (c : Cut) (bytes carried : List ℕ) → c ≡ get_or cuts 0 no_cut → AreCut cuts bytes carried
    → (c.front ≤ length bytes) × (c.len ≤ length carried)
    × AreCut (drop 1 cuts) (drop c.front bytes) (drop c.len carried)
first_fits [] c bytes carried is cut =
    subst (λ (x : Cut). (x.front ≤ length bytes) × (x.len ≤ length carried)
    × AreCut [] (drop x.front bytes) (drop x.len carried)) (sym is)
    (omega arith, omega arith, record { fronts_fit = omega arith; lens_fit = omega arith })
first_fits (first ∷ cuts) c bytes carried is cut =
    subst (λ (x : Cut). (x.front ≤ length bytes) × (x.len ≤ length carried)
    × AreCut cuts (drop x.front bytes) (drop x.len carried)) (sym is) (
      omega (arith, cut.fronts_fit),
      omega (arith, cut.lens_fit),
      record {
        fronts_fit = omega (arith, cut.fronts_fit, length-drop first.front bytes);
        lens_fit = omega (arith, cut.lens_fit, length-drop first.len carried);
      },
    )

-- bytes with the data that are cut into them, from place number `i` on: so far `from` of the bytes and `at` of the data
-- were passed
pub record IsAt (cuts : List Cut) (bytes carried : List ℕ) (i from at : ℕ) : Type 0 where
  pub cut : AreCut (drop i cuts) (drop from bytes) (drop at carried)
  pub from_fits : from ≤ length bytes
  pub at_fits : at ≤ length carried

abbrev pub rest_at : List Cut → List ℕ → List ℕ → ℕ → ℕ → ℕ → List ℕ
rest_at cuts bytes carried i from at = woven (drop i cuts) (drop from bytes) (drop at carried)

module _ (cuts : List Cut) (bytes carried : List ℕ) (i from at : ℕ) (c : Cut) (is : c ≡ get_or cuts i no_cut) where
  at_front : c ≡ get_or (drop i cuts) 0 no_cut
  at_front =
      is ∙ ap (λ (n : ℕ). get_or cuts n no_cut) (omega arith) ∙ sym (get_or-drop i cuts 0 no_cut)

  -- the bytes and the data of the place are there
  pub front_fits : IsAt cuts bytes carried i from at → from + c.front ≤ length bytes
  front_fits place =
      let fits = first_fits (drop i cuts) c (drop from bytes) (drop at carried) at_front place.cut in
      omega (arith, fits.0, length-drop from bytes, place.from_fits)

  pub data_fit : IsAt cuts bytes carried i from at → at + c.len ≤ length carried
  data_fit place =
      let fits = first_fits (drop i cuts) c (drop from bytes) (drop at carried) at_front place.cut in
      omega (arith, fits.1, length-drop at carried, place.at_fits)

  -- the next place
  pub next_place : IsAt cuts bytes carried i from at → IsAt cuts bytes carried (i + 1) (from + c.front) (at + c.len)
  next_place place =
      let fits = first_fits (drop i cuts) c (drop from bytes) (drop at carried) at_front place.cut in
      record {
        cut = subst (λ (l : List ℕ). AreCut (drop (i + 1) cuts) l (drop (at + c.len) carried))
            (drop-drop c.front from bytes)
            (subst (λ (l : List ℕ). AreCut (drop (i + 1) cuts) (drop c.front (drop from bytes)) l)
            (drop-drop c.len at carried)
            (subst (λ (l : List Cut). AreCut l (drop c.front (drop from bytes)) (drop c.len (drop at carried)))
            (drop-drop 1 i cuts) fits.2));
        from_fits = front_fits place;
        at_fits = data_fit place;
      }

  -- what is sent first
  pub rest_first : i < length cuts
      → rest_at cuts bytes carried i from at
      ≡ (slice_range bytes from (from + c.front) ++ (slice_range carried at (at + c.len) ++ []))
      ++ rest_at cuts bytes carried (i + 1) (from + c.front) (at + c.len)
  rest_first within =
      let front = take c.front (drop from bytes) in
      let piece = take c.len (drop at carried) in
      let front_is : (from + c.front) - from ≡ c.front = omega arith in
      let piece_is : (at + c.len) - at ≡ c.len = omega arith in
      woven_first (drop i cuts) c (drop from bytes) (drop at carried)
      (omega (arith, length-drop i cuts, within)) at_front
      ∙ ap (λ (l : List Cut). front ++ (piece ++ woven l (drop c.front (drop from bytes)) (drop c.len
      (drop at carried))))
      (drop-drop 1 i cuts)
      ∙ ap (λ (l : List ℕ). front ++ (piece ++ woven (drop (i + 1) cuts) l (drop c.len (drop at carried))))
      (drop-drop c.front from bytes)
      ∙ ap (λ (l : List ℕ). front ++ (piece ++ woven (drop (i + 1) cuts) (drop (from + c.front) bytes) l))
      (drop-drop c.len at carried)
      ∙ sym (append_assoc front piece (rest_at cuts bytes carried (i + 1) (from + c.front) (at + c.len)))
      ∙ ap (λ (l : List ℕ). (front ++ l) ++ rest_at cuts bytes carried (i + 1) (from + c.front) (at + c.len))
      (sym (append-nil piece))
      ∙ ap (λ (n : ℕ). (take n (drop from bytes) ++ (piece ++ []))
      ++ rest_at cuts bytes carried (i + 1) (from + c.front) (at + c.len)) (sym front_is)
      ∙ ap (λ (n : ℕ). (slice_range bytes from (from + c.front) ++ (take n (drop at carried) ++ []))
      ++ rest_at cuts bytes carried (i + 1) (from + c.front) (at + c.len)) (sym piece_is)

  -- what is sent last
  pub rest_last : length cuts ≤ i + 1
      → rest_at cuts bytes carried i from at
      ≡ slice_range bytes from (from + c.front) ++ (slice_range carried at (at + c.len)
      ++ slice_range bytes (from + c.front) (length bytes))
  rest_last within =
      let front = take c.front (drop from bytes) in
      let piece = take c.len (drop at carried) in
      let front_is : (from + c.front) - from ≡ c.front = omega arith in
      let piece_is : (at + c.len) - at ≡ c.len = omega arith in
      woven_only (drop i cuts) c (drop from bytes) (drop at carried)
      (omega (arith, length-drop i cuts, within)) at_front
      ∙ ap (λ (l : List ℕ). front ++ (piece ++ l)) (drop-drop c.front from bytes)
      ∙ ap (λ (l : List ℕ). front ++ (piece ++ l)) (sym (take_all (length bytes - (from + c.front))
      (drop (from + c.front) bytes) (omega (arith, length-drop (from + c.front) bytes))))
      ∙ ap (λ (n : ℕ). take n (drop from bytes) ++ (piece ++ slice_range bytes (from + c.front) (length bytes)))
      (sym front_is)
      ∙ ap (λ (n : ℕ). slice_range bytes from (from + c.front) ++ (take n (drop at carried)
      ++ slice_range bytes (from + c.front) (length bytes))) (sym piece_is)

-- the first `count` bytes of a whole were sent, and `rest` is left
pub record SendsFirst (a b : SinkState) (whole rest : List ℕ) (count : ℕ) : Type 0 where
  pub first : List ℕ
  pub written : Writing a b first false
  pub joins : whole ≡ first ++ rest
  pub count_is : length first ≡ count

pub sends_none : (a : SinkState) (whole : List ℕ) → SendsFirst a a whole whole 0
sends_none a whole = record { first = []; written = Writing-none a; joins = refl; count_is = refl }

pub sends_more : (a b c : SinkState) (whole rest piece after : List ℕ) (count : ℕ) → rest ≡ piece ++ after
    → SendsFirst a b whole rest count → Sending b c piece Whole → SendsFirst a c whole after (count + length piece)
sends_more a b c whole rest piece after count is first sending = record {
  first = first.first ++ piece;
  written = Writing-trans a b c first.first piece false first.written sending.written;
  joins = first.joins ∙ ap (λ (l : List ℕ). first.first ++ l) is ∙ sym (append_assoc first.first piece after);
  count_is = omega (arith, length-append first.first piece, first.count_is);
}

pub sends_last : (a b c : SinkState) (whole rest : List ℕ) (count : ℕ)
    → SendsFirst a b whole rest count → Sending b c rest Whole → Sending a c whole Whole
sends_last a b c whole rest count first sending = record {
  written = Writing-same a c (first.first ++ rest) whole false (sym first.joins)
      (Writing-trans a b c first.first rest false first.written sending.written);
  proper = tt;
}

pub sends_part : (a b c : SinkState) (whole rest piece after : List ℕ) (count n : ℕ) → rest ≡ piece ++ after
    → SendsFirst a b whole rest count → Sending b c piece (Part n) → Sending a c whole (Part (count + n))
sends_part a b c whole rest piece after count n is first sending =
    let all : whole ≡ first.first ++ (piece ++ after) = first.joins ∙ ap (λ (l : List ℕ). first.first ++ l) is in
    let more : take n (piece ++ after) ≡ take n piece =
    take-append-le n piece after (omega (arith, sending.proper)) in
    record {
      written = Writing-same a c (first.first ++ take n piece) (take (count + n) whole) true
          (sym (ap (take (count + n)) all
          ∙ take-append_past first.first (piece ++ after) n (count + n) (omega (arith, first.count_is))
          ∙ ap (λ (l : List ℕ). first.first ++ l) more))
          (Writing-trans a b c first.first (take n piece) true first.written sending.written);
      proper = omega (
        arith,
        sending.proper,
        ap length all,
        length-append first.first (piece ++ after),
        length-append
            piece after,
        first.count_is,
      );
    }

module _ (cuts : List Cut) (bytes carried : List ℕ) (i from at : ℕ) (c : Cut) (is : c ≡ get_or cuts i no_cut)
    (place : IsAt cuts bytes carried i from at) (within : i < length cuts) where
  -- one more place was sent
  pub sends_next : (a b d : SinkState)
      → SendsFirst a b (woven cuts bytes carried) (rest_at cuts bytes carried i from at) (from + at)
      → Sending b d (slice_range bytes from (from + c.front) ++ (slice_range carried at (at + c.len) ++ [])) Whole
      → SendsFirst a d (woven cuts bytes carried)
      (rest_at cuts bytes carried (i + 1) (from + c.front) (at + c.len)) (from + c.front + (at + c.len))
  sends_next a b d first sending =
      let front = slice_range bytes from (from + c.front) in
      let piece = slice_range carried at (at + c.len) in
      let after = rest_at cuts bytes carried (i + 1) (from + c.front) (at + c.len) in
      let bytes_fit = front_fits cuts bytes carried i from at c is place in
      let carried_fit = data_fit cuts bytes carried i from at c is place in
      let front_size = length-take-le ((from + c.front) - from) (drop from bytes)
      (omega (arith, length-drop from bytes, bytes_fit)) in
      let piece_size = length-take-le ((at + c.len) - at) (drop at carried)
      (omega (arith, length-drop at carried, carried_fit)) in
      let size : length (front ++ (piece ++ [])) ≡ c.front + c.len =
      omega (arith, length-append front (piece ++ []), length-append piece [], front_size, piece_size) in
      let count : from + at + length (front ++ (piece ++ [])) ≡ from + c.front + (at + c.len) = omega (arith, size) in
      subst (λ (n : ℕ). SendsFirst a d (woven cuts bytes carried) after n) count
      (sends_more a b d (woven cuts bytes carried) (rest_at cuts bytes carried i from at) (front ++ (piece ++ [])) after
      (from + at) (rest_first cuts bytes carried i from at c is within) first sending)

  -- a part of it was
  pub sends_part_of : (a b d : SinkState) (n : ℕ)
      → SendsFirst a b (woven cuts bytes carried) (rest_at cuts bytes carried i from at) (from + at)
      → Sending b d (slice_range bytes from (from + c.front) ++ (slice_range carried at (at + c.len) ++ [])) (Part n)
      → Sending a d (woven cuts bytes carried) (Part (from + at + n))
  sends_part_of a b d n first sending =
      sends_part a b d (woven cuts bytes carried) (rest_at cuts bytes carried i from at)
      (slice_range bytes from (from + c.front) ++ (slice_range carried at (at + c.len) ++ []))
      (rest_at cuts bytes carried (i + 1) (from + c.front) (at + c.len)) (from + at) n
      (rest_first cuts bytes carried i from at c is within) first sending

module _ (cuts : List Cut) (bytes carried : List ℕ) (i from at : ℕ) (c : Cut) (is : c ≡ get_or cuts i no_cut)
    (within : length cuts ≤ i + 1) where
  -- the last place was sent, with the bytes behind it
  pub sends_rest : (a b d : SinkState)
      → SendsFirst a b (woven cuts bytes carried) (rest_at cuts bytes carried i from at) (from + at)
      → Sending b d (slice_range bytes from (from + c.front) ++ (slice_range carried at (at + c.len)
      ++ slice_range bytes (from + c.front) (length bytes))) Whole
      → Sending a d (woven cuts bytes carried) Whole
  sends_rest a b d first sending =
      sends_last a b d (woven cuts bytes carried) (rest_at cuts bytes carried i from at) (from + at) first
      (subst (λ (l : List ℕ). Sending b d l Whole) (sym (rest_last cuts bytes carried i from at c is within)) sending)

  -- a part of these was
  pub sends_part_rest : (a b d : SinkState) (n : ℕ)
      → SendsFirst a b (woven cuts bytes carried) (rest_at cuts bytes carried i from at) (from + at)
      → Sending b d (slice_range bytes from (from + c.front) ++ (slice_range carried at (at + c.len)
      ++ slice_range bytes (from + c.front) (length bytes))) (Part n)
      → Sending a d (woven cuts bytes carried) (Part (from + at + n))
  sends_part_rest a b d n first sending =
      let last = slice_range bytes from (from + c.front) ++ (slice_range carried at (at + c.len)
      ++ slice_range bytes (from + c.front) (length bytes)) in
      sends_part a b d (woven cuts bytes carried) (rest_at cuts bytes carried i from at) last [] (from + at) n
      (rest_last cuts bytes carried i from at c is within ∙ sym (append-nil last)) first sending

-- nothing is woven yet
pub woven_none : (cuts : List Cut) (bytes carried : List ℕ) → cuts ≡ [] → bytes ≡ [] → [] ≡ woven cuts bytes carried
woven_none cuts bytes carried uncut empty =
    sym (ap (λ (l : List Cut). woven l bytes carried) uncut ∙ empty)

-- the bytes of a header
header_size : (which : TargetPdu) (numbers : SequenceNumbers) (len at : ℕ) (carried : List ℕ)
    → at + len ≤ length carried → len < 2 ^ 24 → length (target_header which numbers len) ≡ 48
header_size which numbers len at carried fits short =
    let piece = take len (drop at carried) in
    let size : length piece ≡ len = length-take-le len (drop at carried) (omega
    (arith, length-drop at carried, fits)) in
    subst (λ (n : ℕ). length (target_header which numbers n) ≡ 48) size
    (responses_are which numbers piece (omega (arith, size, short))).header_is

-- the place is among the bytes
pub cut_placed : (which : TargetPdu) (numbers : SequenceNumbers) (cuts cuts' : List Cut) (bytes bytes' carried : List ℕ)
    (len marked place at : ℕ) → PutsCut which numbers len bytes bytes' cuts cuts' marked place
    → at + len ≤ length carried → len < 2 ^ 24 → place ≤ length bytes'
cut_placed which numbers cuts cuts' bytes bytes' carried len marked place at puts fits short =
    let header = target_header which numbers len in
    let after = padding (padding_len len) in
    omega (
      arith,
      puts.place_is,
      ap length puts.appended,
      length-append bytes (header ++ after),
      length-append header
          after,
      header_size which numbers len at carried fits short,
    )

-- a PDU was appended without its data: it is woven with them
pub puts_cut : (which : TargetPdu) (numbers : SequenceNumbers) (cuts cuts' : List Cut) (bytes bytes' carried : List ℕ)
    (len marked place at : ℕ) → PutsCut which numbers len bytes bytes' cuts cuts' marked place
    → marked ≡ fronts cuts → marked ≤ length bytes → lens cuts ≡ at → at + len ≤ length carried → len < 2 ^ 24
    → woven cuts' bytes' carried
    ≡ woven cuts bytes carried ++ target_pdu which numbers (take len (drop at carried))
puts_cut which numbers cuts cuts' bytes bytes' carried len marked place at puts marked_is within passed fits short =
    let cut : Cut = record { front = place - marked; len = len } in
    let piece = take len (drop at carried) in
    let after = padding (padding_len len) in
    let header = target_header which numbers len in
    let size : length piece ≡ len = length-take-le len (drop at carried) (omega
    (arith, length-drop at carried, fits)) in
    let header_is = header_size which numbers len at carried fits short in
    let front = woven cuts bytes carried in
    ap (λ (l : List Cut). woven l bytes' carried) puts.cut
    ∙ ap (λ (l : List ℕ). woven (cuts ++ cut ∷ []) l carried) puts.appended
    ∙ woven_cut cuts cut bytes header after carried (omega (arith, marked_is, within))
    (omega (arith, marked_is, within, puts.place_is, header_is))
    ∙ ap (λ (n : ℕ). front ++ (header ++ (take len (drop n carried) ++ after))) passed
    ∙ ap (λ (n : ℕ). front ++ (target_header which numbers n ++ (piece ++ padding (padding_len n)))) (sym size)

-- the places are counted
pub cuts_counted : (which : TargetPdu) (numbers : SequenceNumbers) (cuts cuts' : List Cut) (bytes bytes' : List ℕ)
    (len marked place : ℕ) → PutsCut which numbers len bytes bytes' cuts cuts' marked place
    → marked ≡ fronts cuts → marked ≤ length bytes
    → (place ≡ fronts cuts') × (lens cuts' ≡ lens cuts + len)
cuts_counted which numbers cuts cuts' bytes bytes' len marked place puts marked_is within =
    let cut : Cut = record { front = place - marked; len = len } in (
      omega (arith, ap fronts puts.cut, fronts_more cuts cut, marked_is, within, puts.place_is),
      ap lens puts.cut ∙ lens_more cuts cut,
    )

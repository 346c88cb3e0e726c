-- How the parts of a PDU that were read one after the other join, and how reading stops inside one.
use Rattle.std.proofs.Common.{◌≡◌, ◌∙◌, ℕ, ◌+◌, ◌<◌, ◌≤◌, true, false, List, [], ◌∷◌, ◌++◌, subst, sym, length}
use Rattle.std.proofs.Common.{append_assoc, ap, length-take-le}
use Rattle.std.proofs.Common.{length-append, arith}
use Rattle.std.proofs.lemmas.Bool.{ne_eqb}
use Rattle.ar_frames.specs.Stream.{SourceState, Reading}
use Rattle.ar_frames.proofs.Streams.{Reading-trans}
use Rattle.ar_iscsi.specs.declared.receive.ReceiveEnd.TheVariants as end
use Rattle.ar_iscsi.specs.declared.receive.Received.{Received}
use Rattle.ar_iscsi.specs.declared.receive.Received.TheVariants.{Pdu, Damaged, Nothing}
use Rattle.ar_iscsi.specs.Pdu.{IsPdu, ahs_len, segment_len, rest_len, padding_len}
use Rattle.ar_iscsi.specs.declared.digest.Digests.{Digests}
use Rattle.ar_iscsi.specs.Digest.{IsDamagedPdu, IsDigestedPdu, closed, closes_data}
use Rattle.ar_iscsi.specs.Receive.{ReceivesPdu, ReadsNoPdu, IsCutPdu, after_header, StopsPdu}
use Rattle.ar_iscsi.specs.Receive.{ReceivesDigested, StopsDigested}
use Rattle.std.specs.Prelude.{take, Bool, ◌&&◌, ◌==◌, not}
use Rattle.std.specs.Io.KnownBytes.{IsAtEnd}

-- first bytes of a PDU and then others
pub receives_front : (a b c : SourceState) (base front buffer : List ℕ) (limit : ℕ) (result : Received)
    → Reading a b front false
    → ReceivesPdu (base ++ front) limit b c buffer result → ReceivesPdu base limit a c buffer result
receives_front a b c base front buffer limit (Pdu header) first rest = record {
  rest = front ++ rest.rest;
  is_pdu = subst (λ (l : List ℕ). IsPdu header (take (segment_len header) buffer) l) (append_assoc base front rest.rest)
      rest.is_pdu;
  within = rest.within;
  read = Reading-trans a b c front rest.rest false first rest.read;
}
receives_front a b c base front buffer limit (Damaged header) first rest = rest
receives_front a b c base front buffer limit (Nothing reason) first rest = record {
  rest = front ++ rest.rest;
  stops = subst (λ (l : List ℕ). StopsPdu reason limit l) (append_assoc base front rest.rest) rest.stops;
  read = Reading-trans a b c front rest.rest _ first rest.read;
  ended = rest.ended;
}

-- a PDU that is cut after more than its header
cut_behind : (limit : ℕ) (header front part : List ℕ) → length header ≡ 48 → segment_len header ≤ limit
    → length front + length part < rest_len header → IsCutPdu limit ((header ++ front) ++ part)
cut_behind limit header front part header_is within short =
    subst (IsCutPdu limit) (sym (append_assoc header front part))
    (after_header header (front ++ part) header_is within (omega (arith, length-append front part, short)))

-- a header and more has more than no byte
some_bytes : (header front part : List ℕ) → length header ≡ 48 → 0 < length ((header ++ front) ++ part)
some_bytes header front part header_is =
    omega (arith, length-append (header ++ front) part, length-append header front, header_is)

-- input ended inside a PDU, after its header and `front`: less than `wanted` more bytes came, which it has at least
pub stops_cut : (a b : SourceState) (limit : ℕ) (header front part : List ℕ) (wanted : ℕ) → length header ≡ 48
    → segment_len header ≤ limit
    → length front + wanted ≤ rest_len header → length part < wanted → Reading a b part false → IsAtEnd b.left
    → ReadsNoPdu (header ++ front) limit a b end.Cut
stops_cut a b limit header front part wanted header_is within fits short read ended = record {
  rest = part;
  stops = (
    cut_behind limit header front part header_is within (omega (arith, fits, short)),
    some_bytes header front part header_is,
  );
  read = read;
  ended = ended;
}

-- the same where a read faulted
pub stops_read : (a b : SourceState) (limit : ℕ) (header front part : List ℕ) (wanted : ℕ) → length header ≡ 48
    → segment_len header ≤ limit
    → length front + wanted ≤ rest_len header → length part < wanted → Reading a b part true
    → ReadsNoPdu (header ++ front) limit a b end.Read
stops_read a b limit header front part wanted header_is within fits short read = record {
  rest = part;
  stops = (
    cut_behind limit header front part header_is within (omega (arith, fits, short)),
    some_bytes header front part header_is,
  );
  read = read;
  ended = tt;
}

-- first bytes of a PDU with digests and then others
pub digested_front : (digests : Digests) (a b c : SourceState) (base front buffer : List ℕ) (limit : ℕ)
    (result : Received) → Reading a b front false
    → ReceivesDigested digests (base ++ front) limit b c buffer result
    → ReceivesDigested digests base limit a c buffer result
digested_front digests a b c base front buffer limit (Pdu header) first rest = (
  front ++ rest.0,
  subst (λ (l : List ℕ). IsDigestedPdu digests header (take (segment_len header) buffer) l)
      (append_assoc base front rest.0) rest.1,
  rest.2,
  Reading-trans a b c front rest.0 false first rest.3,
)
digested_front digests a b c base front buffer limit (Damaged header) first rest = (
  front ++ rest.0,
  subst (λ (l : List ℕ). IsDamagedPdu digests header l) (append_assoc base front rest.0) rest.1,
  rest.2,
  Reading-trans a b c front rest.0 false first rest.3,
)
digested_front digests a b c base front buffer limit (Nothing reason) first rest = (
  front ++ rest.0,
  subst (λ (l : List ℕ). StopsDigested digests reason limit l) (append_assoc base front rest.0) rest.1,
  Reading-trans a b c front rest.0 _ first rest.2,
  rest.3,
)

-- padding alone makes no data
padded_none : (payload padding : List ℕ) → length padding ≡ padding_len (length payload)
    → (length payload == 0) ≡ (length (payload ++ padding) == 0)
padded_none [] padding size = ap (λ (n : ℕ). n == 0) (sym size)
padded_none (byte ∷ payload) padding size =
    ne_eqb (length (byte ∷ payload)) 0 (λ e. omega (arith, e))
    ∙ sym (ne_eqb (length ((byte ∷ payload) ++ padding)) 0 (λ e. omega (arith, e)))

-- what was read after a header and its digest makes the PDU whole
pub digested_whole :
    (digests : Digests) (header ahs payload tail buffer : List ℕ) → length header ≡ 48 → length ahs ≡ ahs_len header
    → length payload ≡ segment_len header → payload ≡ take (length payload) buffer
    → padding_len (length payload) ≤ length tail
    → payload ++ tail
    ≡ closed (closes_data digests payload) (payload ++ take (padding_len (length payload)) tail)
    → IsDigestedPdu digests header (take (segment_len header) buffer)
    ((closed digests.header (header ++ ahs) ++ payload) ++ tail)
digested_whole digests header ahs payload tail buffer header_is ahs_is size is room right =
    let padding : List ℕ = take (padding_len (length payload)) tail in
    let padding_is : length padding ≡ padding_len (length payload) =
    length-take-le (padding_len (length payload)) tail room in
    let wanted : closes_data digests payload ≡ closes_data digests (payload ++ padding) =
    ap (λ (b : Bool). digests.segment && not b) (padded_none payload padding padding_is) in
    subst (λ (l : List ℕ). IsDigestedPdu digests header l
    ((closed digests.header (header ++ ahs) ++ payload) ++ tail)) (is ∙ ap (λ (n : ℕ). take n buffer) size)
    (record {
      ahs = ahs;
      padding = padding;
      layout = append_assoc (closed digests.header (header ++ ahs)) payload tail
          ∙ ap (λ (l : List ℕ). closed digests.header (header ++ ahs) ++ l)
          (right ∙ ap (λ (b : Bool). closed b (payload ++ padding)) wanted);
      header_is = header_is;
      ahs_is = ahs_is;
      segment_is = size;
      padding_is = padding_is ∙ ap padding_len size;
    })

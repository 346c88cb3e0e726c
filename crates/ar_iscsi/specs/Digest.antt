-- Digests of headers and data (RFC 7143, 13.1), by CRC32C. Numbers stand for polynomials over two elements, the lowest
-- bit for the highest power.
use Rattle.std.specs.Prelude.{◌≡◌, ◌≢◌, ℕ, zero, suc, ◌+◌, ◌*◌, ◌/◌, ◌%◌, ◌==◌, nat_lt, min, Bool, true, false}
use Rattle.std.specs.Prelude.{not, ◌&&◌, if◌then◌else◌, MatchBool, List, [], ◌∷◌, ◌++◌, length, take, drop, bit_xor}
use Rattle.std.specs.Int.{w32, to_le_bytes}
use Rattle.ar_iscsi.specs.declared.digest.Digests.{Digests}
use Rattle.ar_iscsi.specs.Pdu.{IsPdu, ahs_len, segment_len, padding_len}

-- the polynomial 1EDC6F41h, reversed, without its highest power
abbrev pub polynomial : ℕ
polynomial = 0x82F63B78

-- the remainder after one more bit, which is 0
abbrev pub after_bit : ℕ → ℕ
after_bit x = bit_xor (x / 2) (x % 2 * polynomial)

-- the remainder after these many bits, which are 0
abbrev pub after_bits : ℕ → ℕ → ℕ
after_bits zero x = x
after_bits (suc n) x = after_bits n (after_bit x)

-- the remainder after one more byte
abbrev pub after_byte : ℕ → ℕ → ℕ
after_byte x byte = after_bits 8 (bit_xor x byte)

-- the remainder after more bytes
abbrev pub after_bytes : ℕ → List ℕ → ℕ
after_bytes x [] = x
after_bytes x (byte ∷ bytes) = after_bytes (after_byte x byte) bytes

-- the CRC32C of bytes: it begins with all bits set, and is complemented
abbrev pub crc32c : List ℕ → ℕ
crc32c bytes = bit_xor (after_bytes 0xFFFFFFFF bytes) 0xFFFFFFFF

-- a digest on the wire: its lowest byte is sent first (RFC 7143, B.4)
abbrev pub digest_bytes : List ℕ → List ℕ
digest_bytes covered = to_le_bytes w32 (crc32c covered)

-- neither digest was agreed on
abbrev pub is_plain : Digests → Bool
is_plain digests = not digests.header && not digests.segment

-- the same
abbrev pub no_digests : Digests
no_digests = record { header = false; segment = false }

-- the length of the data segment of the first of a target's PDUs, with its padding
abbrev pub body_len : List ℕ → ℕ
body_len bytes =
    min (segment_len (take 48 bytes) + padding_len (segment_len (take 48 bytes))) (length (drop 48 bytes))

-- a header or data with a digest, if it is wanted
abbrev pub closed : Bool → List ℕ → List ℕ
closed is_wanted covered = covered ++ (if is_wanted then digest_bytes covered else [])

-- a data segment has a digest; without data there is none (RFC 7143, 11.2.3)
abbrev pub closes_data : Digests → List ℕ → Bool
closes_data digests body = digests.segment && not (length body == 0)

-- a header and a data segment with its padding, with digests
abbrev pub both_closed : Digests → List ℕ → List ℕ → List ℕ
both_closed digests header body = closed digests.header header ++ closed (closes_data digests body) body

-- the first of a target's PDUs, with digests; it has no additional header segment
abbrev pub first_digested : Digests → List ℕ → List ℕ
first_digested digests bytes = both_closed digests (take 48 bytes) (take (body_len bytes) (drop 48 bytes))

-- the first `most` of a target's PDUs with digests, and what is behind them
abbrev pub digested_by : Digests → ℕ → List ℕ → List ℕ
digested_by digests zero bytes = bytes
digested_by digests (suc most) bytes =
    if nat_lt (length bytes) 48 then bytes
    else first_digested digests bytes ++ digested_by digests most (drop (body_len bytes) (drop 48 bytes))

-- the bytes of a target's PDUs as they are sent: with the digests that were agreed on
abbrev pub sent_by : Digests → List ℕ → List ℕ
sent_by digests out = if is_plain digests then out else digested_by digests (length out / 48) out

-- a PDU with digests, each of which is right
pub record IsDigestedPdu (digests : Digests) (header payload bytes : List ℕ) : Type 0 where
  pub ahs : List ℕ
  pub padding : List ℕ
  pub layout : bytes ≡ both_closed digests (header ++ ahs) (payload ++ padding)
  pub header_is : length header ≡ 48
  pub ahs_is : length ahs ≡ ahs_len header
  pub segment_is : length payload ≡ segment_len header
  pub padding_is : length padding ≡ padding_len (segment_len header)

-- a PDU as it is sent by an initiator: with the digests that were agreed on
abbrev pub IsSentPdu : Digests → List ℕ → List ℕ → List ℕ → Type 0
IsSentPdu digests header payload bytes =
    MatchBool (is_plain digests) (IsPdu header payload bytes) (IsDigestedPdu digests header payload bytes)

-- the length of a digest, if it is wanted
abbrev pub digest_len : Bool → ℕ
digest_len is_wanted = if is_wanted then 4 else 0

-- a piece after `first` ends in a digest that isn't the one of both
pub record EndsWrong (is_wanted : Bool) (first piece : List ℕ) (covered : ℕ) : Type 0 where
  pub wanted : is_wanted ≡ true
  pub length_is : length piece ≡ covered + 4
  pub wrong : drop covered piece ≢ digest_bytes (first ++ take covered piece)

-- a header, with its additional segments, ends in a wrong digest
pub data HasWrongHeader (digests : Digests) : List ℕ → Type 0 where
  after_header :
      (header front : List ℕ) → length header ≡ 48 → EndsWrong digests.header header front (ahs_len header)
      → HasWrongHeader digests (header ++ front)

-- a whole PDU whose data digest is wrong, and whose header's digest is right, if it has one
pub record IsDamagedPdu (digests : Digests) (header bytes : List ℕ) : Type 0 where
  pub ahs : List ℕ
  pub payload : List ℕ
  pub tail : List ℕ
  pub layout : bytes ≡ (closed digests.header (header ++ ahs) ++ payload) ++ tail
  pub header_is : length header ≡ 48
  pub ahs_is : length ahs ≡ ahs_len header
  pub segment_is : length payload ≡ segment_len header
  pub wrong : EndsWrong (closes_data digests payload) payload tail (padding_len (length payload))

-- PDUs on the wire, without digests (RFC 7143, 11.2). Bytes are numbered from 0, and fields are big-endian.
use Rattle.std.specs.Prelude.{◌≡◌, ◌+◌, ◌-◌, ◌*◌, ◌%◌, ◌^◌, ℕ, List, [], ◌++◌, length, drop, slice_index}
use Rattle.byteorder.specs.Endian.{big_number}

-- word `i` of a header: the number in its bytes 4 i to 4 i + 3
unfoldable pub header_word : ℕ → List ℕ → ℕ
header_word i header = big_number 4 (drop (4 * i) header)

-- TotalAHSLength in bytes: the length of the additional header segments (RFC 7143, 11.2.1.5)
abbrev pub ahs_len : List ℕ → ℕ
ahs_len header = 4 * slice_index header 4

-- DataSegmentLength: the length of the data segment without its padding (RFC 7143, 11.2.1.6)
abbrev pub segment_len : List ℕ → ℕ
segment_len header = header_word 1 header % 2 ^ 24

-- the length of the padding after a data segment: it ends on a whole word (RFC 7143, 11.2.3)
abbrev pub padding_len : ℕ → ℕ
padding_len len = (4 - len % 4) % 4

-- the number of bytes that follow a header
abbrev pub rest_len : List ℕ → ℕ
rest_len header = ahs_len header + (segment_len header + padding_len (segment_len header))

-- a PDU: the basic header segment of 48 bytes, additional header segments, the data segment, and its padding
pub record IsPdu (header payload bytes : List ℕ) : Type 0 where
  pub ahs : List ℕ
  pub padding : List ℕ
  pub layout : bytes ≡ header ++ (ahs ++ (payload ++ padding))
  pub header_is : length header ≡ 48
  pub ahs_is : length ahs ≡ ahs_len header
  pub segment_is : length payload ≡ segment_len header
  pub padding_is : length padding ≡ padding_len (segment_len header)

-- a PDU that is a prefix of another is equal to it, and so are the headers and the data
abbrev pub NoPduBeginsAnother : Type 0
NoPduBeginsAnother =
    (header other payload second bytes more : List ℕ) → IsPdu header payload bytes → IsPdu other second (bytes ++ more)
    → (more ≡ []) × (header ≡ other) × (payload ≡ second)

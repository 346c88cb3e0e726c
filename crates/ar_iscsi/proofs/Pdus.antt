-- Why no PDU's bytes begin another's: its header says where it ends.
use Rattle.std.proofs.Common.{◌≡◌, ℕ, List, [], ◌++◌, append-nil, sym, ap, ◌∙◌, append_assoc, length}
use Rattle.ar_frames.proofs.Frames.{split}
use Rattle.ar_iscsi.specs.Pdu.{IsPdu, NoPduBeginsAnother, ahs_len, segment_len, padding_len}

-- the parts of two lists that are put together of parts of one length, with more after the first
split_more : (a b c d more : List ℕ) → length a ≡ length c → (a ++ b) ++ more ≡ c ++ d → (a ≡ c) × (b ++ more ≡ d)
split_more a b c d more len e = split a (b ++ more) c d len (sym (append_assoc a b more) ∙ e)

-- a list and more is a list of its length
split_last : (a b more : List ℕ) → length a ≡ length b → a ++ more ≡ b → (a ≡ b) × (more ≡ [])
split_last a b more len e = split a more b [] len (e ∙ sym (append-nil b))

pub no_pdu_begins : NoPduBeginsAnother
no_pdu_begins header other payload second bytes more f s =
    let whole = ap (λ (l : List ℕ). l ++ more) (sym f.layout) ∙ s.layout in
    let a = split_more header (f.ahs ++ (payload ++ f.padding)) other (s.ahs ++ (second ++ s.padding)) more (f.header_is
    ∙ sym s.header_is) whole in
    let b = split_more f.ahs (payload ++ f.padding) s.ahs (second ++ s.padding) more (f.ahs_is ∙ ap ahs_len a.0
    ∙ sym s.ahs_is) a.1 in
    let c = split_more payload f.padding second s.padding more (f.segment_is ∙ ap segment_len a.0 ∙ sym s.segment_is)
    b.1 in
    let d = split_last f.padding s.padding more (f.padding_is ∙ ap (λ (h : List ℕ). padding_len (segment_len h)) a.0
    ∙ sym s.padding_is) c.1 in
    (d.1, a.0, c.0)

-- a PDU of its parts as they were read
pub pdu_is : (header ahs payload padding : List ℕ) → length header ≡ 48 → length ahs ≡ ahs_len header
    → length payload ≡ segment_len header
    → length padding ≡ padding_len (segment_len header) → IsPdu header payload (((header ++ ahs) ++ payload) ++ padding)
pdu_is header ahs payload padding header_is ahs_is segment_is padding_is = record {
  ahs = ahs;
  padding = padding;
  layout = append_assoc (header ++ ahs) payload padding ∙ append_assoc header ahs (payload ++ padding);
  header_is = header_is;
  ahs_is = ahs_is;
  segment_is = segment_is;
  padding_is = padding_is;
}

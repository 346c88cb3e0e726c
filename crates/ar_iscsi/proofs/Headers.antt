-- Why a response is a PDU: its second word is the length of its data, below 2^24, so that byte 4 is 0.
use Rattle.std.proofs.Common.{◌≡◌, ◌∙◌, ℕ, ◌%◌, ◌<◌, ◌^◌, List, [], ◌∷◌, ◌++◌, refl, sym, ap, length, arith}
use Rattle.std.proofs.lemmas.List.{length-replicate}
use Rattle.std.proofs.Math.Nat.{mod-eq_of_lt}
use Rattle.byteorder.specs.Numbers.{big_number-reads_back}
use Rattle.ar_iscsi.specs.declared.request.Lun.{Lun}
use Rattle.ar_iscsi.specs.declared.response.SequenceNumbers.{SequenceNumbers}
use Rattle.ar_iscsi.specs.declared.response.TargetPdu.TheVariants as pdu
use Rattle.ar_iscsi.specs.Pdu.{IsPdu, header_word, ahs_len, segment_len, padding_len}
use Rattle.ar_iscsi.specs.Response.{header_of, header_by, padding, bytes_of_words, ResponsesArePdus}

-- a header of these bytes and words, after the length of the data
header_len : (a b c d len : ℕ) (lun : Lun) (tag fifth : ℕ) (numbers : SequenceNumbers) (ninth tenth last : ℕ)
    → length (header_by (a ∷ b ∷ c ∷ d ∷ []) len lun tag fifth numbers ninth tenth last) ≡ 48
unfolding header_of
header_len a b c d len lun tag fifth numbers ninth tenth last = refl

header_segment : (a b c d len : ℕ) (lun : Lun) (tag fifth : ℕ) (numbers : SequenceNumbers) (ninth tenth last : ℕ)
    → len < 2 ^ 24
    → segment_len (header_by (a ∷ b ∷ c ∷ d ∷ []) len lun tag fifth numbers ninth tenth last) ≡ len
unfolding header_of header_word
header_segment a b c d len lun tag fifth numbers ninth tenth last short =
    let others : List ℕ =
    bytes_of_words (lun.high ∷ lun.low ∷ tag ∷ fifth ∷ numbers.stat_sn ∷ numbers.exp_cmd_sn ∷ numbers.max_cmd_sn ∷ ninth
    ∷ tenth ∷ last ∷ []) in
    ap (λ (n : ℕ). n % 16777216) (big_number-reads_back 4 len others (omega (arith, short))) ∙ mod-eq_of_lt short

header_ahs : (a b c d len : ℕ) (lun : Lun) (tag fifth : ℕ) (numbers : SequenceNumbers) (ninth tenth last : ℕ)
    → len < 2 ^ 24
    → ahs_len (header_by (a ∷ b ∷ c ∷ d ∷ []) len lun tag fifth numbers ninth tenth last) ≡ 0
unfolding header_of
header_ahs a b c d len lun tag fifth numbers ninth tenth last short = omega (arith, short)

-- a PDU with such a header, and its data
response_is : (a b c d : ℕ) (lun : Lun) (tag fifth : ℕ) (numbers : SequenceNumbers) (ninth tenth last : ℕ)
    (segment : List ℕ) → length segment < 2 ^ 24
    → IsPdu (header_by (a ∷ b ∷ c ∷ d ∷ []) (length segment) lun tag fifth numbers ninth tenth last) segment
    (header_by (a ∷ b ∷ c ∷ d ∷ []) (length segment) lun tag fifth numbers ninth tenth last
    ++ (segment ++ padding (padding_len (length segment))))
response_is a b c d lun tag fifth numbers ninth tenth last segment short =
    let segment_is = header_segment a b c d (length segment) lun tag fifth numbers ninth tenth last short in
    record {
      ahs = [];
      padding = padding (padding_len (length segment));
      layout = refl;
      header_is = header_len a b c d (length segment) lun tag fifth numbers ninth tenth last;
      ahs_is = sym (header_ahs a b c d (length segment) lun tag fifth numbers ninth tenth last short);
      segment_is = sym segment_is;
      padding_is = length-replicate (padding_len (length segment)) 0 ∙ ap padding_len (sym segment_is);
    }

pub responses_are : ResponsesArePdus
responses_are (pdu.NopIn lun tag) numbers segment short = response_is _ _ _ _ _ _ _ _ _ _ _ segment short
responses_are (pdu.Ping tag) numbers segment short = response_is _ _ _ _ _ _ _ _ _ _ _ segment short
responses_are (pdu.ScsiResponse tag status residual sn) numbers segment short =
    response_is _ _ _ _ _ _ _ _ _ _ _ segment short
responses_are (pdu.TaskManagementResponse tag response) numbers segment short =
    response_is _ _ _ _ _ _ _ _ _ _ _ segment short
responses_are (pdu.Login login) numbers segment short = response_is _ _ _ _ _ _ _ _ _ _ _ segment short
responses_are (pdu.TextResponse tag) numbers segment short = response_is _ _ _ _ _ _ _ _ _ _ _ segment short
responses_are (pdu.DataIn tag sn offset) numbers segment short = response_is _ _ _ _ _ _ _ _ _ _ _ segment short
responses_are (pdu.LogoutResponse tag response) numbers segment short = response_is _ _ _ _ _ _ _ _ _ _ _ segment short
responses_are (pdu.ReadyToTransfer lun tag transfer sn offset wanted) numbers segment short =
    response_is _ _ _ _ _ _ _ _ _ _ _ segment short
responses_are (pdu.Reject reason) numbers segment short = response_is _ _ _ _ _ _ _ _ _ _ _ segment short

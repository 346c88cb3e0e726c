-- A text item by item: the first one ends at the first zero byte, and the last one is what no zero byte is after.
use Rattle.std.proofs.Common.{◌≡◌, ◌∙◌, ℕ, ◌+◌, ◌<◌, ◌≤◌, Bool, true, false, cond, ltb, List, [], ◌∷◌, ◌++◌, refl, sym}
use Rattle.std.proofs.Common.{ap, append-nil, append_assoc, length, take, drop, arith, Option, Some, None, unwrap_or}
use Rattle.std.specs.Prelude.{◌==◌, ◌||◌, bytes_eq}
use Rattle.std.specs.List.{position_or_len, slice_split, list_any}
use Rattle.std.proofs.lemmas.List.Splits.{slice_split_none, slice_split_first}
use Rattle.std.proofs.lemmas.List.Sums.{fails_before_first}
use Rattle.ar_iscsi.specs.declared.negotiation.Negotiation.{Negotiation}
use Rattle.ar_iscsi.specs.declared.keys.KeyAnswer.TheVariants as says
use Rattle.ar_iscsi.specs.Text.{text_answer, items_answer, item_answer, has_member}
use Rattle.ar_iscsi.specs.Text.{digest_answer, digest_named, first_digest}
use Rattle.ar_iscsi.specs.Initiator.{named_after, name_after_items, name_after_item}
use Rattle.ar_iscsi.specs.Negotiation.{negotiated, after_items, after_item}
use Rattle.ar_iscsi.specs.Targets.{targets_answer, asked_answers, asked_answer}

or_false : (b : Bool) → (b || false) ≡ b
or_false true = refl
or_false false = refl

-- the place of a byte, or the length, where that is what a search finds
pub found_place : (n len : ℕ) → n ≤ len → unwrap_or (cond (ltb n len) (Some n) None) len ≡ n
found_place n len most = grind arith

-- the items of a text: the first and those of the rest
split_first : (byte : ℕ) (text : List ℕ) (end : ℕ) → end ≡ position_or_len (λ b. b == byte) text → end < length text
    → slice_split (λ b. b == byte) text ≡ take end text ∷ slice_split (λ b. b == byte) (drop (end + 1) text)
split_first byte text end at within =
    slice_split_first (λ b. b == byte) text 0 (omega (arith, at, within))
    ∙ ap (λ (n : ℕ). take n text ∷ slice_split (λ b. b == byte) (drop (n + 1) text)) (sym at)

-- or the one item
split_last : (byte : ℕ) (text : List ℕ) (end : ℕ) → end ≡ position_or_len (λ b. b == byte) text → length text ≤ end
    → slice_split (λ b. b == byte) text ≡ text ∷ []
split_last byte text end at whole =
    slice_split_none (λ b. b == byte) text
    (λ k d l. fails_before_first (λ b. b == byte) text k d (omega (arith, whole, at)))

-- the answers to what came and to what is left, one item further
pub answer_more : (burst : ℕ) (out out' all text rest : List ℕ) (end : ℕ) → rest ≡ drop (end + 1) text
    → end ≡ position_or_len (λ b. b == 0) text → end < length text
    → out' ≡ out ++ item_answer burst (take end text) → out ++ text_answer burst text ≡ all → out'
    ++ text_answer burst rest ≡ all
answer_more burst out out' all text rest end is at within e h =
    ap (λ (l : List ℕ). out' ++ text_answer burst l) is
    ∙ ap (λ (l : List ℕ). l ++ text_answer burst (drop (end + 1) text)) e
    ∙ append_assoc out (item_answer burst (take end text)) (text_answer burst (drop (end + 1) text))
    ∙ ap (λ (l : List ℕ). out ++ l) (sym (ap (items_answer burst) (split_first 0 text end at within))) ∙ h

pub answer_last : (burst : ℕ) (out out' all text : List ℕ) (end : ℕ) → end ≡ position_or_len (λ b. b == 0) text
    → length text ≤ end
    → out' ≡ out ++ item_answer burst text → out ++ text_answer burst text ≡ all → out' ≡ all
answer_last burst out out' all text end at whole e h =
    e ∙ ap (λ (l : List ℕ). out ++ l) (sym (append-nil (item_answer burst text))
    ∙ sym (ap (items_answer burst) (split_last 0 text end at whole))) ∙ h

-- the same for what is negotiated
pub negotiated_more : (old new all : Negotiation) (text rest : List ℕ) (end : ℕ) → rest ≡ drop (end + 1) text
    → end ≡ position_or_len (λ b. b == 0) text → end < length text
    → new ≡ after_item old (take end text) → negotiated old text ≡ all → negotiated new rest ≡ all
negotiated_more old new all text rest end is at within e h =
    ap (λ (l : List ℕ). negotiated new l) is ∙ ap (λ (n : Negotiation). negotiated n (drop (end + 1) text)) e
    ∙ sym (ap (after_items old) (split_first 0 text end at within)) ∙ h

pub negotiated_last : (old all : Negotiation) (text : List ℕ) (end : ℕ) → end ≡ position_or_len (λ b. b == 0) text
    → length text ≤ end
    → negotiated old text ≡ all → after_item old text ≡ all
negotiated_last old all text end at whole h = sym (ap (after_items old) (split_last 0 text end at whole)) ∙ h

-- the same for the name of the initiator
pub named_more : (old new all text rest : List ℕ) (end : ℕ) → rest ≡ drop (end + 1) text
    → end ≡ position_or_len (λ b. b == 0) text → end < length text
    → new ≡ name_after_item old (take end text) → named_after old text ≡ all → named_after new rest ≡ all
named_more old new all text rest end is at within e h =
    ap (λ (l : List ℕ). named_after new l) is ∙ ap (λ (n : List ℕ). named_after n (drop (end + 1) text)) e
    ∙ sym (ap (name_after_items old) (split_first 0 text end at within)) ∙ h

pub named_last : (old new all text : List ℕ) (end : ℕ) → end ≡ position_or_len (λ b. b == 0) text → length text ≤ end
    → new ≡ name_after_item old text → named_after old text ≡ all → new ≡ all
named_last old new all text end at whole e h =
    e ∙ sym (ap (name_after_items old) (split_last 0 text end at whole)) ∙ h

-- the same for the targets that are asked for
pub targets_more : (address : List ℕ) (host : Option ℕ) (out out' all text rest : List ℕ) (end : ℕ)
    → rest ≡ drop (end + 1) text
    → end ≡ position_or_len (λ b. b == 0) text → end < length text
    → out' ≡ out ++ asked_answer address host (take end text) → out ++ targets_answer address host text ≡ all
    → out' ++ targets_answer address host rest ≡ all
targets_more address host out out' all text rest end is at within e h =
    ap (λ (l : List ℕ). out' ++ targets_answer address host l) is
    ∙ ap (λ (l : List ℕ). l ++ targets_answer address host (drop (end + 1) text)) e
    ∙ append_assoc out (asked_answer address host (take end text)) (targets_answer address host (drop (end + 1) text))
    ∙ ap (λ (l : List ℕ). out ++ l) (sym (ap (asked_answers address host) (split_first 0 text end at within))) ∙ h

pub targets_last : (address : List ℕ) (host : Option ℕ) (out out' all text : List ℕ) (end : ℕ)
    → end ≡ position_or_len (λ b. b == 0) text
    → length text ≤ end
    → out' ≡ out ++ asked_answer address host text → out ++ targets_answer address host text ≡ all → out' ≡ all
targets_last address host out out' all text end at whole e h =
    e ∙ ap (λ (l : List ℕ). out ++ l) (sym (append-nil (asked_answer address host text))
    ∙ sym (ap (asked_answers address host) (split_last 0 text end at whole))) ∙ h

-- the members of a list of methods: the first and those of the rest
pub member_more : (member text rest : List ℕ) (end : ℕ) → rest ≡ drop (end + 1) text
    → end ≡ position_or_len (λ b. b == 44) text
    → end < length text
    → has_member member text ≡ (bytes_eq (take end text) member || has_member member rest)
member_more member text rest end is at within =
    ap (list_any (λ v. bytes_eq v member)) (split_first 44 text end at within)
    ∙ ap (λ (l : List ℕ). bytes_eq (take end text) member || has_member member l) (sym is)

-- the first is this member
pub member_found : (member text : List ℕ) (end : ℕ) → end ≡ position_or_len (λ b. b == 44) text → end < length text
    → bytes_eq (take end text) member ≡ true → has_member member text ≡ true
member_found member text end at within e =
    member_more member text (drop (end + 1) text) end refl at within
    ∙ ap (λ (b : Bool). b || has_member member (drop (end + 1) text)) e

-- the first is another
pub member_passed : (member text rest : List ℕ) (end : ℕ) → rest ≡ drop (end + 1) text
    → end ≡ position_or_len (λ b. b == 44) text → end < length text
    → bytes_eq (take end text) member ≡ false → has_member member rest ≡ has_member member text
member_passed member text rest end is at within e =
    sym (member_more member text rest end is at within ∙ ap (λ (b : Bool). b || has_member member rest) e)

-- the last is the one left
pub member_last : (member text : List ℕ) (end : ℕ) → end ≡ position_or_len (λ b. b == 44) text → length text ≤ end
    → has_member member text ≡ bytes_eq text member
member_last member text end at whole =
    ap (list_any (λ v. bytes_eq v member)) (split_last 44 text end at whole)
    ∙ or_false (bytes_eq text member)

-- the digests of a list: the first that is supported
pub digest_more : (text rest : List ℕ) (end : ℕ) → rest ≡ drop (end + 1) text
    → end ≡ position_or_len (λ b. b == 44) text → end < length text
    → digest_answer text ≡ unwrap_or (digest_named (take end text)) (digest_answer rest)
digest_more text rest end is at within =
    ap first_digest (split_first 44 text end at within)
    ∙ ap (λ (l : List ℕ). unwrap_or (digest_named (take end text)) (digest_answer l)) (sym is)

pub digest_last : (text : List ℕ) (end : ℕ) → end ≡ position_or_len (λ b. b == 44) text → length text ≤ end
    → digest_answer text ≡ unwrap_or (digest_named text) says.Reject
digest_last text end at whole = ap first_digest (split_last 44 text end at whole)

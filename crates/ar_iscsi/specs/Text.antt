-- Text of login and text PDUs: items of the form `Name=value`, each ended by a zero byte (RFC 7143, 6.1), and what a
-- target answers to each key (RFC 7143, 13).
use Rattle.std.specs.Prelude.{ℕ, ◌+◌, ◌-◌, ◌*◌, ◌==◌, nat_lt, nat_le, min, max, Bool, ◌&&◌, ◌||◌, if◌then◌else◌}
use Rattle.std.specs.Prelude.{List, [], ◌∷◌, ◌++◌, length, take, drop, codes, bytes_eq, Option, Some, None, unwrap_or}
use Rattle.std.specs.List.{list_any, slice_split, before_first, after_first}
use Rattle.std.specs.Char.{is_ascii_digit, is_ascii_hexdigit}
use Rattle.std.specs.Fmt.{decimal}
use Rattle.ar_iscsi.specs.declared.keys.Key.{Key}
use Rattle.ar_iscsi.specs.declared.keys.Key.TheVariants as key
use Rattle.ar_iscsi.specs.declared.keys.KeyAnswer.{KeyAnswer}
use Rattle.ar_iscsi.specs.declared.keys.KeyAnswer.TheVariants as says

-- the name of an item: what is in front of its first "="
abbrev pub item_name : List ℕ → List ℕ
item_name item = before_first (λ b. b == 61) item

-- the value of an item: what is after its first "="
abbrev pub item_value : List ℕ → List ℕ
item_value item = after_first (λ b. b == 61) item

-- the number of digits, after those whose number is `n`; none if it passes 2^24 before its last digit
abbrev pub numeral_from : ℕ → List ℕ → Option ℕ
numeral_from n [] = Some n
numeral_from n (c ∷ cs) = if is_ascii_digit c && nat_lt n 16777216 then numeral_from (n * 10 + (c - 48)) cs else None

-- the value of a hexadecimal digit, of either case
abbrev pub hex_value : ℕ → ℕ
hex_value c = if nat_le c 57 then c - 48 else (if nat_le c 70 then c - 55 else c - 87)

-- the number of hexadecimal digits, after those whose number is `n`; none if it passes 2^24 before its last digit
abbrev pub hexadecimal_from : ℕ → List ℕ → Option ℕ
hexadecimal_from n [] = Some n
hexadecimal_from n (c ∷ cs) =
    if is_ascii_hexdigit c && nat_lt n 16777216 then hexadecimal_from (n * 16 + hex_value c) cs else None

-- at least one decimal digit
abbrev pub decimal_number : List ℕ → Option ℕ
decimal_number digits = if length digits == 0 then None else numeral_from 0 digits

-- at least one hexadecimal digit
abbrev pub hexadecimal_number : List ℕ → Option ℕ
hexadecimal_number digits = if length digits == 0 then None else hexadecimal_from 0 digits

-- a number begins as a hexadecimal one does
abbrev pub is_hexadecimal : List ℕ → Bool
is_hexadecimal digits = bytes_eq (take 2 digits) (codes "0x") || bytes_eq (take 2 digits) (codes "0X")

-- a number: in hexadecimal after 0x or 0X, and otherwise in decimal (RFC 7143, 6.1)
abbrev pub numeral : List ℕ → Option ℕ
numeral digits = if is_hexadecimal digits then hexadecimal_number (drop 2 digits) else decimal_number digits

-- the keys of the order of what is transferred, of connections and of recovery
abbrev pub order_key : List ℕ → Key
order_key name =
    if bytes_eq name (codes "DataPDUInOrder") then key.DataPDUInOrder
    else (if bytes_eq name (codes "DataSequenceInOrder") then key.DataSequenceInOrder
    else (if bytes_eq name (codes "MaxOutstandingR2T") then key.MaxOutstandingR2T
    else (if bytes_eq name (codes "MaxConnections") then key.MaxConnections
    else (if bytes_eq name (codes "ErrorRecoveryLevel") then key.ErrorRecoveryLevel
    else (if bytes_eq name (codes "DefaultTime2Wait") then key.DefaultTime2Wait
    else (if bytes_eq name (codes "DefaultTime2Retain") then key.DefaultTime2Retain
    else (if bytes_eq name (codes "IFMarker") then key.IFMarker
    else (if bytes_eq name (codes "OFMarker") then key.OFMarker
    else (if bytes_eq name (codes "TaskReporting") then key.TaskReporting
    else key.Unknown)))))))))

-- the keys of what a session transfers
abbrev pub transfer_key : List ℕ → Key
transfer_key name =
    if bytes_eq name (codes "HeaderDigest") then key.HeaderDigest
    else (if bytes_eq name (codes "DataDigest") then key.DataDigest
    else (if bytes_eq name (codes "MaxRecvDataSegmentLength") then key.MaxRecvDataSegmentLength
    else (if bytes_eq name (codes "MaxBurstLength") then key.MaxBurstLength
    else (if bytes_eq name (codes "FirstBurstLength") then key.FirstBurstLength
    else (if bytes_eq name (codes "InitialR2T") then key.InitialR2T
    else (if bytes_eq name (codes "ImmediateData") then key.ImmediateData
    else order_key name))))))

-- the keys of the login phase, and then those
abbrev pub key_named : List ℕ → Key
key_named name =
    if bytes_eq name (codes "InitiatorName") then key.InitiatorName
    else (if bytes_eq name (codes "InitiatorAlias") then key.InitiatorAlias
    else (if bytes_eq name (codes "TargetName") then key.TargetName
    else (if bytes_eq name (codes "SessionType") then key.SessionType
    else (if bytes_eq name (codes "AuthMethod") then key.AuthMethod
    else (if bytes_eq name (codes "SendTargets") then key.SendTargets
    else transfer_key name)))))

-- a member is in a list, whose members are separated by commas
abbrev pub has_member : List ℕ → List ℕ → Bool
has_member member offer = list_any (λ v. bytes_eq v member) (slice_split (λ b. b == 44) offer)

-- of a list, only this member is supported, which has this answer (RFC 7143, 6.2.1)
abbrev pub only : List ℕ → KeyAnswer → List ℕ → KeyAnswer
only member answer offer = if has_member member offer then answer else says.Reject

-- of a list, only None is supported
abbrev pub only_none : List ℕ → KeyAnswer
only_none offer = only (codes "None") says.NoneOfThem offer

-- a digest that is supported (RFC 7143, 13.1)
abbrev pub digest_named : List ℕ → Option KeyAnswer
digest_named name =
    if bytes_eq name (codes "None") then Some says.NoneOfThem
    else (if bytes_eq name (codes "CRC32C") then Some says.Crc32c else None)

-- the first of some digests that is supported: the initiator's order decides (RFC 7143, 6.2.1)
abbrev pub first_digest : List (List ℕ) → KeyAnswer
first_digest [] = says.Reject
first_digest (name ∷ names) = unwrap_or (digest_named name) (first_digest names)

-- the same of an offered list
abbrev pub digest_answer : List ℕ → KeyAnswer
digest_answer offer = first_digest (slice_split (λ b. b == 44) offer)

-- of the ways to end aborted tasks, only that of RFC 3720 is supported (RFC 7143, 13.23)
abbrev pub task_reporting : List ℕ → KeyAnswer
task_reporting offer = only (codes "RFC3720") says.Rfc3720 offer

-- the smaller of an offer from `least` to `most` and the target's own value (RFC 7143, 6.2.2)
abbrev pub smaller : ℕ → ℕ → ℕ → Option ℕ → KeyAnswer
smaller own least most None = says.Reject
smaller own least most (Some n) = if nat_le least n && nat_le n most then says.Number (min n own) else says.Reject

-- the larger of both
abbrev pub larger : ℕ → ℕ → ℕ → Option ℕ → KeyAnswer
larger own least most None = says.Reject
larger own least most (Some n) = if nat_le least n && nat_le n most then says.Number (max n own) else says.Reject

-- the target's own value, if the offer is one from `least` to `most`: each side declares its own
abbrev pub declared_own : ℕ → ℕ → ℕ → Option ℕ → KeyAnswer
declared_own own least most None = says.Reject
declared_own own least most (Some n) = if nat_le least n && nat_le n most then says.Number own else says.Reject

-- a value that is Yes or No gets one of these answers
abbrev pub yes_or_no : KeyAnswer → KeyAnswer → List ℕ → KeyAnswer
yes_or_no to_yes to_no offer =
    if bytes_eq offer (codes "Yes") then to_yes else (if bytes_eq offer (codes "No") then to_no else says.Reject)

-- the answer to a number, by the target's own value and the range of the key (RFC 7143, 13); FirstBurstLength is at
-- most the MaxBurstLength `burst` that was agreed on (13.14)
abbrev pub number_answer : Key → ℕ → Option ℕ → KeyAnswer
number_answer key.MaxRecvDataSegmentLength burst offer = declared_own 262144 512 16777215 offer
number_answer key.MaxBurstLength burst offer = smaller 262144 512 16777215 offer
number_answer key.FirstBurstLength burst offer = smaller (min 65536 burst) 512 16777215 offer
number_answer key.MaxOutstandingR2T burst offer = smaller 1 1 65535 offer
number_answer key.MaxConnections burst offer = smaller 1 1 65535 offer
number_answer key.ErrorRecoveryLevel burst offer = smaller 0 0 2 offer
number_answer key.DefaultTime2Wait burst offer = larger 2 0 3600 offer
number_answer key.DefaultTime2Retain burst offer = smaller 0 0 3600 offer
number_answer other burst offer = says.NotUnderstood

-- the answer to a key, by its kind, the target's own value (RFC 7143, 13) and the MaxBurstLength that was agreed on
abbrev pub key_answer : Key → ℕ → List ℕ → KeyAnswer
key_answer key.InitiatorName burst offer = says.Silent
key_answer key.InitiatorAlias burst offer = says.Silent
key_answer key.SessionType burst offer = says.Silent
key_answer key.TargetName burst offer = says.PortalGroup
key_answer key.SendTargets burst offer = says.Reject
key_answer key.AuthMethod burst offer = only_none offer
key_answer key.HeaderDigest burst offer = digest_answer offer
key_answer key.DataDigest burst offer = digest_answer offer
key_answer key.TaskReporting burst offer = task_reporting offer
-- Yes if either side says Yes: the target does for the order of data, and doesn't for R2T (RFC 7143, 13.10)
key_answer key.InitialR2T burst offer = yes_or_no says.Yes says.No offer
key_answer key.DataPDUInOrder burst offer = yes_or_no says.Yes says.Yes offer
key_answer key.DataSequenceInOrder burst offer = yes_or_no says.Yes says.Yes offer
-- Yes if both sides say Yes: the target does for data, and doesn't for markers
key_answer key.ImmediateData burst offer = yes_or_no says.Yes says.No offer
key_answer key.IFMarker burst offer = yes_or_no says.No says.No offer
key_answer key.OFMarker burst offer = yes_or_no says.No says.No offer
key_answer key.Unknown burst offer = says.NotUnderstood
key_answer other burst offer = number_answer other burst (numeral offer)

-- an item
abbrev pub text_item : List ℕ → List ℕ → List ℕ
text_item name val = name ++ (61 ∷ (val ++ 0 ∷ []))

-- the text of an answer to the key of this name
abbrev pub answer_item : List ℕ → KeyAnswer → List ℕ
answer_item name says.Silent = []
answer_item name (says.Number n) = text_item name (decimal n)
answer_item name says.Yes = text_item name (codes "Yes")
answer_item name says.No = text_item name (codes "No")
answer_item name says.NoneOfThem = text_item name (codes "None")
answer_item name says.Crc32c = text_item name (codes "CRC32C")
answer_item name says.Rfc3720 = text_item name (codes "RFC3720")
answer_item name says.Reject = text_item name (codes "Reject")
answer_item name says.NotUnderstood = text_item name (codes "NotUnderstood")
answer_item name says.PortalGroup = text_item (codes "TargetPortalGroupTag") (codes "1")

-- the answer to an item; an empty one has none
abbrev pub item_answer : ℕ → List ℕ → List ℕ
item_answer burst item =
    if length item == 0 then [] else answer_item (item_name item)
    (key_answer (key_named (item_name item)) burst (item_value item))

-- the answers to items, in order
abbrev pub items_answer : ℕ → List (List ℕ) → List ℕ
items_answer burst [] = []
items_answer burst (item ∷ items) = item_answer burst item ++ items_answer burst items

-- the answer to a text, which is split at its zero bytes, where this MaxBurstLength was agreed on
abbrev pub text_answer : ℕ → List ℕ → List ℕ
text_answer burst text = items_answer burst (slice_split (λ b. b == 0) text)

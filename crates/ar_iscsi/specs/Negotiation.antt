-- What the items of a login's text say of the session (RFC 7143, 6 and 13).
use Rattle.std.specs.Prelude.{ℕ, ◌-◌, ◌==◌, nat_le, min, Bool, true, false, not, ◌&&◌, ◌||◌, if◌then◌else◌, List, []}
use Rattle.std.specs.Prelude.{◌∷◌, length, take, slice_get, slice_index, slice_set, replicate, unwrap_or, codes}
use Rattle.std.specs.Prelude.{bytes_eq}
use Rattle.std.specs.Prelude.{Option, Some, None}
use Rattle.std.specs.Char.{is_ascii_digit}
use Rattle.std.specs.List.{slice_split}
use Rattle.ar_iscsi.specs.declared.digest.Digests.{Digests}
use Rattle.ar_iscsi.specs.declared.keys.Key.{Key}
use Rattle.ar_iscsi.specs.declared.keys.Key.TheVariants as key
use Rattle.ar_iscsi.specs.declared.keys.KeyAnswer.{KeyAnswer}
use Rattle.ar_iscsi.specs.declared.keys.KeyAnswer.TheVariants as says
use Rattle.ar_iscsi.specs.declared.negotiation.SessionKind.{SessionKind}
use Rattle.ar_iscsi.specs.declared.negotiation.SessionKind.TheVariants.{Normal, Discovery, Unsupported}
use Rattle.ar_iscsi.specs.declared.negotiation.TargetChoice.{TargetChoice}
use Rattle.ar_iscsi.specs.declared.negotiation.TargetChoice.TheVariants.{Unnamed, Unknown, OfHost}
use Rattle.ar_iscsi.specs.declared.negotiation.Limits.{Limits}
use Rattle.ar_iscsi.specs.declared.negotiation.KeysSeen.{KeysSeen}
use Rattle.ar_iscsi.specs.declared.negotiation.Negotiation.{Negotiation}
use Rattle.ar_iscsi.specs.Digest.{no_digests}
use Rattle.ar_iscsi.specs.Text.{item_name, item_value, key_named, key_answer, numeral}

-- before any text: the default values (RFC 7143, 13)
abbrev pub at_first : Negotiation
at_first = record {
  keys = record { seen = replicate 24 false; is_repeated = false };
  is_named = false;
  kind = Normal;
  target = Unnamed;
  is_refused = false;
  limits = record {
    max_segment = 8192;
    max_burst = 262144;
    first_burst = 65536;
    immediate_data = true;
    initial_r2t = true;
    digests = no_digests;
    host = None;
  };
}

-- the place of a key among those that were seen; the last one is of keys that are unknown
abbrev pub key_place : Key → ℕ
key_place key.InitiatorName = 0
key_place key.InitiatorAlias = 1
key_place key.TargetName = 2
key_place key.SessionType = 3
key_place key.AuthMethod = 4
key_place key.SendTargets = 5
key_place key.HeaderDigest = 6
key_place key.DataDigest = 7
key_place key.MaxRecvDataSegmentLength = 8
key_place key.MaxBurstLength = 9
key_place key.FirstBurstLength = 10
key_place key.InitialR2T = 11
key_place key.ImmediateData = 12
key_place key.DataPDUInOrder = 13
key_place key.DataSequenceInOrder = 14
key_place key.MaxOutstandingR2T = 15
key_place key.MaxConnections = 16
key_place key.ErrorRecoveryLevel = 17
key_place key.DefaultTime2Wait = 18
key_place key.DefaultTime2Retain = 19
key_place key.IFMarker = 20
key_place key.OFMarker = 21
key_place key.TaskReporting = 22
key_place key.Unknown = 23

-- a key that is known has come before
abbrev pub was_seen : KeysSeen → Key → Bool
was_seen keys which = not (key_place which == 23) && unwrap_or (slice_get keys.seen (key_place which)) false

-- the keys after one more: no key comes twice in a login (RFC 7143, 6.3)
abbrev pub keys_after : KeysSeen → Key → KeysSeen
keys_after keys which = record {
  seen = slice_set keys.seen (key_place which) true;
  is_repeated = keys.is_repeated || was_seen keys which;
}

-- the kind of a session (RFC 7143, 13.21)
abbrev pub kind_of : List ℕ → SessionKind
kind_of name =
    if bytes_eq name
    (codes "Normal") then Normal else (if bytes_eq name (codes "Discovery") then Discovery else Unsupported)

-- the names of the targets without their last digit
abbrev pub target_prefix : List ℕ
target_prefix = codes "iqn.2026-11.example.autoraid:host"

-- the target of a name: that of host N is `iqn.2026-11.example.autoraid:hostN`
abbrev pub target_of : List ℕ → TargetChoice
target_of name =
    if not (length name == 34) then Unknown
    else (if bytes_eq (take 33 name) target_prefix && is_ascii_digit (slice_index name 33) then OfHost
    (slice_index name 33 - 48) else Unknown)

-- an answer is Reject
abbrev pub is_reject : KeyAnswer → Bool
is_reject says.Reject = true
is_reject other = false

-- a limit after the answer to its key: an offer that was rejected leaves it
abbrev pub limit_after : ℕ → KeyAnswer → ℕ
limit_after old (says.Number n) = n
limit_after old other = old

-- a declared length of the initiator, if it is one from 512 to 2^24 - 1
abbrev pub segment_after : ℕ → Option ℕ → ℕ
segment_after old None = old
segment_after old (Some n) = if nat_le 512 n && nat_le n 16777215 then n else old

-- ImmediateData or InitialR2T after the answer to it
abbrev pub choice_after : Bool → KeyAnswer → Bool
choice_after old says.Yes = true
choice_after old says.No = false
choice_after old other = old

-- after a MaxBurstLength, FirstBurstLength is brought down to it
abbrev pub with_burst : Limits → ℕ → Limits
with_burst old burst = record old { max_burst = burst; first_burst = min old.first_burst burst }

-- a digest after the answer to its key
abbrev pub digest_after : Bool → KeyAnswer → Bool
digest_after old says.Crc32c = true
digest_after old says.NoneOfThem = false
digest_after old other = old

-- the digests after the answer to one of their keys
abbrev pub digests_after : Digests → Key → KeyAnswer → Digests
digests_after old key.HeaderDigest answer = record { header = digest_after old.header answer; segment = old.segment }
digests_after old key.DataDigest answer = record { header = old.header; segment = digest_after old.segment answer }
digests_after old other answer = old

-- what a session may transfer after an item; FirstBurstLength is at most MaxBurstLength (RFC 7143, 13.14)
abbrev pub limits_after : Limits → Key → List ℕ → Limits
limits_after old key.MaxRecvDataSegmentLength offer =
    record old { max_segment = segment_after old.max_segment (numeral offer) }
limits_after old key.MaxBurstLength offer =
    with_burst old (limit_after old.max_burst (key_answer key.MaxBurstLength old.max_burst offer))
limits_after old key.FirstBurstLength offer =
    record old { first_burst = limit_after old.first_burst (key_answer key.FirstBurstLength old.max_burst offer) }
limits_after old key.ImmediateData offer =
    record old { immediate_data = choice_after old.immediate_data (key_answer key.ImmediateData old.max_burst offer) }
limits_after old key.InitialR2T offer =
    record old { initial_r2t = choice_after old.initial_r2t (key_answer key.InitialR2T old.max_burst offer) }
limits_after old key.HeaderDigest offer =
    record old {
      digests =
          digests_after old.digests key.HeaderDigest (key_answer key.HeaderDigest old.max_burst offer);
    }
limits_after old key.DataDigest offer =
    record old {
      digests =
          digests_after old.digests key.DataDigest (key_answer key.DataDigest old.max_burst offer);
    }
limits_after old other offer = old

-- what is negotiated after an item of this key
abbrev pub after_key : Negotiation → Key → List ℕ → Negotiation
after_key old key.InitiatorName offer = record old { is_named = not (length offer == 0) }
after_key old key.SessionType offer = record old { kind = kind_of offer }
after_key old key.TargetName offer = record old { target = target_of offer }
after_key old key.AuthMethod offer =
    record old { is_refused = is_reject (key_answer key.AuthMethod old.limits.max_burst offer) }
after_key old other offer = record old { limits = limits_after old.limits other offer }

-- the same, with the keys that came
abbrev pub after_seen : Negotiation → Key → Negotiation
after_seen old which = record old { keys = keys_after old.keys which }

-- what is negotiated after an item; an empty one has no key
abbrev pub after_item : Negotiation → List ℕ → Negotiation
after_item old item =
    if length item == 0 then old
    else after_key (after_seen old (key_named (item_name item))) (key_named (item_name item)) (item_value item)

-- what is negotiated after items, in order
abbrev pub after_items : Negotiation → List (List ℕ) → Negotiation
after_items old [] = old
after_items old (item ∷ items) = after_items (after_item old item) items

-- what is negotiated after a text, which is split at its zero bytes
abbrev pub negotiated : Negotiation → List ℕ → Negotiation
negotiated old text = after_items old (slice_split (λ b. b == 0) text)

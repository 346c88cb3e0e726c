-- Discovery: what `SendTargets` is answered (RFC 7143, Appendix C).
use Rattle.std.specs.Prelude.{ℕ, ◌+◌, ◌==◌, nat_lt, Bool, false, ◌||◌, if◌then◌else◌, List, [], ◌∷◌, ◌++◌, length}
use Rattle.std.specs.Prelude.{codes}
use Rattle.std.specs.Prelude.{bytes_eq, Option, Some, None}
use Rattle.std.specs.List.{slice_split}
use Rattle.ar_iscsi.specs.declared.keys.Key.{Key}
use Rattle.ar_iscsi.specs.declared.keys.Key.TheVariants as key
use Rattle.ar_iscsi.specs.declared.negotiation.TargetChoice.{TargetChoice}
use Rattle.ar_iscsi.specs.declared.negotiation.TargetChoice.TheVariants.{Unnamed, Unknown, OfHost}
use Rattle.ar_iscsi.specs.Text.{item_name, item_value, key_named, text_item}
use Rattle.ar_iscsi.specs.Negotiation.{target_of}

-- the name of the target of a host
abbrev pub name_item : ℕ → List ℕ
name_item host = codes "TargetName=iqn.2026-11.example.autoraid:host" ++ ((48 + host) ∷ 0 ∷ [])

-- an address, with the number of its portal group
abbrev pub address_item : List ℕ → List ℕ
address_item address = codes "TargetAddress=" ++ (address ++ (44 ∷ 49 ∷ 0 ∷ []))

-- the target of a host: its name, and its address
abbrev pub one_target : List ℕ → ℕ → List ℕ
one_target address host = name_item host ++ address_item address

-- the targets of all hosts
abbrev pub all_targets : List ℕ → List ℕ
all_targets address = one_target address 0 ++ (one_target address 1 ++ (one_target address 2 ++ one_target address 3))

-- the target of a host, if there is such a host
abbrev pub host_target : List ℕ → ℕ → List ℕ
host_target address host = if nat_lt host 4 then one_target address host else []

-- the target of this choice, if there is one
abbrev pub target_chosen : List ℕ → TargetChoice → List ℕ
target_chosen address Unnamed = []
target_chosen address Unknown = []
target_chosen address (OfHost host) = host_target address host

-- the targets that a value of `SendTargets` asks for in a session for discovery: all, or the one of this name
abbrev pub chosen : List ℕ → List ℕ → List ℕ
chosen address wanted =
    if (length wanted == 0) || bytes_eq wanted (codes "All") then all_targets address else target_chosen address
    (target_of wanted)

-- a name is that of a host's target
abbrev pub is_of_host : TargetChoice → ℕ → Bool
is_of_host Unnamed host = false
is_of_host Unknown host = false
is_of_host (OfHost named) host = named == host

-- the targets that a value of `SendTargets` asks for in a session with the target of a host: that one alone, by its
-- name or by none
abbrev pub own_target : List ℕ → ℕ → List ℕ → List ℕ
own_target address host wanted =
    if (length wanted == 0) || is_of_host (target_of wanted) host then host_target address host else []

-- the answer to `SendTargets` in a session for discovery, or in one with the target of a host, where all targets
-- aren't to be had
abbrev pub send_targets : List ℕ → Option ℕ → List ℕ → List ℕ
send_targets address None item = chosen address (item_value item)
send_targets address (Some host) item =
    if bytes_eq (item_value item) (codes "All") then text_item (item_name item) (codes "Reject")
    else own_target address host (item_value item)

-- the answer to an item of this key
abbrev pub answer_by_key : List ℕ → Option ℕ → Key → List ℕ → List ℕ
answer_by_key address host key.SendTargets item = send_targets address host item
answer_by_key address host other item = text_item (item_name item) (codes "Reject")

-- the answer to an item; an empty one has none
abbrev pub asked_answer : List ℕ → Option ℕ → List ℕ → List ℕ
asked_answer address host item =
    if length item == 0 then [] else answer_by_key address host (key_named (item_name item)) item

-- the answers to items, in order
abbrev pub asked_answers : List ℕ → Option ℕ → List (List ℕ) → List ℕ
asked_answers address host [] = []
asked_answers address host (item ∷ items) = asked_answer address host item ++ asked_answers address host items

-- the answer to a text, which is split at its zero bytes, in a session with the target of a host, or for discovery
abbrev pub targets_answer : List ℕ → Option ℕ → List ℕ → List ℕ
targets_answer address host text = asked_answers address host (slice_split (λ b. b == 0) text)

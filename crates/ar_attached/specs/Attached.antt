-- The iSCSI sessions that are open.
use Rattle.std.specs.Prelude.{ℕ, Bool, true, false, not, ◌==◌, ◌&&◌, bytes_eq, if◌then◌else◌, nat_lt, List, Option}
use Rattle.std.specs.Prelude.{Some}
use Rattle.std.specs.Prelude.{count_by, filter, is_none, take, unwrap_or}
use Rattle.std.specs.List.{insert}
use Rattle.ar_attached.specs.declared.attached.Attached.{Attached}
use Rattle.ar_attached.specs.declared.initiator_name.InitiatorName.{InitiatorName}

-- the text of a name
abbrev pub name_text : InitiatorName → List ℕ
name_text name = take name.count name.bytes

-- both are of one host, as sessions for discovery are not
abbrev pub are_of_one_host : Option ℕ → Option ℕ → Bool
are_of_one_host (Some one) (Some other) = one == other
are_of_one_host one other = false

-- A session takes the place of another: it has its initiator's name, its ISID and its host.
abbrev pub takes_place_of : Attached → Attached → Bool
takes_place_of new old =
    are_of_one_host new.host old.host && (new.isid_high == old.isid_high && (new.isid_low == old.isid_low
    && bytes_eq (name_text new.name) (name_text old.name)))

-- a session once another logs in: ended, if that takes its place
abbrev pub after_login : Attached → Attached → Attached
after_login new old = if takes_place_of new old then record old { is_ended = true } else old

-- a session that an operator means: one of this host, and of this number, if there is one
abbrev pub is_meant : ℕ → Option ℕ → Attached → Bool
is_meant host number session =
    are_of_one_host session.host (Some host) && (session.number == unwrap_or number session.number)

-- a session once an operator ends those that are meant
abbrev pub after_order : ℕ → Option ℕ → Attached → Attached
after_order host number session = if is_meant host number session then record session { is_ended = true } else session

-- how many sessions of a list have lower numbers
abbrev pub numbers_below : ℕ → List Attached → ℕ
numbers_below number list = count_by (λ session. nat_lt session.number number) list

-- the sessions of a list, and one more, after those of lower numbers
abbrev pub attached_with : Attached → List Attached → List Attached
attached_with new list = insert list (numbers_below new.number list) new

-- a session once the one of this number has logged in
abbrev pub after_entry : ℕ → Attached → Attached
after_entry number session = if session.number == number then record session { has_entered = true } else session

-- the sessions but the one of this number
abbrev pub attached_without : ℕ → List Attached → List Attached
attached_without number list = filter (λ session. not (session.number == number)) list

-- how many sessions of a list are for discovery
abbrev pub discoveries : List Attached → ℕ
discoveries list = count_by (λ session. is_none session.host) list

-- The records of a legal history make each unit what the history makes it.
use Rattle.std.proofs.Common.{◌≡◌, ℕ, Bool, true, false, cond, List, [], ◌∷◌, ◌++◌, refl, sym, ap, subst, ◌∙◌}
use Rattle.std.proofs.Common.{append_assoc, append-nil, length, Some}
use Rattle.std.specs.Prelude.{◌==◌, ◌&&◌, slice_get}
use Rattle.std.proofs.lemmas.List.{take_at}
use Rattle.std.proofs.lemmas.Bool.{eqb-true}
use Rattle.ar_scsi.specs.declared.reply.Reply.{Reply}
use Rattle.ar_unit.specs.Unit.{UnitState, Absent, UnitEntry, Cmd as UnitCmd, answer, unit_run}
use Rattle.ar_unit.proofs.Laws.{unit_run-append}
use Rattle.ar_volume.specs.Sectors.{Address, same_address}
use Rattle.ar_served.specs.declared.entry.Entry.{Entry}
use Rattle.ar_served.specs.declared.entry.Entry.TheVariants as entries
use Rattle.ar_served.specs.declared.entry.Exchange.{Exchange}
use Rattle.ar_disks.specs.declared.address.Host.{Host}
use Rattle.ar_served.specs.History.{address_in, unit_entry, entries_at, replay, Fits, IsLegal}
use Rattle.ar_live.proofs.Keeping.{one_at, replay_more}
use Rattle.ar_record.specs.Record.{RecordData, Command}
use Rattle.ar_record.specs.Replay.{own_in, own_of, unit_of, changes_unit}
use Rattle.ar_record.proofs.Replaying.{no_other_changes, own_of-append}
use Rattle.ar_recovery.specs.Logging.{record_of, records_of, IsLogOf, LogSuffices}

both : (p q : Bool) → p && q ≡ true → (p ≡ true) × (q ≡ true)
both true true e = (refl, refl)
both true false e = absurd cc
both false q e = absurd cc

same_is : (a b : Address) → same_address a b ≡ true → a ≡ b
same_is (x, y) (u, v) e =
    let p = both (x == u) (y == v) e in
    ap (λ n. (n, y)) (eqb-true x u p.0) ∙ ap (λ n. (u, n)) (eqb-true y v p.1)

-- the records of a history that is put together
pub records_of-append : (history more : List Entry) → records_of (history ++ more) ≡ records_of history
    ++ records_of more
records_of-append [] more = refl
records_of-append (entry ∷ history) more =
    ap (λ (l : List RecordData). record_of entry ++ l) (records_of-append history more)
    ∙ sym (append_assoc (record_of entry) (records_of history) (records_of more))

-- a command that isn't recorded leaves the unit at an address
unrecorded : (here : Bool) (unit : UnitState) (cdb payload : List ℕ)
    → (here ≡ true → (answer unit cdb payload).state ≡ unit)
    → unit_run unit [] ≡ unit_run unit (cond here (UnitCmd cdb payload ∷ []) [])
unrecorded true unit cdb payload same = sym (same refl)
unrecorded false unit cdb payload same = refl

-- what a command's record is to the unit at an address, by whether it is recorded
command_own : (recorded : Bool) (a : Address) (unit : UnitState) (host : Host) (exchange : Exchange)
    → changes_unit exchange.cdb exchange.reply ≡ recorded
    → (same_address (host.number, exchange.lun) a ≡ true
    → exchange.reply ≡ (answer unit exchange.cdb exchange.payload).reply)
    → unit_run unit (own_of a (cond recorded (Command host.number exchange.lun exchange.cdb exchange.payload ∷ []) []))
    ≡ unit_run unit (one_at a (entries.Cmd host exchange))
command_own true a unit host exchange is fits =
    ap (λ (l : List UnitEntry). unit_run unit l) (append-nil (one_at a (entries.Cmd host exchange)))
command_own false a unit host exchange is fits =
    unrecorded (same_address (host.number, exchange.lun) a) unit exchange.cdb exchange.payload
    (λ here. no_other_changes unit exchange.cdb exchange.payload
    (subst (λ (r : Reply). changes_unit exchange.cdb r ≡ false) (fits here) is))

-- the record of an entry makes of each unit what the entry makes of it
pub record_own : (a : Address) (history : List Entry) (entry : Entry) → Fits (replay history (address_in entry)) entry
    → unit_run (replay history a) (own_of a (record_of entry)) ≡ unit_run (replay history a) (one_at a entry)
record_own a history (entries.Make addr sectors) fits =
    ap (λ (l : List UnitEntry). unit_run (replay history a) l) (append-nil (one_at a (entries.Make addr sectors)))
record_own a history (entries.Grow addr sectors) fits =
    ap (λ (l : List UnitEntry). unit_run (replay history a) l) (append-nil (one_at a (entries.Grow addr sectors)))
record_own a history (entries.Remove addr) fits =
    ap (λ (l : List UnitEntry). unit_run (replay history a) l) (append-nil (one_at a (entries.Remove addr)))
record_own a history (entries.Cmd host exchange) fits =
    command_own (changes_unit exchange.cdb exchange.reply) a (replay history a) host exchange refl
    (λ here. subst (λ (x : Address). exchange.reply ≡ (answer (replay history x) exchange.cdb exchange.payload).reply)
    (same_is (host.number, exchange.lun) a here) fits)
record_own a history (entries.Unmap addr lba count) fits =
    ap (λ (l : List UnitEntry). unit_run (replay history a) l) (append-nil (one_at a (entries.Unmap addr lba count)))

-- the entry after those of a history
entry_at : (before : List Entry) (entry : Entry) (after : List Entry)
    → slice_get (before ++ entry ∷ after) (length before) ≡ Some entry
entry_at [] entry after = refl
entry_at (first ∷ before) entry after = entry_at before entry after

-- it fits what the history has made of its unit
head_fits : (before : List Entry) (entry : Entry) (after : List Entry) → IsLegal (before ++ entry ∷ after)
    → Fits (replay before (address_in entry)) entry
head_fits before entry after legal =
    subst (λ (l : List Entry). Fits (replay l (address_in entry)) entry)
    (take_at before (entry ∷ after) (length before) refl)
    (legal.fits (length before) entry (entry_at before entry after))

-- the entries at an address, the first apart
by_first : (here : Bool) (entry : UnitEntry) (entries : List UnitEntry)
    → cond here (entry ∷ []) [] ++ entries ≡ cond here (entry ∷ entries) entries
by_first true entry entries = refl
by_first false entry entries = refl

one_first : (a : Address) (entry : Entry) (after : List Entry)
    → one_at a entry ++ entries_at a after ≡ entries_at a (entry ∷ after)
one_first a entry after = by_first (same_address (address_in entry) a) (unit_entry entry) (entries_at a after)

-- the same of all entries after those of a history
later_own : (a : Address) (before after : List Entry) → IsLegal (before ++ after)
    → unit_run (replay before a) (own_of a (records_of after)) ≡ unit_run (replay before a) (entries_at a after)
later_own a before [] legal = refl
later_own a before (entry ∷ after) legal =
    let fits : Fits (replay before (address_in entry)) entry = head_fits before entry after legal in
    let regrouped : before ++ entry ∷ after ≡ (before ++ entry ∷ []) ++ after =
    sym (append_assoc before (entry ∷ []) after) in
    let rest = later_own a (before ++ entry ∷ []) after (subst (λ (l : List Entry). IsLegal l) regrouped legal) in
    let next : replay (before ++ entry ∷ []) a ≡ unit_run (replay before a) (one_at a entry) =
    replay_more before entry a in
    ap (λ (l : List UnitEntry). unit_run (replay before a) l) (own_of-append a (record_of entry) (records_of after))
    ∙ unit_run-append (replay before a) (own_of a (record_of entry)) (own_of a (records_of after))
    ∙ ap (λ (u : UnitState). unit_run u (own_of a (records_of after))) (record_own a before entry fits ∙ sym next)
    ∙ rest
    ∙ ap (λ (u : UnitState). unit_run u (entries_at a after)) next
    ∙ sym (unit_run-append (replay before a) (one_at a entry) (entries_at a after))
    ∙ ap (λ (l : List UnitEntry). unit_run (replay before a) l) (one_first a entry after)

pub log_suffices : LogSuffices
log_suffices records history log legal a =
    ap (λ (l : List UnitEntry). unit_run Absent l) (log.own a) ∙ later_own a [] history legal

pub none_logged : IsLogOf [] []
none_logged = record { own = λ a. refl }

-- Records that are executed again make the units that they made.
use Rattle.std.proofs.Common.{◌≡◌, ℕ, true, false, cond, List, [], ◌∷◌, ◌++◌, refl, sym, ap, subst, ◌∙◌, append_assoc}
use Rattle.std.proofs.Common.{append-nil}
use Rattle.ar_disks.specs.declared.address.Addr.{Addr}
use Rattle.ar_unit.specs.Unit.{UnitState, UnitEntry}
use Rattle.ar_volume.specs.Image.{is_broken, image}
use Rattle.ar_volume.specs.Sectors.{Address}
use Rattle.ar_served.specs.declared.entry.Entry.{Entry}
use Rattle.ar_served.specs.declared.entry.Entry.TheVariants as entries
use Rattle.ar_served.specs.Kept.{KeptState, SameLength, HistoryAgrees, exchange_of}
use Rattle.ar_record.specs.declared.record.Record.{Record as Stored}
use Rattle.ar_record.specs.Record.{RecordData, Make, Grow, Remove, Command, Unmap, AddDisk, data_of}
use Rattle.ar_record.specs.Replay.{changes_unit, own_in, own_of, unit_of}
use Rattle.ar_record.proofs.Replaying.{own_of-append}
use Rattle.ar_recovery.specs.Logging.{record_of, records_of, IsLogOf}
use Rattle.ar_recovery.specs.Recovering.{Redoes, RedoesAll, RedoesCommand, IsRecovered}
use Rattle.ar_recovery.proofs.Logging.{records_of-append, log_suffices}

-- the records of a history with more entries
pub own_records-append : (a : Address) (old more : List Entry)
    → own_of a (records_of (old ++ more)) ≡ own_of a (records_of old) ++ own_of a (records_of more)
own_records-append a old more =
    ap (λ (l : List RecordData). own_of a l) (records_of-append old more)
    ∙ own_of-append a (records_of old) (records_of more)

-- one entry more, which has this record
redoes_entry : (old new : List Entry) (entry : Entry) (r : RecordData) → new ≡ old ++ entry ∷ []
    → record_of entry ≡ r ∷ [] → Redoes old r new
redoes_entry old new entry r grown is = record {
  own = λ a.
      ap (λ (l : List Entry). own_of a (records_of l)) grown
      ∙ own_records-append a old (entry ∷ [])
      ∙ ap (λ (l : List RecordData). own_of a (records_of old) ++ own_of a (l ++ [])) is
      ∙ ap (λ (l : List UnitEntry). own_of a (records_of old) ++ l) (append-nil (own_in a r));
}

pub redoes_make : (old new : List Entry) (addr : Addr) (sectors : ℕ) → new ≡ old ++ entries.Make addr sectors ∷ []
    → Redoes old (Make addr.host.number addr.lun sectors) new
redoes_make old new addr sectors grown = redoes_entry old new (entries.Make addr sectors) _ grown refl

pub redoes_grow : (old new : List Entry) (addr : Addr) (sectors : ℕ) → new ≡ old ++ entries.Grow addr sectors ∷ []
    → Redoes old (Grow addr.host.number addr.lun sectors) new
redoes_grow old new addr sectors grown = redoes_entry old new (entries.Grow addr sectors) _ grown refl

pub redoes_remove : (old new : List Entry) (addr : Addr) → new ≡ old ++ entries.Remove addr ∷ []
    → Redoes old (Remove addr.host.number addr.lun) new
redoes_remove old new addr grown = redoes_entry old new (entries.Remove addr) _ grown refl

pub redoes_command : (old new : List Entry) (addr : Addr) (cdb payload : List ℕ)
    → RedoesCommand old addr cdb payload new → Redoes old (Command addr.host.number addr.lun cdb payload) new
redoes_command old new addr cdb payload redone =
    redoes_entry old new (entries.Cmd addr.host (exchange_of addr.lun cdb payload redone.reply)) _ redone.history
    (ap (λ b. cond b (Command addr.host.number addr.lun cdb payload ∷ []) []) redone.changes)

pub redoes_unmap : (old new : List Entry) (addr : Addr) (lba count : ℕ) → new ≡ old ++ entries.Unmap addr lba count ∷ []
    → Redoes old (Unmap addr.host.number addr.lun lba count) new
redoes_unmap old new addr lba count grown = redoes_entry old new (entries.Unmap addr lba count) _ grown refl

-- the same record, as it was passed in
pub redoes_same : (old new : List Entry) (one other : Stored) → one ≡ other → Redoes old (data_of other) new
    → Redoes old (data_of one) new
redoes_same old new one other same redone = subst (λ (r : Stored). Redoes old (data_of r) new) (sym same) redone

-- an added disk has no entry
pub redoes_disk : (old new : List Entry) (extents : ℕ) → new ≡ old → Redoes old (AddDisk extents) new
redoes_disk old new extents same = record {
  own = λ a.
      ap (λ (l : List Entry). own_of a (records_of l)) same ∙ sym (append-nil (own_of a (records_of old)));
}

pub redoes_none : (old : List Entry) → RedoesAll old [] old
redoes_none old = record { own = λ a. sym (append-nil (own_of a (records_of old))) }

-- one record more
pub redoes_more : (old between new : List Entry) (records : List RecordData) (r : RecordData)
    → RedoesAll old records between → Redoes between r new → RedoesAll old (records ++ r ∷ []) new
redoes_more old between new records r before one = record {
  own = λ a.
      one.own a
      ∙ ap (λ (l : List UnitEntry). l ++ own_in a r) (before.own a)
      ∙ append_assoc (own_of a (records_of old)) (own_of a records) (own_in a r)
      ∙ ap (λ (l : List UnitEntry). own_of a (records_of old) ++ (own_of a records ++ l))
      (sym (append-nil (own_in a r)))
      ∙ ap (λ (l : List UnitEntry). own_of a (records_of old) ++ l) (sym (own_of-append a records (r ∷ [])));
}

-- an array whose history began empty is what the records make
pub recovered_is : (records : List RecordData) (k : KeptState) → RedoesAll [] records k.history
    → HistoryAgrees k.array k.history → IsRecovered records k
recovered_is records k redone kept =
    let log : IsLogOf records k.history = record { own = λ a. sym (redone.own a) } in
    record {
      log = log;
      units = λ now a. kept.images now a ∙ sym (log_suffices records k.history log kept.legal a);
      lengths = λ a.
          subst (λ (u : UnitState). SameLength (image k.array a) u)
          (sym (log_suffices records k.history log kept.legal a))
          (kept.lengths a);
    }

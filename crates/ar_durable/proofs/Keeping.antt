-- The records of a store go along with the history.
use Rattle.std.proofs.Common.{◌≡◌, ℕ, Bool, true, false, cond, ◌&&◌, List, [], ◌∷◌, ◌++◌, Option, Some, None, Vec}
use Rattle.std.proofs.Common.{inl, inr, IsTrue, Ok, Err, refl, sym, ◌∙◌, ap, subst, append_assoc, append-nil}
use Rattle.std.specs.declared.alloc.Global.{Global}
use Rattle.ar_disks.specs.declared.address.Addr.{Addr}
use Rattle.ar_disks.specs.declared.address.Host.{Host}
use Rattle.ar_disks.specs.Disk.{DiskState}
use Rattle.ar_scsi.specs.declared.reply.Reply.{Reply}
use Rattle.ar_unit.specs.Unit.{UnitEntry, UnitState, unit_run}
use Rattle.ar_volume.specs.Sectors.{Address}
use Rattle.ar_core.specs.Events.{Outcome}
use Rattle.ar_core.specs.declared.event.EventOf.TheVariants as events
use Rattle.ar_core.specs.declared.event.OutcomeOf.TheVariants as outcomes
use Rattle.ar_log.specs.Codec.{Batch}
use Rattle.ar_log.specs.Log.{HoldsBatches, batches_of}
use Rattle.ar_log.proofs.Standing.{batches_of_stands}
use Rattle.ar_journal.specs.Journal.{IsReady, batches_now}
use Rattle.ar_journal.proofs.Naming.{chosen_named}
use Rattle.ar_served.specs.declared.entry.Entry.{Entry}
use Rattle.ar_served.specs.declared.entry.Entry.TheVariants as entries
use Rattle.ar_served.specs.History.{IsLegal}
use Rattle.ar_served.specs.Kept.{exchange_of, history_entry}
use Rattle.ar_record.specs.Encoding.{encoding_of}
use Rattle.ar_record.specs.Reading.{all_decoded, decoded, with_record}
use Rattle.ar_record.specs.Record.{RecordData, Make, Grow, Remove, Command, AddDisk, IsEncodable}
use Rattle.ar_record.specs.Replay.{changes_unit, own_of, unit_of}
use Rattle.ar_record.proofs.Records.{all_decoded-append, decoded_again}
use Rattle.ar_record.proofs.Replaying.{own_of-append, unit_of-append}
use Rattle.ar_recovery.specs.Logging.{records_of}
use Rattle.ar_recovery.specs.Stored.{AreRecords, MakesUnits}
use Rattle.ar_recovery.proofs.Logging.{log_suffices}
use Rattle.ar_recovery.proofs.Recovering.{own_records-append}
use Rattle.ar_checkpoint.specs.Store.{KeepsStoredUnits, RecordStore, is_given_up, stored_records}
use Rattle.ar_checkpoint.specs.Successor.{log_records}
use Rattle.ar_checkpoint.proofs.Storing.{not_both}
use Rattle.ar_durable.specs.Durable.{EncodesTo, Lasts, NotesIf, is_made, is_grown, is_removed}

module _ {M : Type 0} (seen : M → List ℕ) (may_leave : M → List ℕ → Type 0) (is_clean : M → Bool) where
  -- the records with one more that waits
  stored_more : (old : RecordStore M) (bytes : List ℕ) (r : RecordData) → IsEncodable r → bytes ≡ encoding_of r
      → stored_records seen (record old { waiting = old.waiting ++ bytes ∷ [] })
      ≡ stored_records seen old ++ r ∷ []
  stored_more old bytes r fits is =
      ap (λ (l : List RecordData). log_records (batches_now seen old.journal) ++ l)
      (all_decoded-append old.waiting (bytes ∷ [])
      ∙ ap (λ (o : Option RecordData). all_decoded old.waiting ++ with_record o [])
      (ap decoded is ∙ decoded_again r fits))
      ∙ sym (append_assoc (log_records (batches_now seen old.journal)) (all_decoded old.waiting) (r ∷ []))

  -- A record is noted where it is that of the entries by which the history grows.
  pub noted : (done : Bool) (encoded : Option (Vec ℕ Global)) (r : RecordData) (old new : RecordStore M)
      (history more : List Entry)
      → AreRecords seen is_clean old history → EncodesTo r encoded → NotesIf done encoded old new
      → ((a : Address) → own_of a (cond done (r ∷ []) []) ≡ own_of a (records_of more))
      → AreRecords seen is_clean new (history ++ more)
  noted true None r old new history more before encodes up same = λ going clean.
      absurd (not_both _ (ap (λ (s : RecordStore M). is_given_up s) up) going)
  noted true (Some bytes) r old new history more before encodes waits same =
      elim waits [
        | inl up ↦ λ going clean. absurd (not_both _ (ap (λ (s : RecordStore M). is_given_up s) up) going)
        | inr is ↦ subst (λ (s : RecordStore M). AreRecords seen is_clean s (history ++ more)) (sym is) (λ going clean.
            (let was = before going (record { active = clean.active; other = clean.other }) in
            record {
              full = was.full ++ r ∷ [];
              log = record {
                own = λ a.
                    own_of-append a was.full (r ∷ [])
                    ∙ ap (λ (l : List UnitEntry). l ++ own_of a (r ∷ [])) (was.log.own a)
                    ∙ ap (λ (l : List UnitEntry). own_of a (records_of history) ++ l) (same a)
                    ∙ sym (own_records-append a history more);
              };
              same = λ a.
                  ap (λ (l : List RecordData). unit_of l a) (stored_more old bytes.items r encodes.0 encodes.1)
                  ∙ unit_of-append a (stored_records seen old) (r ∷ [])
                  ∙ ap (λ (u : UnitState). unit_run u (own_of a (r ∷ []))) (was.same a)
                  ∙ sym (unit_of-append a was.full (r ∷ []));
            }))
      ]
  noted false encoded r old new history more before encodes is same =
      subst (λ (s : RecordStore M). AreRecords seen is_clean s (history ++ more)) (sym is) (λ going clean.
      (let was = before going clean in
      record {
        full = was.full;
        log = record {
          own = λ a.
              was.log.own a
              ∙ sym (append-nil (own_of a (records_of history)))
              ∙ ap (λ (l : List UnitEntry). own_of a (records_of history) ++ l) (same a)
              ∙ sym (own_records-append a history more);
        };
        same = was.same;
      }))

  -- after a commit every crash leaves the history's records
  pub lasts : (store : RecordStore M) (history : List Entry) → IsReady seen may_leave is_clean store.journal
      → is_given_up store ≡ false → store.waiting ≡ [] → AreRecords seen is_clean store history → IsLegal history
      → Lasts may_leave is_clean store history
  lasts store history ready going none are legal = λ clean all s active spare named left a.
      let synced = ready.log going all.active in
      let held : HoldsBatches (batches_now seen store.journal) active = synced.durable active left in
      let made : MakesUnits (stored_records seen store) history = are going all in
      ap (λ (file : List ℕ). unit_of (log_records (batches_of file)) a)
      (chosen_named store.journal.is_second s active spare (ready.named going clean s named))
      ∙ ap (λ (batches : List Batch). unit_of (log_records batches) a)
      (batches_of_stands (batches_now seen store.journal) active held)
      ∙ ap (λ (l : List RecordData). unit_of l a) (sym (append-nil (log_records (batches_now seen store.journal))))
      ∙ ap (λ (w : Batch). unit_of (log_records (batches_now seen store.journal) ++ all_decoded w) a) (sym none)
      ∙ made.same a
      ∙ log_suffices made.full history made.log legal a

-- a store that keeps what its records make of each unit has records of the same history
pub records_kept : {M : Type 0} (seen : M → List ℕ) (is_clean : M → Bool) (old new : RecordStore M)
    (history : List Entry)
    → KeepsStoredUnits seen is_clean old new → AreRecords seen is_clean old history
    → AreRecords seen is_clean new history
records_kept seen is_clean old new history keeps are = λ going all.
    (let was = are (keeps.going going) (keeps.clean going all) in
    let log = log_records (batches_now seen old.journal) in
    record {
      full = was.full;
      log = was.log;
      same = λ a.
          unit_of-append a (log_records (batches_now seen new.journal)) (all_decoded new.waiting)
          ∙ ap (λ (u : UnitState). unit_run u (own_of a (all_decoded new.waiting))) (keeps.units going all a)
          ∙ ap (λ (w : Batch). unit_run (unit_of log a) (own_of a (all_decoded w))) keeps.waiting
          ∙ sym (unit_of-append a log (all_decoded old.waiting))
          ∙ was.same a;
    })

-- the record of a command, if it is noted, is that of its entry
pub command_same : (recorded changes : Bool) (a : Address) (host : Host) (lun : ℕ) (cdb payload : List ℕ)
    (reply : Reply)
    → changes_unit cdb reply ≡ changes
    → own_of a (cond (recorded && changes) (Command host.number lun cdb payload ∷ []) [])
    ≡ own_of a (records_of (cond recorded (entries.Cmd host (exchange_of lun cdb payload reply) ∷ []) []))
command_same true true a host lun cdb payload reply is =
    ap (λ (b : Bool). own_of a (cond b (Command host.number lun cdb payload ∷ []) [] ++ [])) (sym is)
command_same true false a host lun cdb payload reply is =
    ap (λ (b : Bool). own_of a (cond b (Command host.number lun cdb payload ∷ []) [] ++ [])) (sym is)
command_same false changes a host lun cdb payload reply is = refl

-- so are those of operations
pub make_same : (a : Address) (addr : Addr) (sectors : ℕ) (outcome : Outcome)
    → own_of a (cond (is_made outcome) (Make addr.host.number addr.lun sectors ∷ []) [])
    ≡ own_of a (records_of (history_entry (events.Make addr sectors) outcome))
make_same a addr sectors (outcomes.Make (Ok done)) = refl
make_same a addr sectors (outcomes.Make (Err refusal)) = refl
make_same a addr sectors (outcomes.Grow result) = refl
make_same a addr sectors (outcomes.Remove result) = refl
make_same a addr sectors (outcomes.Cmd reply) = refl
make_same a addr sectors (outcomes.Unmap reply) = refl
make_same a addr sectors (outcomes.Flush result) = refl
make_same a addr sectors (outcomes.FlushPart result) = refl
make_same a addr sectors (outcomes.Demote result) = refl
make_same a addr sectors (outcomes.Clean result) = refl
make_same a addr sectors (outcomes.Balance result) = refl
make_same a addr sectors (outcomes.AddDisk result) = refl
make_same a addr sectors (outcomes.DiskOut result) = refl
make_same a addr sectors (outcomes.Replace result) = refl
make_same a addr sectors (outcomes.Rebuild result) = refl

pub grow_same : (a : Address) (addr : Addr) (sectors : ℕ) (outcome : Outcome)
    → own_of a (cond (is_grown outcome) (Grow addr.host.number addr.lun sectors ∷ []) [])
    ≡ own_of a (records_of (history_entry (events.Grow addr sectors) outcome))
grow_same a addr sectors (outcomes.Grow (Ok done)) = refl
grow_same a addr sectors (outcomes.Grow (Err refusal)) = refl
grow_same a addr sectors (outcomes.Make result) = refl
grow_same a addr sectors (outcomes.Remove result) = refl
grow_same a addr sectors (outcomes.Cmd reply) = refl
grow_same a addr sectors (outcomes.Unmap reply) = refl
grow_same a addr sectors (outcomes.Flush result) = refl
grow_same a addr sectors (outcomes.FlushPart result) = refl
grow_same a addr sectors (outcomes.Demote result) = refl
grow_same a addr sectors (outcomes.Clean result) = refl
grow_same a addr sectors (outcomes.Balance result) = refl
grow_same a addr sectors (outcomes.AddDisk result) = refl
grow_same a addr sectors (outcomes.DiskOut result) = refl
grow_same a addr sectors (outcomes.Replace result) = refl
grow_same a addr sectors (outcomes.Rebuild result) = refl

pub remove_same : (a : Address) (addr : Addr) (outcome : Outcome)
    → own_of a (cond (is_removed outcome) (Remove addr.host.number addr.lun ∷ []) [])
    ≡ own_of a (records_of (history_entry (events.Remove addr) outcome))
remove_same a addr (outcomes.Remove (Ok done)) = refl
remove_same a addr (outcomes.Remove (Err refusal)) = refl
remove_same a addr (outcomes.Make result) = refl
remove_same a addr (outcomes.Grow result) = refl
remove_same a addr (outcomes.Cmd reply) = refl
remove_same a addr (outcomes.Unmap reply) = refl
remove_same a addr (outcomes.Flush result) = refl
remove_same a addr (outcomes.FlushPart result) = refl
remove_same a addr (outcomes.Demote result) = refl
remove_same a addr (outcomes.Clean result) = refl
remove_same a addr (outcomes.Balance result) = refl
remove_same a addr (outcomes.AddDisk result) = refl
remove_same a addr (outcomes.DiskOut result) = refl
remove_same a addr (outcomes.Replace result) = refl
remove_same a addr (outcomes.Rebuild result) = refl

-- an added disk is no unit's
pub disk_same : (done : Bool) (a : Address) (extents : ℕ) (disk : DiskState) (outcome : Outcome)
    → own_of a (cond done (AddDisk extents ∷ []) [])
    ≡ own_of a (records_of (history_entry (events.AddDisk disk) outcome))
disk_same true a extents disk outcome = refl
disk_same false a extents disk outcome = refl

-- A discard's record is that of its entry in the history.
use Rattle.std.proofs.Common.{◌≡◌, ◌∙◌, ℕ, Bool, true, false, not, cond, ◌&&◌, List, [], ◌∷◌, ◌++◌, refl, sym}
use Rattle.std.proofs.Common.{append-nil}
use Rattle.ar_disks.specs.declared.address.Addr.{Addr}
use Rattle.ar_scsi.specs.declared.reply.Reply.{Reply}
use Rattle.ar_volume.specs.Image.{is_broken}
use Rattle.ar_volume.specs.Sectors.{Address}
use Rattle.ar_core.specs.Step.{is_busy}
use Rattle.ar_served.specs.declared.entry.Entry.{Entry}
use Rattle.ar_served.specs.declared.entry.Entry.TheVariants as entries
use Rattle.ar_served.specs.Kept.{KeptState}
use Rattle.ar_served.specs.Served.{DiscardsSectors}
use Rattle.ar_served.specs.Serving.{is_recorded}
use Rattle.ar_record.specs.Record.{Unmap}
use Rattle.ar_record.specs.Replay.{own_of}
use Rattle.ar_recovery.specs.Logging.{records_of}

-- the history grows by the entry unless the array has failed or was full
grown_by :
    (busy broken : Bool) (was now : List Entry) (entry : Entry) → (busy ≡ true → now ≡ was)
    → (busy ≡ false → now ≡ was ++ cond broken [] (entry ∷ []))
    → now ≡ was ++ cond (not broken && not busy) (entry ∷ []) []
grown_by true true was now entry unbegun done = unbegun refl ∙ sym (append-nil was)
grown_by true false was now entry unbegun done = unbegun refl ∙ sym (append-nil was)
grown_by false true was now entry unbegun done = done refl
grown_by false false was now entry unbegun done = done refl

pub discard_grows :
    (old new : KeptState) (addr : Addr) (lba count : ℕ) (reply : Reply) → DiscardsSectors old addr lba count reply new
    → new.history ≡ old.history ++ cond (is_recorded new.array reply) (entries.Unmap addr lba count ∷ []) []
discard_grows old new addr lba count reply discards =
    grown_by (is_busy reply.status) (is_broken new.array) old.history new.history (entries.Unmap addr lba count)
    (λ busy. (discards.unbegun busy).history) (λ done. (discards.serves done).history)

-- the record, if it is noted, is that of the entry
pub unmap_same :
    (recorded : Bool) (a : Address) (addr : Addr) (lba count : ℕ)
    → own_of a (cond recorded (Unmap addr.host.number addr.lun lba count ∷ []) [])
    ≡ own_of a (records_of (cond recorded (entries.Unmap addr lba count ∷ []) []))
unmap_same true a addr lba count = refl
unmap_same false a addr lba count = refl

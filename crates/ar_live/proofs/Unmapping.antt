-- The reply to a discard by a live array is never BUSY.
use Rattle.std.proofs.Common.{◌≡◌, ◌≢◌, ℕ, Bool, true, false, cond, List, refl, sym, subst}
use Rattle.ar_disks.specs.declared.address.Addr.{Addr}
use Rattle.ar_scsi.specs.declared.reply.Reply.{Reply}
use Rattle.ar_scsi.specs.declared.reply.Status.{Status}
use Rattle.ar_scsi.specs.declared.reply.Status.TheVariants.{Good, CheckCondition, Busy}
use Rattle.ar_scsi.specs.Reply.{check}
use Rattle.ar_scsi.specs.Sense.{internal_target_failure}
use Rattle.ar_unit.specs.Broken.{is_good, unmap_where_broken}
use Rattle.ar_unit.specs.Unit.{UnitState, unmap_answer}
use Rattle.ar_unit.proofs.Laws.{unmap-not_busy}
use Rattle.ar_volume.specs.Image.{ArrayState, is_broken}
use Rattle.ar_volume.specs.Sectors.{address_of}
use Rattle.ar_core.specs.Step.{is_busy}
use Rattle.ar_served.specs.declared.entry.Entry.{Entry}
use Rattle.ar_served.specs.History.{replay}
use Rattle.ar_served.specs.Kept.{replayed_unit}
use Rattle.ar_served.specs.Serving.{ServesUnmap}

-- a status that isn't BUSY
isnt_busy : (status : Status) → status ≢ Busy → is_busy status ≡ false
isnt_busy Good other = refl
isnt_busy CheckCondition other = refl
isnt_busy Busy other = absurd (other refl)

-- what a failed array makes of a reply
kept_from_busy :
    (reply : Reply) (good : Bool) → is_busy reply.status ≡ false
    → is_busy (cond good (check internal_target_failure) reply).status ≡ false
kept_from_busy reply true other = refl
kept_from_busy reply false other = other

-- of a unit
unit_not_busy : (state : UnitState) (lba count : ℕ) → is_busy (unmap_answer state lba count).reply.status ≡ false
unit_not_busy state lba count =
    isnt_busy (unmap_answer state lba count).reply.status (unmap-not_busy state lba count)

-- by whether the array has failed
not_busy_by :
    (broken : Bool) (old : ArrayState) (was : List Entry) (addr : Addr) (lba count : ℕ) (reply : Reply)
    (new : ArrayState) (now : List Entry)
    → is_broken new ≡ broken → ServesUnmap old was addr lba count reply new now → is_busy reply.status ≡ false
not_busy_by false old was addr lba count reply new now is served =
    subst (λ (r : Reply). is_busy r.status ≡ false) (sym (served.reply_is is))
    (unit_not_busy (replay was (address_of addr)) lba count)
not_busy_by true old was addr lba count reply new now is served =
    let unit : UnitState = replayed_unit old was (address_of addr) in
    let own : Reply = (unmap_answer unit lba count).reply in
    subst (λ (r : Reply). is_busy r.status ≡ false) (sym (served.broken is))
    (kept_from_busy own (is_good own.status) (unit_not_busy unit lba count))

pub unmap_not_busy :
    (old : ArrayState) (was : List Entry) (addr : Addr) (lba count : ℕ) (reply : Reply) (new : ArrayState)
    (now : List Entry)
    → ServesUnmap old was addr lba count reply new now → is_busy reply.status ≡ false
unmap_not_busy old was addr lba count reply new now served =
    not_busy_by (is_broken new) old was addr lba count reply new now refl served

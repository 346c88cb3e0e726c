-- The reply to a discard is one that a frame can carry, and may be settled twice.
use Rattle.std.proofs.Common.{◌≡◌, ◌∙◌, ℕ, Bool, true, false, cond, List, refl, sym, subst, arith}
use Rattle.ar_disks.specs.declared.address.Addr.{Addr}
use Rattle.ar_scsi.specs.declared.reply.Reply.{Reply}
use Rattle.ar_scsi.specs.Reply.{check}
use Rattle.ar_scsi.specs.Sense.{internal_target_failure}
use Rattle.ar_unit.specs.Broken.{is_good}
use Rattle.ar_unit.specs.Unit.{UnitState, Absent, Present, unmap_answer}
use Rattle.ar_unit.proofs.Laws.{each_unmapped}
use Rattle.ar_volume.specs.Image.{ArrayState, is_broken}
use Rattle.ar_volume.specs.Sectors.{address_of}
use Rattle.ar_core.specs.Step.{is_busy}
use Rattle.ar_served.specs.declared.entry.Entry.{Entry}
use Rattle.ar_served.specs.History.{replay}
use Rattle.ar_served.specs.Kept.{KeptState, replayed_unit}
use Rattle.ar_served.specs.Served.{DiscardsSectors, acknowledges}
use Rattle.ar_served.specs.Serving.{ServesUnmap}
use Rattle.ar_frames.specs.Frame.{IsReply}
use Rattle.ar_sessions.specs.Port.{SettlesReply}
use Rattle.ar_sessions.specs.Discarding.{DiscardedAtOneMoment}
use Rattle.ar_sessions.proofs.Asking.{both, settles_twice}

-- of a unit
unit_reply : (state : UnitState) (lba count : ℕ) → IsReply (unmap_answer state lba count).reply
unit_reply Absent lba count = (refl, refl)
unit_reply (Present sectors attention) lba count =
    each_unmapped (λ a. IsReply a.reply) sectors attention lba count (refl, refl) (refl, refl)
    (λ _. (refl, omega arith))

-- of a failed array in its place
in_place : (reply : Reply) (good : Bool) → IsReply reply
    → IsReply (cond good (check internal_target_failure) reply)
in_place reply true is = (refl, refl)
in_place reply false is = is

served_by :
    (broken : Bool) (old : ArrayState) (was : List Entry) (addr : Addr) (lba count : ℕ) (reply : Reply)
    (new : ArrayState) (now : List Entry)
    → is_broken new ≡ broken → ServesUnmap old was addr lba count reply new now → IsReply reply
served_by false old was addr lba count reply new now is served =
    subst IsReply (sym (served.reply_is is)) (unit_reply (replay was (address_of addr)) lba count)
served_by true old was addr lba count reply new now is served =
    let unit : UnitState = replayed_unit old was (address_of addr) in
    let own : Reply = (unmap_answer unit lba count).reply in
    subst IsReply (sym (served.broken is)) (in_place own (is_good own.status) (unit_reply unit lba count))

reply_by :
    (busy : Bool) (old new : KeptState) (addr : Addr) (lba count : ℕ) (reply : Reply) → is_busy reply.status ≡ busy
    → DiscardsSectors old addr lba count reply new → IsReply reply
reply_by true old new addr lba count reply is discards =
    subst IsReply (sym (discards.unbegun is).reply_is) (refl, refl)
reply_by false old new addr lba count reply is discards =
    served_by (is_broken new.array) old.array old.history addr lba count reply new.array new.history refl
    (discards.serves is)

pub discard_reply :
    (old new : KeptState) (addr : Addr) (lba count : ℕ) (reply : Reply) → DiscardsSectors old addr lba count reply new
    → IsReply reply
discard_reply old new addr lba count reply discards =
    reply_by (is_busy reply.status) old new addr lba count reply refl discards

-- what acknowledges a WRITE is GOOD
pub settled_as_good : (persists : Bool) (cdb : List ℕ) (own reply : Reply)
    → SettlesReply persists (acknowledges cdb own) own reply → SettlesReply persists (is_good own.status) own reply
settled_as_good persists cdb own reply settled = record {
  lasts = settled.lasts;
  reply_is = settled.reply_is;
  failed = λ e. let failed = settled.failed e in (failed.0, (both _ _ failed.1).0);
}

-- so a discard whose reply was settled again is as one that was settled once
pub discarded_settled : (persists : Bool) (addr : Addr) (lba count : ℕ) (cdb : List ℕ) (first second : Reply)
    → DiscardedAtOneMoment persists addr lba count first
    → SettlesReply persists (acknowledges cdb first) first second
    → DiscardedAtOneMoment persists addr lba count second
discarded_settled persists addr lba count cdb first second discarded settled =
    let discards = discarded.discards in
    record {
      old = discarded.old;
      new = discarded.new;
      discards = record {
        own = discards.own;
        discards = discards.discards;
        settles = settles_twice persists (λ r. is_good r.status) discards.own first second discards.settles
            (settled_as_good persists cdb first second settled);
      };
    }

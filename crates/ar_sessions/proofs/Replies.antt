-- A reply to a host's command is one that a frame can carry.
use Rattle.std.proofs.Common.{◌≡◌, ◌≢◌, ◌<◌, ◌≤◌, ◌+◌, ◌*◌, ◌^◌, ℕ, Bool, true, false, eqb, ◌&&◌, not, List, [], ◌∷◌}
use Rattle.std.proofs.Common.{length, take, drop, slice_index, Option, Some, None, Result, Ok, Err, refl, sym, ap}
use Rattle.std.proofs.Common.{subst, ◌∙◌, inl, inr, arith, length-take}
use Rattle.std.specs.Prelude.{All, ◌⊎◌}
use Rattle.std.proofs.lemmas.Bool.{cond_both, leb-true}
use Rattle.std.proofs.lemmas.List.{get_or-drop}
use Rattle.std.proofs.lemmas.List.Elements.{All-take, All-drop}
use Rattle.byteorder.specs.Endian.{big_number}
use Rattle.byteorder.specs.Numbers.{big_from-lt}
use Rattle.ar_scsi.specs.declared.command.Command.{Command}
use Rattle.ar_scsi.specs.declared.command.Command.TheVariants.{TestReady, Inquiry, Capacity, Read, Write}
use Rattle.ar_scsi.specs.declared.reply.Reply.{Reply}
use Rattle.ar_scsi.specs.declared.reply.Status.{Status}
use Rattle.ar_scsi.specs.declared.reply.Status.TheVariants.{Good, CheckCondition, Busy}
use Rattle.ar_scsi.specs.declared.sense.Sense.{Sense}
use Rattle.ar_scsi.specs.Data.{inquiry_data}
use Rattle.ar_scsi.specs.Field.{number, operation_code, allocation_length, transfer_length_10, transfer_length_16}
use Rattle.ar_scsi.specs.Field.{logical_block_address_10, logical_block_address_16, fua}
use Rattle.ar_scsi.specs.Reading.{reading, where_valid, test_unit_ready_valid, inquiry_valid, read_capacity_10_valid}
use Rattle.ar_scsi.specs.Reading.{transfer_10_valid, transfer_16_valid}
use Rattle.ar_scsi.specs.Reply.{good, check}
use Rattle.ar_scsi.specs.Sense.{logical_unit_not_supported, logical_block_address_out_of_range, internal_target_failure}
use Rattle.ar_unit.specs.Sectors.{Sector, joined}
use Rattle.ar_unit.specs.Unit.{UnitState, Absent, Present, Answered, UnitEntry, IsWhole, IsGiven, answer, obeyed}
use Rattle.ar_unit.specs.Unit.{unit_run, after, is_past_end, absent_reply}
use Rattle.ar_unit.specs.Broken.{needs_blocks, is_good, where_broken}
use Rattle.ar_unit.proofs.Laws.{after-whole}
use Rattle.ar_unit.proofs.Pieces.{length-concat}
use Rattle.ar_volume.specs.Sectors.{Address}
use Rattle.ar_disks.specs.declared.address.Host.{Host}
use Rattle.ar_core.specs.Step.{is_busy}
use Rattle.ar_volume.specs.Image.{ArrayState, is_broken}
use Rattle.ar_served.specs.declared.entry.Entry.{Entry}
use Rattle.ar_served.specs.History.{replay, entries_at}
use Rattle.ar_served.specs.Kept.{replayed_unit, with_attention}
use Rattle.ar_served.specs.Serving.{ServesCommand, is_recorded}
use Rattle.ar_frames.specs.Frame.{IsReply}
use Rattle.ar_sessions.proofs.Asking.{both}

-- each is a byte
abbrev pub AreBytes : List ℕ → Type 0
AreBytes cdb = (k : ℕ) → slice_index cdb k < 256

-- how many sectors a READ returns
abbrev count_in : Result Command Sense → ℕ
count_in (Ok (Read lba count)) = count
count_in (Ok TestReady) = 0
count_in (Ok (Inquiry len)) = 0
count_in (Ok Capacity) = 0
count_in (Ok (Write lba count fua)) = 0
count_in (Err sense) = 0

few_valid : (valid : Bool) (command : Command) → (valid ≡ true → count_in (Ok command) ≤ 65535)
    → count_in (where_valid valid command) ≤ 65535
few_valid true command few = few refl
few_valid false command few = omega arith

few_10 : (cdb : List ℕ) → AreBytes cdb → transfer_length_10 cdb ≤ 65535
unfolding number
few_10 cdb bytes =
    let below : big_number 2 (drop 7 cdb) < 256 ^ 2 =
    big_from-lt 0 2 (drop 7 cdb) (λ k. subst (λ (n : ℕ). n < 256) (sym (get_or-drop 7 cdb k 0)) (bytes (7 + k))) in
    omega (arith, below)

few_16 : (cdb : List ℕ) → transfer_16_valid cdb ≡ true → transfer_length_16 cdb ≤ 65535
few_16 cdb valid =
    leb-true (transfer_length_16 cdb) 65535 (both _ _ (both _ _ valid).1).1

-- a READ returns at most 65,535 sectors
few_read : (cdb : List ℕ) → AreBytes cdb → count_in (reading cdb) ≤ 65535
unfolding reading
few_read cdb bytes =
    let F : Result Command Sense → Type 0 = λ r. count_in r ≤ 65535 in
    cond_both (eqb (operation_code cdb) 0x00) _ _ F
    (λ _. few_valid (test_unit_ready_valid cdb) TestReady (λ _. omega arith)) (λ _.
    cond_both (eqb (operation_code cdb) 0x12) _ _ F
    (λ _. few_valid (inquiry_valid cdb) (Inquiry (allocation_length cdb)) (λ _. omega arith)) (λ _.
    cond_both (eqb (operation_code cdb) 0x25) _ _ F
    (λ _. few_valid (read_capacity_10_valid cdb) Capacity (λ _. omega arith)) (λ _.
    cond_both (eqb (operation_code cdb) 0x28) _ _ F
    (λ _. few_valid (transfer_10_valid cdb) (Read (logical_block_address_10 cdb) (transfer_length_10 cdb))
    (λ _. few_10 cdb bytes)) (λ _.
    cond_both (eqb (operation_code cdb) 0x2A) _ _ F
    (λ _. few_valid (transfer_10_valid cdb)
    (Write (logical_block_address_10 cdb) (transfer_length_10 cdb) (eqb (fua cdb) 1)) (λ _. omega arith)) (λ _.
    cond_both (eqb (operation_code cdb) 0x88) _ _ F
    (λ _. few_valid (transfer_16_valid cdb) (Read (logical_block_address_16 cdb) (transfer_length_16 cdb))
    (λ valid. few_16 cdb valid)) (λ _.
    cond_both (eqb (operation_code cdb) 0x8A) _ _ F
    (λ _. few_valid (transfer_16_valid cdb)
    (Write (logical_block_address_16 cdb) (transfer_length_16 cdb) (eqb (fua cdb) 1)) (λ _. omega arith))
    (λ _. omega arith)))))))

-- whole sectors, joined
joined_len : (sectors : List Sector) → All (λ sector. length sector ≡ 512) sectors
    → length (joined sectors) ≡ 512 * length sectors
joined_len sectors whole = sym (length-concat 512 sectors [] (λ i within. whole i [] within))

obeyed_reply : (sectors : List Sector) (attention : Bool) (r : Result Command Sense) (bytes : List ℕ)
    → All (λ sector. length sector ≡ 512) sectors → count_in r ≤ 65535
    → IsReply (obeyed sectors attention r bytes).reply
unfolding obeyed
obeyed_reply sectors attention (Err sense) bytes whole few = (refl, refl)
obeyed_reply sectors attention (Ok TestReady) bytes whole few = (refl, omega arith)
obeyed_reply sectors attention (Ok (Inquiry len)) bytes whole few = (
  refl,
  (let cut : length (take len (inquiry_data true))
      ≤ 36 = simp length-take (omega arith) in omega (arith, cut)),
)
obeyed_reply sectors attention (Ok Capacity) bytes whole few = (refl, omega arith)
obeyed_reply sectors attention (Ok (Read lba count)) bytes whole few =
    cond_both (is_past_end (length sectors) lba count) (check logical_block_address_out_of_range)
    (good (joined (take count (drop lba sectors)))) IsReply
    (λ _. (refl, refl))
    (λ _.
    (let W : Sector → Type 0 = λ sector. length sector ≡ 512 in
    let len = joined_len (take count (drop lba sectors))
    (All-take W count (drop lba sectors) (All-drop W lba sectors whole)) in
    let cut : length (take count (drop lba sectors)) ≤ count = simp length-take (omega arith) in
    (refl, omega (arith, len, cut, few))))
obeyed_reply sectors attention (Ok (Write lba count fua)) bytes whole few =
    cond_both (is_past_end (length sectors) lba count) _ _ (λ (a : Answered). IsReply a.reply) (λ _. (refl, refl)) (λ _.
    cond_both (not (eqb (length bytes) (count * 512))) _ _ (λ (a : Answered). IsReply a.reply) (λ _. (refl, refl))
    (λ _. (refl, omega arith)))

absent_is : (cdb : List ℕ) → IsReply (absent_reply cdb)
absent_is cdb =
    cond_both (eqb (operation_code cdb) 0x12) (good (take (allocation_length cdb) (inquiry_data false)))
    (check logical_unit_not_supported) IsReply
    (λ _. (
      refl,
      (let cut : length (take (allocation_length cdb) (inquiry_data false))
          ≤ 36 = simp length-take (omega arith) in omega (arith, cut)),
    ))
    (λ _. (refl, refl))

-- the reply that a unit gives
answer_reply : (state : UnitState) (cdb bytes : List ℕ) → IsWhole state → AreBytes cdb
    → IsReply (answer state cdb bytes).reply
unfolding answer
answer_reply Absent cdb bytes whole are = absent_is cdb
answer_reply (Present sectors true) cdb bytes whole are =
    cond_both (eqb (operation_code cdb) 0x12) _ _ (λ (a : Answered). IsReply a.reply)
    (λ _. obeyed_reply sectors true (reading cdb) bytes whole (few_read cdb are)) (λ _. (refl, refl))
answer_reply (Present sectors false) cdb bytes whole are =
    obeyed_reply sectors false (reading cdb) bytes whole (few_read cdb are)

-- what a history makes of a unit is whole
run_whole : (state : UnitState) (entries : List UnitEntry) → IsWhole state → IsWhole (unit_run state entries)
run_whole state [] whole = whole
run_whole state (entry ∷ entries) whole = run_whole (after state entry) entries (after-whole state entry whole)

marked_whole : (mark : Bool) (state : UnitState) → IsWhole state → IsWhole (with_attention mark state)
marked_whole mark Absent whole = whole
marked_whole mark (Present sectors attention) whole = whole

-- the reply of a broken array, and one that is BUSY in its place
lost_reply : (cdb : List ℕ) (table : Reply) → IsReply table → IsReply (where_broken cdb table)
lost_reply cdb table is =
    cond_both (is_good table.status && needs_blocks (reading cdb)) (check internal_target_failure) table IsReply
    (λ _. (refl, refl)) (λ _. is)

busy_or_not : (status : Status) → (status ≡ Busy) ⊎ (status ≢ Busy)
busy_or_not Busy = inl refl
busy_or_not Good = inr (λ same. absurd (cc))
busy_or_not CheckCondition = inr (λ same. absurd (cc))

given_reply : (table reply : Reply) → IsGiven table reply → IsReply table → IsReply reply
given_reply table reply given is =
    elim (busy_or_not reply.status) [
      | inl same ↦ subst IsReply (sym (given.refused same)) (refl, refl)
      | inr other ↦ subst IsReply (sym (given.answered other)) is
    ]

-- the reply to a command to a served array
pub served_reply : (old new : ArrayState) (host : Host) (lun : ℕ) (cdb payload : List ℕ) (reply : Reply)
    (was now : List Entry) → AreBytes cdb
    → ServesCommand old was host lun cdb payload reply new now → IsReply reply
served_reply old new host lun cdb payload reply was now are serves = by (is_broken new) (is_busy reply.status) refl refl
  where
    a : Address
    a = (host.number, lun)

    whole : IsWhole (replay was a)
    whole = run_whole Absent (entries_at a was) tt

    by : (lost quiet : Bool) → is_broken new ≡ lost → is_busy reply.status ≡ quiet → IsReply reply
    by true quiet lost is =
        given_reply (where_broken cdb (answer (replayed_unit old was a) cdb payload).reply) reply (serves.broken lost)
        (lost_reply cdb (answer (replayed_unit old was a) cdb payload).reply
        (answer_reply (replayed_unit old was a) cdb payload (marked_whole _ (replay was a) whole) are))
    by false true sound is = subst IsReply (sym (serves.busy_is sound is)) (refl, refl)
    by false false sound is =
        let recorded : is_recorded new reply ≡ true =
        ap (λ (b : Bool). not b && not (is_busy reply.status)) sound ∙ ap (λ (b : Bool). not false && not b) is in
        subst IsReply (sym (serves.reply_is recorded)) (answer_reply (replay was a) cdb payload whole are)

-- Laws of what a unit is.
use Rattle.std.proofs.Common.{◌≡◌, ◌≢◌, ◌≤◌, ◌+◌, ◌-◌, ◌*◌, ℕ, zero, suc, Bool, true, false, cond, eqb, ◌&&◌, not, List}
use Rattle.std.proofs.Common.{[], ◌∷◌, ◌++◌, length, take, drop, Result, Ok, Err, refl, sym, ap, ◌∙◌, arith}
use Rattle.std.proofs.Common.{length-append, length-take, length-drop}
use Rattle.std.specs.Prelude.{All, replicate}
use Rattle.std.proofs.Math.ListN.{length-replicate}
use Rattle.std.proofs.Math.Nat.{suc-mul}
use Rattle.std.proofs.lemmas.Bool.{true≢false, cond_both, ltb-false, eqb-true, not-false}
use Rattle.std.proofs.lemmas.Bool.Decides.{nat_tests}
use Rattle.std.proofs.lemmas.List.{take-replicate, drop-replicate}
use Rattle.std.proofs.lemmas.List.Elements.{All-append, All-nil, All-cons, All-take, All-drop, All-replicate}
use Rattle.ar_scsi.specs.declared.command.Command.{Command}
use Rattle.ar_scsi.specs.declared.command.Command.TheVariants.{TestReady, Inquiry, Capacity, Read, Write}
use Rattle.ar_scsi.specs.declared.reply.Reply.{Reply}
use Rattle.ar_scsi.specs.declared.reply.Status.TheVariants.{Busy}
use Rattle.ar_scsi.specs.declared.sense.Sense.{Sense}
use Rattle.ar_scsi.specs.Data.{inquiry_data}
use Rattle.ar_scsi.specs.Field.{operation_code, allocation_length}
use Rattle.ar_scsi.specs.Reading.{reading, inquiry_valid}
use Rattle.ar_scsi.specs.Reply.{good, check}
use Rattle.ar_scsi.specs.Sense.{logical_unit_not_supported, capacity_data_has_changed}
use Rattle.ar_scsi.specs.Sense.{logical_block_address_out_of_range, internal_target_failure, invalid_field_in_cdb}
use Rattle.ar_scsi.specs.Sense.{data_phase_error}
use Rattle.ar_unit.specs.Broken.{Shape, shape_of, shape_after, needs_blocks, is_good, where_broken, broken_obeyed}
use Rattle.ar_unit.specs.Broken.{broken_answer, broken_unmap, unmap_where_broken}
use Rattle.ar_unit.specs.Sectors.{Sector, zero_sector, zero_sectors, joined, cut, written, zeroed}
use Rattle.ar_unit.specs.Unit.{UnitState, Absent, Present, Answered, leaving, write_answer, obeyed, answer, is_past_end}
use Rattle.ar_unit.specs.Unit.{IsWhole, TakesNoMemory, UnitEntry, Make, Grow, Remove, Cmd, Unmap, after, unit_run}
use Rattle.ar_unit.specs.Unit.{unmap_obeyed, unmap_answer}

-- a run over a list that is put together goes on where its first part ends
pub unit_run-append : (state : UnitState) (first later : List UnitEntry)
    → unit_run state (first ++ later) ≡ unit_run (unit_run state first) later
unit_run-append state [] later = refl
unit_run-append state (entry ∷ first) later = unit_run-append (after state entry) first later

-- What is known of a reply and the state after it, where each line of the table has it.
module _ (P : Answered → Type 0) (sectors : List Sector) (attention : Bool) where
  -- from the command block on
  pub each_obeyed :
      (r : Result Command Sense) (bytes : List ℕ)
      → ((sense : Sense) → P (record { reply = check sense; state = Present sectors attention }))
      → ((payload : List ℕ) → P (record { reply = good payload; state = Present sectors attention }))
      → ((lba count : ℕ) → lba + count ≤ length sectors → length bytes ≡ count * 512
      → P (record { reply = good []; state = Present (written sectors lba count bytes) attention }))
      → P (obeyed sectors attention r bytes)
  unfolding obeyed
  each_obeyed (Err sense) bytes checks goods writes = checks sense
  each_obeyed (Ok TestReady) bytes checks goods writes = goods _
  each_obeyed (Ok (Inquiry len)) bytes checks goods writes = goods _
  each_obeyed (Ok Capacity) bytes checks goods writes = goods _
  each_obeyed (Ok (Read lba count)) bytes checks goods writes =
      cond_both (is_past_end (length sectors) lba count) (check logical_block_address_out_of_range)
      (good (joined (take count (drop lba sectors))))
      (λ reply. P (record { reply = reply; state = Present sectors attention }))
      (λ _. checks logical_block_address_out_of_range) (λ _. goods _)
  each_obeyed (Ok (Write lba count fua)) bytes checks goods writes =
      cond_both _ _ _ P (λ _. checks logical_block_address_out_of_range) (λ within.
      cond_both _ _ _ P (λ _. checks data_phase_error) (λ sent.
      writes lba count (ltb-false _ _ within) (eqb-true _ _ (not-false _ sent))))

-- on the whole table, at a unit that is there
pub each_present :
    (P : Answered → Type 0) (sectors : List Sector) (attention : Bool) (cdb bytes : List ℕ)
    → ((sense : Sense) → P (record { reply = check sense; state = Present sectors attention }))
    → ((payload : List ℕ) → P (record { reply = good payload; state = Present sectors attention }))
    → ((lba count : ℕ) → lba + count ≤ length sectors → length bytes ≡ count * 512
    → P (record { reply = good []; state = Present (written sectors lba count bytes) attention }))
    → (attention ≡ true → eqb (operation_code cdb) 0x12 ≡ false
    → P (record { reply = check capacity_data_has_changed; state = Present sectors false }))
    → P (answer (Present sectors attention) cdb bytes)
unfolding answer
each_present P sectors true cdb bytes checks goods writes tells =
    cond_both _ _ _ P (λ _. each_obeyed P sectors true (reading cdb) bytes checks goods writes) (λ e. tells refl e)
each_present P sectors false cdb bytes checks goods writes tells =
    each_obeyed P sectors false (reading cdb) bytes checks goods writes

-- where no unit is
pub each_absent :
    (P : Answered → Type 0) (cdb bytes : List ℕ)
    → ((sense : Sense) → P (record { reply = check sense; state = Absent }))
    → ((payload : List ℕ) → P (record { reply = good payload; state = Absent }))
    → P (answer Absent cdb bytes)
unfolding answer
each_absent P cdb bytes checks goods =
    cond_both (eqb (operation_code cdb) 0x12) (good (take (allocation_length cdb) (inquiry_data false)))
    (check logical_unit_not_supported)
    (λ reply. P (record { reply = reply; state = Absent })) (λ _. goods _) (λ _. checks logical_unit_not_supported)

-- nor is a reply from the command block on
pub obeyed-not_busy :
    (sectors : List Sector) (attention : Bool) (r : Result Command Sense) (bytes : List ℕ)
    → (obeyed sectors attention r bytes).reply.status ≢ Busy
obeyed-not_busy sectors attention r bytes =
    each_obeyed (λ a. a.reply.status ≢ Busy) sectors attention r bytes (λ _ e. cc) (λ _ e. cc) (λ _ _ _ _ e. cc)

-- no reply of the table is BUSY
pub answer-not_busy : (state : UnitState) (cdb bytes : List ℕ) → (answer state cdb bytes).reply.status ≢ Busy
answer-not_busy Absent cdb bytes = each_absent (λ a. a.reply.status ≢ Busy) cdb bytes (λ _ e. cc) (λ _ e. cc)
answer-not_busy (Present sectors attention) cdb bytes =
    each_present (λ a. a.reply.status ≢ Busy) sectors attention cdb bytes (λ _ e. cc) (λ _ e. cc) (λ _ _ _ _ e. cc)
    (λ _ _ e. cc)

-- a command whose reply has bytes leaves the unit as it was
pub answer-with_bytes :
    (state : UnitState) (cdb bytes : List ℕ) → (answer state cdb bytes).reply.payload ≢ []
    → (answer state cdb bytes).state ≡ state
answer-with_bytes Absent cdb bytes =
    each_absent (λ a. a.reply.payload ≢ [] → a.state ≡ Absent) cdb bytes (λ _ _. refl) (λ _ _. refl)
answer-with_bytes (Present sectors attention) cdb bytes =
    each_present (λ a. a.reply.payload ≢ [] → a.state ≡ Present sectors attention) sectors attention cdb bytes
    (λ _ _. refl) (λ _ _. refl) (λ _ _ _ _ has. absurd (has refl)) (λ _ _ has. absurd (has refl))

-- how many pieces there are
pub length-cut : (len n : ℕ) (bytes : List ℕ) → length (cut len n bytes) ≡ n
length-cut len zero bytes = refl
length-cut len (suc n) bytes = let rest = length-cut len n (drop len bytes) in omega (arith, rest)

-- a write within the unit leaves its length
pub length-written :
    (sectors : List Sector) (lba count : ℕ) (bytes : List ℕ) → lba + count ≤ length sectors
    → length (written sectors lba count bytes) ≡ length sectors
length-written sectors lba count bytes h = simp (length-append, length-take, length-drop, length-cut) (omega arith)

-- a unit that exists, with this number of sectors and this pending UNIT ATTENTION
abbrev of_unit : ℕ → Bool → Shape
of_unit n attention = record { present = true; sectors = n; attention = attention }

same_shape : {m n : ℕ} {a b : Bool} → m ≡ n → a ≡ b → of_unit m a ≡ of_unit n b
same_shape {m} {n} {a} {b} e f = ap (λ (k : ℕ). of_unit k a) e ∙ ap (λ (c : Bool). of_unit n c) f

-- presence, length and mark after a command
pub answer-shape :
    (state : UnitState) (cdb bytes : List ℕ)
    → shape_of (answer state cdb bytes).state ≡ shape_after (shape_of state) (Cmd cdb bytes)
unfolding answer
answer-shape Absent cdb bytes =
    each_absent (λ a. shape_of a.state ≡ shape_of Absent) cdb bytes (λ _. refl) (λ _. refl)
answer-shape (Present sectors true) cdb bytes =
    let is_told = eqb (operation_code cdb) 0x12 in
    let P : Answered → Type 0 = λ a. shape_of a.state ≡ of_unit (length sectors) is_told in
    cond_both _ _ _ P (λ e.
    each_obeyed P sectors true (reading cdb) bytes (λ _. same_shape refl (sym e)) (λ _. same_shape refl (sym e))
    (λ lba count within _. same_shape (length-written sectors lba count bytes within) (sym e)))
    (λ e. same_shape refl (sym e))
answer-shape (Present sectors false) cdb bytes =
    each_obeyed (λ a. shape_of a.state ≡ of_unit (length sectors) false) sectors false (reading cdb) bytes (λ _. refl)
    (λ _. refl)
    (λ lba count within _. same_shape (length-written sectors lba count bytes within) refl)

-- what is known of a reply to a discard and the state after it, at a unit that is there
pub each_unmapped :
    (P : Answered → Type 0) (sectors : List Sector) (attention : Bool) (lba count : ℕ)
    → P (record { reply = check capacity_data_has_changed; state = Present sectors false })
    → P (record { reply = check logical_block_address_out_of_range; state = Present sectors false })
    → (lba + count ≤ length sectors → P (record { reply = good []; state = Present (zeroed sectors lba count) false }))
    → P (unmap_answer (Present sectors attention) lba count)
each_unmapped P sectors true lba count tells past within = tells
each_unmapped P sectors false lba count tells past within =
    cond_both (is_past_end (length sectors) lba count) _ _ P (λ _. past) (λ e. within (ltb-false _ _ e))

-- a discard within the unit leaves its length
pub length-zeroed :
    (sectors : List Sector) (lba count : ℕ) → lba + count ≤ length sectors
    → length (zeroed sectors lba count) ≡ length sectors
length-zeroed sectors lba count h = simp (length-append, length-take, length-drop, length-replicate) (omega arith)

-- presence, length and mark after a discard
pub unmap-shape : (state : UnitState) (lba count : ℕ)
    → shape_of (unmap_answer state lba count).state ≡ shape_after (shape_of state) (Unmap lba count)
unmap-shape Absent lba count = refl
unmap-shape (Present sectors attention) lba count =
    each_unmapped (λ a. shape_of a.state ≡ of_unit (length sectors) false) sectors attention lba count refl refl
    (λ within. same_shape (length-zeroed sectors lba count within) refl)

-- presence, length and mark after an entry
pub after-shape : (state : UnitState) (entry : UnitEntry)
    → shape_of (after state entry) ≡ shape_after (shape_of state) entry
after-shape state (Make n) = same_shape (length-replicate n zero_sector) refl
after-shape Absent (Grow n) = refl
after-shape (Present sectors attention) (Grow n) =
    same_shape (simp (length-append, length-replicate) (omega arith)) refl
after-shape state Remove = refl
after-shape state (Cmd cdb bytes) = answer-shape state cdb bytes
after-shape state (Unmap lba count) = unmap-shape state lba count

-- pieces of bytes that are enough have the length
pub cut-whole : (len n : ℕ) (bytes : List ℕ) → n * len ≤ length bytes
    → All (λ piece. length piece ≡ len) (cut len n bytes)
cut-whole len zero bytes h = All-nil (λ piece. length piece ≡ len)
cut-whole len (suc n) bytes h =
    let enough : len + n * len ≤ length bytes = omega (arith, suc-mul n len) in
    All-cons (λ piece. length piece ≡ len) (take len bytes) (cut len n (drop len bytes))
    (simp length-take (omega arith))
    (cut-whole len n (drop len bytes) (simp length-drop (omega arith)))

-- a zero sector has 512 bytes
pub length-zero_sector : length zero_sector ≡ 512
unfolding zero_sector
length-zero_sector = length-replicate {A = ℕ} 512 0

-- n zero sectors are whole
zero_sectors-whole : (n : ℕ) → All (λ sector. length sector ≡ 512) (zero_sectors n)
zero_sectors-whole n = All-replicate (λ sector. length sector ≡ 512) n zero_sector length-zero_sector

-- each sector keeps its 512 bytes
pub after-whole : (state : UnitState) (entry : UnitEntry) → IsWhole state → IsWhole (after state entry)
after-whole state (Make n) h = zero_sectors-whole n
after-whole Absent (Grow n) h = h
after-whole (Present sectors attention) (Grow n) h =
    All-append (λ sector. length sector ≡ 512) sectors _ h (zero_sectors-whole (n - length sectors))
after-whole state Remove h = tt
after-whole Absent (Cmd cdb bytes) h = each_absent (λ a. IsWhole a.state) cdb bytes (λ _. tt) (λ _. tt)
after-whole (Present sectors attention) (Cmd cdb bytes) h =
    let W : Sector → Type 0 = λ sector. length sector ≡ 512 in
    each_present (λ a. IsWhole a.state) sectors attention cdb bytes (λ _. h) (λ _. h)
    (λ lba count within sent.
    All-append W (take lba sectors ++ cut 512 count bytes) (drop (lba + count) sectors)
    (All-append W (take lba sectors) (cut 512 count bytes) (All-take W lba sectors h)
    (cut-whole 512 count bytes (omega arith)))
    (All-drop W (lba + count) sectors h))
    (λ _ _. h)
after-whole Absent (Unmap lba count) h = tt
after-whole (Present sectors attention) (Unmap lba count) h =
    let W : Sector → Type 0 = λ sector. length sector ≡ 512 in
    each_unmapped (λ a. IsWhole a.state) sectors attention lba count h h
    (λ within.
    All-append W (take lba sectors ++ zero_sectors count) (drop (lba + count) sectors)
    (All-append W (take lba sectors) (zero_sectors count) (All-take W lba sectors h) (zero_sectors-whole count))
    (All-drop W (lba + count) sectors h))

-- what a broken array says in place of a reply, with what the block reads as
abbrev in_place : Result Command Sense → Reply → Reply
in_place r reply = cond (is_good reply.status && needs_blocks r) (check internal_target_failure) reply

past_or_not :
    (past : Bool) (payload : List ℕ) (r : Result Command Sense) → needs_blocks r ≡ true
    → cond past (check logical_block_address_out_of_range) (check internal_target_failure)
    ≡ in_place r (cond past (check logical_block_address_out_of_range) (good payload))
past_or_not true payload r e = refl
past_or_not false payload r e = rw e refl

sent_or_not :
    (sectors written : List Sector) (attention : Bool) (past wrong : Bool) (r : Result Command Sense)
    → needs_blocks r ≡ true
    → cond past (check logical_block_address_out_of_range)
    (cond wrong (check data_phase_error) (check internal_target_failure))
    ≡ in_place r (cond past (leaving (Present sectors attention) (check logical_block_address_out_of_range))
    (cond wrong (leaving (Present sectors attention) (check data_phase_error))
    (record { reply = good []; state = Present written attention }))).reply
sent_or_not sectors written attention true wrong r e = refl
sent_or_not sectors written attention false true r e = refl
sent_or_not sectors written attention false false r e = rw e refl

broken_obeyed-is :
    (sectors : List Sector) (attention : Bool) (r : Result Command Sense) (bytes : List ℕ)
    → broken_obeyed (length sectors) r (length bytes) ≡ in_place r (obeyed sectors attention r bytes).reply
unfolding obeyed broken_obeyed
broken_obeyed-is sectors attention (Err sense) bytes = refl
broken_obeyed-is sectors attention (Ok TestReady) bytes = refl
broken_obeyed-is sectors attention (Ok (Inquiry len)) bytes = refl
broken_obeyed-is sectors attention (Ok Capacity) bytes = refl
broken_obeyed-is sectors attention (Ok (Read lba count)) bytes = past_or_not _ _ (Ok (Read lba count)) refl
broken_obeyed-is sectors attention (Ok (Write lba count fua)) bytes =
    sent_or_not sectors _ attention _ _ (Ok (Write lba count fua)) refl

-- no INQUIRY needs blocks
pub inquiry-needs_none : (cdb : List ℕ) → operation_code cdb ≡ 0x12 → needs_blocks (reading cdb) ≡ false
unfolding reading
inquiry-needs_none cdb code =
    rw code (cond_both (inquiry_valid cdb) (Ok (Inquiry (allocation_length cdb))) (Err invalid_field_in_cdb)
    (λ r. needs_blocks r ≡ false) (λ _. refl) (λ _. refl))

absent-in_place : (cdb : List ℕ) (b : Bool) (payload : List ℕ) → (b ≡ true → needs_blocks (reading cdb) ≡ false)
    → cond b (good payload) (check logical_unit_not_supported)
    ≡ where_broken cdb (cond b (good payload) (check logical_unit_not_supported))
absent-in_place cdb true payload h = let e = h refl in rw e refl
absent-in_place cdb false payload h = refl

reported_or_not :
    (cdb : List ℕ) (inquires : Bool) (broken : Reply) (obeyed reported : Answered)
    → broken ≡ where_broken cdb obeyed.reply
    → reported.reply ≡ check capacity_data_has_changed
    → cond (not inquires) (check capacity_data_has_changed) broken ≡ where_broken cdb
    (cond inquires obeyed reported).reply
reported_or_not cdb true broken obeyed reported h e = h
reported_or_not cdb false broken obeyed reported h e = rw e refl

-- what a broken array answers goes by the shape
pub broken_answer-is :
    (state : UnitState) (cdb bytes : List ℕ)
    → broken_answer (shape_of state) cdb (length bytes) ≡ where_broken cdb (answer state cdb bytes).reply
unfolding answer broken_answer
broken_answer-is Absent cdb bytes =
    absent-in_place cdb (eqb (operation_code cdb) 0x12) _ (λ e. inquiry-needs_none cdb (eqb-true _ _ e))
broken_answer-is (Present sectors true) cdb bytes =
    reported_or_not cdb (eqb (operation_code cdb) 0x12) _ (obeyed sectors true (reading cdb) bytes) _
    (broken_obeyed-is sectors true (reading cdb) bytes) refl
broken_answer-is (Present sectors false) cdb bytes = broken_obeyed-is sectors false (reading cdb) bytes

-- a reply without bytes takes no memory
no_bytes : (cdb : List ℕ) (reply : Reply) → reply.payload ≡ [] → TakesNoMemory cdb reply
no_bytes cdb reply e = record { checks = λ _. e; ready = λ _. e; writes = λ _ _ _ _. e }

-- nor does GOOD, where the block doesn't read as one of the two commands without bytes
good_bytes :
    (cdb payload : List ℕ) → (reading cdb ≡ Ok TestReady → ⊥)
    → ((lba count : ℕ) (fua : Bool) → reading cdb ≡ Ok (Write lba count fua) → ⊥)
    → TakesNoMemory cdb (good payload)
good_bytes cdb payload not_ready not_write = record {
  checks = λ e. cc;
  ready = λ e. absurd (not_ready e);
  writes = λ lba count fua e. absurd (not_write lba count fua e);
}

-- no reply to a WRITE has bytes
write_answer-no_bytes :
    (sectors : List Sector) (attention : Bool) (lba count : ℕ) (bytes : List ℕ)
    → (write_answer sectors attention lba count bytes).reply.payload ≡ []
write_answer-no_bytes sectors attention lba count bytes =
    cond_both (is_past_end (length sectors) lba count) _ _ (λ (a : Answered). a.reply.payload ≡ []) (λ _. refl)
    (λ _. cond_both (not (eqb (length bytes) (count * 512))) _ _ (λ (a : Answered). a.reply.payload ≡ []) (λ _. refl)
    (λ _. refl))

obeyed-takes_no_memory :
    (sectors : List Sector) (attention : Bool) (cdb bytes : List ℕ) (r : Result Command Sense) → reading cdb ≡ r
    → TakesNoMemory cdb (obeyed sectors attention r bytes).reply
unfolding obeyed
obeyed-takes_no_memory sectors attention cdb bytes (Err sense) e = no_bytes cdb _ refl
obeyed-takes_no_memory sectors attention cdb bytes (Ok TestReady) e = no_bytes cdb _ refl
obeyed-takes_no_memory sectors attention cdb bytes (Ok (Inquiry len)) e = good_bytes cdb _ (λ f. cc) (λ _ _ _ f. cc)
obeyed-takes_no_memory sectors attention cdb bytes (Ok Capacity) e = good_bytes cdb _ (λ f. cc) (λ _ _ _ f. cc)
obeyed-takes_no_memory sectors attention cdb bytes (Ok (Read lba count)) e =
    cond_both (is_past_end (length sectors) lba count) (check logical_block_address_out_of_range)
    (good (joined (take count (drop lba sectors)))) (TakesNoMemory cdb)
    (λ _. no_bytes cdb (check logical_block_address_out_of_range) refl)
    (λ _. good_bytes cdb _ (λ f. cc) (λ _ _ _ f. cc))
obeyed-takes_no_memory sectors attention cdb bytes (Ok (Write lba count fua)) e =
    no_bytes cdb _ (write_answer-no_bytes sectors attention lba count bytes)

absent-takes_no_memory :
    (cdb : List ℕ) (b : Bool) (payload : List ℕ) → (b ≡ true → needs_blocks (reading cdb) ≡ false)
    → TakesNoMemory cdb (cond b (good payload) (check logical_unit_not_supported))
absent-takes_no_memory cdb true payload h =
    good_bytes cdb payload (λ e. true≢false (sym (ap needs_blocks e) ∙ h refl))
    (λ _ _ _ e. true≢false (sym (ap needs_blocks e) ∙ h refl))
absent-takes_no_memory cdb false payload h = no_bytes cdb _ refl

-- which replies have no bytes
pub answer-takes_no_memory : (state : UnitState) (cdb bytes : List ℕ) → TakesNoMemory cdb (answer state cdb bytes).reply
unfolding answer
answer-takes_no_memory Absent cdb bytes =
    absent-takes_no_memory cdb (eqb (operation_code cdb) 0x12) _ (λ e. inquiry-needs_none cdb (eqb-true _ _ e))
answer-takes_no_memory (Present sectors true) cdb bytes =
    cond_both (eqb (operation_code cdb) 0x12) (obeyed sectors true (reading cdb) bytes)
    (leaving (Present sectors false) (check capacity_data_has_changed)) (λ (a : Answered). TakesNoMemory cdb a.reply)
    (λ _. obeyed-takes_no_memory sectors true cdb bytes (reading cdb) refl)
    (λ _. no_bytes cdb (check capacity_data_has_changed) refl)
answer-takes_no_memory (Present sectors false) cdb bytes =
    obeyed-takes_no_memory sectors false cdb bytes (reading cdb) refl

-- no reply to a discard is BUSY
pub unmap-not_busy : (state : UnitState) (lba count : ℕ) → (unmap_answer state lba count).reply.status ≢ Busy
unmap-not_busy Absent lba count = λ e. cc
unmap-not_busy (Present sectors attention) lba count =
    each_unmapped (λ a. a.reply.status ≢ Busy) sectors attention lba count (λ e. cc) (λ e. cc) (λ _ e. cc)

-- or has bytes
pub unmap-no_bytes : (state : UnitState) (lba count : ℕ) → (unmap_answer state lba count).reply.payload ≡ []
unmap-no_bytes Absent lba count = refl
unmap-no_bytes (Present sectors attention) lba count =
    each_unmapped (λ a. a.reply.payload ≡ []) sectors attention lba count refl refl (λ _. refl)

-- what a broken array answers to a discard goes by the shape
pub broken_unmap-is :
    (state : UnitState) (lba count : ℕ)
    → broken_unmap (shape_of state) lba count ≡ unmap_where_broken (unmap_answer state lba count).reply
broken_unmap-is Absent lba count = refl
broken_unmap-is (Present sectors true) lba count = refl
broken_unmap-is (Present sectors false) lba count = by (is_past_end (length sectors) lba count)
  where
    by : (past : Bool)
        → cond past (check logical_block_address_out_of_range) (check internal_target_failure)
        ≡ unmap_where_broken (cond past (leaving (Present sectors false) (check logical_block_address_out_of_range))
        (leaving (Present (zeroed sectors lba count) false) (good []))).reply
    by true = refl
    by false = refl

-- zeros are cut into zero sectors
cut-zeros : (n : ℕ) → cut 512 n (replicate (n * 512) 0) ≡ zero_sectors n
unfolding zero_sector
cut-zeros zero = refl
cut-zeros (suc n) =
    let long : suc n * 512 ≡ 512 + n * 512 = omega (arith, suc-mul n 512) in
    ap (λ (k : ℕ). cut 512 (suc n) (replicate k 0)) long
    ∙ ap (λ (l : List ℕ). l ∷ cut 512 n (drop 512 (replicate (512 + n * 512) 0)))
    (take-replicate 512 (512 + n * 512) 0 (omega arith))
    ∙ ap (λ (l : List ℕ). replicate 512 0 ∷ cut 512 n l)
    (drop-replicate 512 (512 + n * 512) 0 ∙ ap (λ (k : ℕ). replicate k 0) (omega arith))
    ∙ ap (λ (l : List Sector). replicate 512 0 ∷ l) (cut-zeros n)

-- equal numbers pass the test
eqb-same : (m n : ℕ) → m ≡ n → eqb m n ≡ true
eqb-same m n same = grind (arith, nat_tests)

-- a WRITE of zeros that is within the unit
pub zeros_written : (sectors : List Sector) (lba count : ℕ)
    → unmap_obeyed sectors lba count ≡ write_answer sectors false lba count (replicate (count * 512) 0)
zeros_written sectors lba count =
    let sent : not (eqb (length (replicate (count * 512) 0)) (count * 512)) ≡ false =
    ap not (eqb-same (length (replicate (count * 512) 0)) (count * 512) (length-replicate (count * 512) 0)) in
    ap (λ (l : List Sector). cond (is_past_end (length sectors) lba count)
    (leaving (Present sectors false) (check logical_block_address_out_of_range))
    (leaving (Present (take lba sectors ++ l ++ drop (lba + count) sectors) false) (good []))) (sym (cut-zeros count))
    ∙ ap (λ (wrong : Bool). cond (is_past_end (length sectors) lba count)
    (leaving (Present sectors false) (check logical_block_address_out_of_range))
    (cond wrong (leaving (Present sectors false) (check data_phase_error))
    (leaving (Present (written sectors lba count (replicate (count * 512) 0)) false) (good [])))) (sym sent)

-- a block that reads as a WRITE isn't an INQUIRY
write-not_inquiry : (cdb : List ℕ) (lba count : ℕ) (fua : Bool) → reading cdb ≡ Ok (Write lba count fua)
    → eqb (operation_code cdb) 0x12 ≡ false
write-not_inquiry cdb lba count fua is = by (eqb (operation_code cdb) 0x12) refl
  where
    by : (b : Bool) → eqb (operation_code cdb) 0x12 ≡ b → b ≡ false
    by false e = refl
    by true e =
        absurd (true≢false (sym (ap needs_blocks is) ∙ inquiry-needs_none cdb (eqb-true (operation_code cdb) 0x12 e)))

-- a discard is a WRITE of zeros
pub unmap-writes_zeros :
    (state : UnitState) (cdb : List ℕ) (lba count : ℕ) (fua : Bool) → reading cdb ≡ Ok (Write lba count fua)
    → unmap_answer state lba count ≡ answer state cdb (replicate (count * 512) 0)
unfolding answer obeyed
unmap-writes_zeros Absent cdb lba count fua is =
    let other = write-not_inquiry cdb lba count fua is in rw other refl
unmap-writes_zeros (Present sectors true) cdb lba count fua is =
    let other = write-not_inquiry cdb lba count fua is in rw other refl
unmap-writes_zeros (Present sectors false) cdb lba count fua is =
    zeros_written sectors lba count
    ∙ ap (λ (r : Result Command Sense). obeyed sectors false r (replicate (count * 512) 0)) (sym is)

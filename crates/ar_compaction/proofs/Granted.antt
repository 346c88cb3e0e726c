-- Units that records make as an array executes them: a pending UNIT ATTENTION comes from a growth, and until it is
-- reported no command is executed.
use Rattle.std.proofs.Common.{◌≡◌, ◌<◌, ◌≤◌, ◌+◌, ◌-◌, ℕ, Bool, true, false, cond, eqb, List, [], ◌∷◌, ◌++◌, length}
use Rattle.std.proofs.Common.{drop}
use Rattle.std.proofs.Common.{Result, Ok, Err, refl, sym, ap, subst, ◌∙◌, arith, length-append}
use Rattle.std.proofs.Math.ListN.{length-replicate}
use Rattle.std.proofs.lemmas.Bool.{true≢false, cond_both, eqb-true}
use Rattle.std.proofs.lemmas.List.{drop-drop, drop_at, drop-replicate}
use Rattle.ar_scsi.specs.declared.command.Command.{Command}
use Rattle.ar_scsi.specs.declared.command.Command.TheVariants.{TestReady, Inquiry, Capacity, Read, Write}
use Rattle.ar_scsi.specs.declared.sense.Sense.{Sense}
use Rattle.ar_scsi.specs.Field.{operation_code}
use Rattle.ar_scsi.specs.Reading.{reading}
use Rattle.ar_scsi.specs.Reply.{check}
use Rattle.ar_scsi.specs.Sense.{capacity_data_has_changed}
use Rattle.ar_unit.specs.Broken.{needs_blocks}
use Rattle.ar_unit.specs.Sectors.{Sector, zero_sector, zero_sectors}
use Rattle.ar_unit.specs.Unit.{UnitState, Absent, Present, UnitEntry, Answered, leaving, obeyed, answer, unmap_answer}
use Rattle.ar_unit.specs.Unit.{Make as UnitMake, Grow as UnitGrow, Remove as UnitRemove, Cmd as UnitCmd}
use Rattle.ar_unit.specs.Unit.{Unmap as UnitUnmap, after, unit_run}
use Rattle.ar_unit.proofs.Laws.{each_present, each_unmapped, inquiry-needs_none, length-written, length-zeroed}
use Rattle.ar_unit.proofs.Laws.{unit_run-append}
use Rattle.ar_record.specs.Record.{RecordData, Make, Grow, Remove, Command as CommandRecord, Unmap, AddDisk}
use Rattle.ar_record.specs.Replay.{is_unit_at, own_in, own_of}
use Rattle.ar_compaction.specs.Addresses.{names}
use Rattle.ar_compaction.specs.Checkpoint.{CanBeCreated, IsExecuted, AreExecuted}
use Rattle.ar_compaction.specs.Compaction.{CanBeCreatedAgain}

-- a command that needs no blocks leaves them
obeyed_same : (sectors : List Sector) (command : Result Command Sense) (bytes : List ℕ)
    → needs_blocks command ≡ false → (obeyed sectors true command bytes).state ≡ Present sectors true
unfolding obeyed
obeyed_same sectors (Err sense) bytes e = refl
obeyed_same sectors (Ok TestReady) bytes e = absurd (true≢false e)
obeyed_same sectors (Ok (Inquiry len)) bytes e = refl
obeyed_same sectors (Ok Capacity) bytes e = refl
obeyed_same sectors (Ok (Read lba count)) bytes e = absurd (true≢false e)
obeyed_same sectors (Ok (Write lba count fua)) bytes e = absurd (true≢false e)

-- without a UNIT ATTENTION only the length counts
quiet : (sectors : List Sector) → 1 ≤ length sectors → CanBeCreated (Present sectors false)
quiet sectors some = (some, λ e. absurd (true≢false (sym e)))

-- after a command
answered : (state : UnitState) (cdb bytes : List ℕ) → CanBeCreated state → CanBeCreated (answer state cdb bytes).state
unfolding answer
answered Absent cdb bytes can = tt
answered (Present sectors true) cdb bytes can =
    cond_both (eqb (operation_code cdb) 0x12) (obeyed sectors true (reading cdb) bytes)
    (leaving (Present sectors false) (check capacity_data_has_changed)) (λ (a : Answered). CanBeCreated a.state)
    (λ inquires. subst CanBeCreated (sym (obeyed_same sectors (reading cdb) bytes
    (inquiry-needs_none cdb (eqb-true (operation_code cdb) 0x12 inquires)))) can)
    (λ _. quiet sectors can.0)
answered (Present sectors false) cdb bytes can =
    each_present (λ (a : Answered). CanBeCreated a.state) sectors false cdb bytes (λ _. can) (λ _. can)
    (λ lba count within sent.
    quiet _ (omega (arith, length-written sectors lba count bytes within, can.0)))
    (λ e _. absurd (true≢false (sym e)))

-- after a discard
unmapped : (state : UnitState) (lba count : ℕ) → CanBeCreated state → CanBeCreated (unmap_answer state lba count).state
unmapped Absent lba count can = tt
unmapped (Present sectors attention) lba count can =
    each_unmapped (λ (a : Answered). CanBeCreated a.state) sectors attention lba count (quiet sectors can.0)
    (quiet sectors can.0)
    (λ within. quiet _ (omega (arith, length-zeroed sectors lba count within, can.0)))

-- after a growth
grown : (sectors : List Sector) (n : ℕ) → 1 ≤ length sectors → length sectors < n
    → CanBeCreated (Present (sectors ++ zero_sectors (n - length sectors)) true)
grown sectors n some more =
    let k : ℕ = n - length sectors in
    let all : List Sector = sectors ++ zero_sectors k in
    let len : length all ≡ n =
    omega (arith, length-append sectors (zero_sectors k), length-replicate k zero_sector, more) in
    let last : length all - 1 ≡ length sectors + (k - 1) = omega (arith, len, more) in
    let one : k - (k - 1) ≡ 1 = omega (arith, more) in (
      omega (arith, len, more),
      λ _. record {
        several = omega (arith, len, more, some);
        zero_last =
            ap (λ (j : ℕ). drop j all) last
            ∙ sym (drop-drop (k - 1) (length sectors) all)
            ∙ ap (λ (l : List Sector). drop (k - 1) l) (drop_at sectors (zero_sectors k) (length sectors) refl)
            ∙ drop-replicate (k - 1) k zero_sector
            ∙ ap (λ (j : ℕ). zero_sectors j) one;
      },
    )

-- after a record
by_address : (here : Bool) (state : UnitState) (entry : UnitEntry) → CanBeCreated state
    → (here ≡ true → CanBeCreated (after state entry)) → CanBeCreated (unit_run state (cond here (entry ∷ []) []))
by_address true state entry can then = then refl
by_address false state entry can then = can

after_growth : (state : UnitState) (host lun n : ℕ) → CanBeCreated state → IsExecuted state (Grow host lun n)
    → CanBeCreated (after state (UnitGrow n))
after_growth Absent host lun n can done = tt
after_growth (Present sectors attention) host lun n can done = grown sectors n can.0 done.1

after_record : (a : ℕ × ℕ) (state : UnitState) (r : RecordData) → CanBeCreated state
    → (names a r ≡ true → IsExecuted state r) → CanBeCreated (unit_run state (own_in a r))
after_record a state (Make host lun n) can done =
    by_address (is_unit_at a host lun) state (UnitMake n) can
    (λ here. quiet (zero_sectors n) (omega (arith, length-replicate n zero_sector, (done here).1)))
after_record a state (Grow host lun n) can done =
    by_address (is_unit_at a host lun) state (UnitGrow n) can (λ here. after_growth state host lun n can (done here))
after_record a state (Remove host lun) can done =
    by_address (is_unit_at a host lun) state UnitRemove can (λ here. tt)
after_record a state (CommandRecord host lun cdb payload) can done =
    by_address (is_unit_at a host lun) state (UnitCmd cdb payload) can (λ here. answered state cdb payload can)
after_record a state (Unmap host lun lba count) can done =
    by_address (is_unit_at a host lun) state (UnitUnmap lba count) can (λ here. unmapped state lba count can)
after_record a state (AddDisk extents) can done = can

after_records : (a : ℕ × ℕ) (state : UnitState) (records : List RecordData) → CanBeCreated state
    → AreExecuted a state records → CanBeCreated (unit_run state (own_of a records))
after_records a state [] can done = can
after_records a state (r ∷ records) can done =
    subst CanBeCreated (sym (unit_run-append state (own_in a r) (own_of a records)))
    (after_records a (unit_run state (own_in a r)) records (after_record a state r can done.0) done.1)

pub can_be_created_again : CanBeCreatedAgain
can_be_created_again a records done = after_records a Absent records tt done

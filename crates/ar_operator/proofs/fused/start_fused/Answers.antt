use Rattle.std.proofs.Common.{◌≡◌, ◌∙◌, List, Ok, None, subst, map}
use Rattle.std.proofs.lemmas.List.{map-id}
use Rattle.std.proofs.lemmas.Result.{IfOk-at_ok}
use Rattle.ar_disks.specs.Disk.{DiskState}
use Rattle.ar_extents.specs.Changes.{start_fault}
use Rattle.ar_volume.specs.Start.{IsStarted}
use Rattle.ar_answers.proofs.FaultLemmas.{ok_before}
use Rattle.ar_answers.specs.Setups.{disks_of}
use Rattle.ar_operator.proofs.fused.start_fused.Goals as goal

-- the disks that the array was given are those of the setup
given : (c : goal.In_ok-array) → c.in_ok-disks.disks.items ≡ disks_of c.args.setup
given c =
    let made = ok_before c.fused_disks.result c.map_err.result c.in_ok-disks.disks _ c.map_err.ensures.cases
    c.in_ok-disks.was in
    IfOk-at_ok (λ disks. disks.items ≡ disks_of c.args.setup) made c.fused_disks.ensures

began : (c : goal.In_ok-array) → c.start.result ≡ Ok c.in_ok-array.array
began c = ok_before c.start.result c.map_err-2.result c.in_ok-array.array _ c.map_err-2.ensures.cases c.in_ok-array.was

-- as contracts of disks see them
seen : (c : goal.In_ok-array) → map (λ (disk : DiskState). disk) c.in_ok-disks.disks.items ≡ disks_of c.args.setup
seen c = map-id c.in_ok-disks.disks.items ∙ given c

started : (c : goal.In_ok-array) → IsStarted (disks_of c.args.setup) c.args.setup.cache c.in_ok-array.array
started c =
    let P : List DiskState → Type 0 = λ disks. IsStarted disks c.args.setup.cache c.in_ok-array.array in
    subst P (seen c) (IfOk-at_ok _ (began c) c.start.ensures.started)

-- no disks of another number or shape begin an array
taken : (c : goal.In_ok-array) → start_fault (disks_of c.args.setup) ≡ None
taken c =
    let P : List DiskState → Type 0 = λ disks. start_fault disks ≡ None in
    subst P (seen c) (IfOk-at_ok _ (began c) c.start.ensures.taken)

pub returns-clause-started : goal.returns-clause-started
returns-clause-started c = started c

pub returns-clause-taken : goal.returns-clause-taken
returns-clause-taken c = taken c

-- How a service that has ended ends the program.
use Rattle.std.specs.Prelude.{◌≡◌, ⊤, ℕ, true, false, if◌then◌else◌, List, Result, Ok, Err, codes}
use Rattle.ar_cli.specs.Exit.{status_after}
use Rattle.ar_plan.specs.declared.plan.Closing.{Closing}
use Rattle.ar_plan.specs.declared.plan.ServiceFault.{ServiceFault}
use Rattle.ar_plan.specs.declared.plan.ServiceFault.TheVariants as faults
use Rattle.ar_server.specs.declared.serve.ServeFault.{ServeFault}
use Rattle.ar_server.specs.declared.serve.ServeFault.TheVariants as failures

-- A service has ended well, as an exit with 0 says: it reports no fault, as a refused unit, a seat out, a mismatch or a
-- store that has failed, and its array has not lost its data.
abbrev pub EndsWell : Result Closing ServiceFault → Type 0
EndsWell (Ok closing) = closing.data_lost ≡ false
EndsWell (Err fault) = ⊥

-- the status with which a failure ends the program: 3 where the array has lost its data, 4 where the store has failed,
-- else 1
abbrev pub status_of_serving : ServeFault → ℕ
status_of_serving failures.DataLost = 3
status_of_serving failures.Store = 4
status_of_serving _ = 1

-- the status of the end of a service: 0 if it was well, 3 where the array has lost its data, 4 where the store has
-- failed, else 1
abbrev pub end_status : Result Closing ServiceFault → ℕ
end_status (Ok closing) = if closing.data_lost then 3 else 0
end_status (Err faults.Store) = 4
end_status (Err fault) = 1

-- the program exits with that status, unless what it closes with can't be printed
abbrev pub ExitsBy : Result Closing ServiceFault → Result ⊤ ServeFault → Type 0
ExitsBy served (Err failures.Write) = Unit {0}
ExitsBy served done = status_after status_of_serving done ≡ end_status served

-- The failure is that of the service, but that a message of it may need memory, and what it closes with be printed.
abbrev pub IsFailureOf : Result Closing ServiceFault → ServeFault → Type 0
IsFailureOf (Ok closing) failures.DataLost = closing.data_lost ≡ true
IsFailureOf (Ok closing) failures.Write = Unit {0}
IsFailureOf (Err (faults.Mismatch mismatch)) failures.Mismatch = Unit {0}
IsFailureOf (Err (faults.Mismatch mismatch)) failures.Write = Unit {0}
IsFailureOf (Err (faults.Unit number refusal)) (failures.Unit word why) = why ≡ refusal
IsFailureOf (Err (faults.Unit number refusal)) failures.NoMemory = Unit {0}
IsFailureOf (Err (faults.OtherSize number sectors)) (failures.OtherSize word length) = length ≡ sectors
IsFailureOf (Err (faults.OtherSize number sectors)) failures.NoMemory = Unit {0}
IsFailureOf (Err faults.Listen) failures.Listen = Unit {0}
IsFailureOf (Err faults.Write) failures.Write = Unit {0}
IsFailureOf (Err faults.NoMemory) failures.NoMemory = Unit {0}
IsFailureOf (Err faults.SeatOut) failures.SeatOut = Unit {0}
IsFailureOf (Err faults.Store) failures.Store = Unit {0}
IsFailureOf served failure = ⊥

-- what an operator is answered to `stop`
abbrev pub stop_answer : Result ⊤ ServeFault → List ℕ
stop_answer (Ok done) = codes "stopped\n"
stop_answer (Err failures.DataLost) = codes "stopped\n"
stop_answer (Err failures.Mismatch) = codes "fault: mismatch\n"
stop_answer (Err failures.SeatOut) = codes "fault: seat out\n"
stop_answer (Err failures.NoMemory) = codes "fault: no memory\n"
stop_answer (Err failures.Store) = codes "fault: store failed\n"
stop_answer (Err failure) = codes "fault: write fault\n"

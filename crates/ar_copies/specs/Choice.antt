-- Which of two copies go on after a call of both, by its results.
use Rattle.std.specs.Prelude.{◌≡◌, ◌≢◌, ◌⊎◌, ⊤, Result, Ok, Err}
use Rattle.ar_media.specs.declared.error.MediaError.{MediaError}
use Rattle.ar_media.specs.declared.error.MediaError.TheVariants.{Memory, Failed, Full, Closed}
use Rattle.ar_copies.specs.declared.choice.Keep.{Keep}
use Rattle.ar_copies.specs.declared.choice.Keep.TheVariants.{Both, Reference, Other}

-- both go on only where both have done the call, or both are closed
abbrev pub BothGo : Result ⊤ MediaError → Result ⊤ MediaError → Type 0
BothGo first second = (second ≡ first) × ((first ≡ Ok tt) ⊎ (first ≡ Err Closed))

-- one that is closed goes on only beside another one
abbrev pub MayKeep : Result ⊤ MediaError → Result ⊤ MediaError → Keep → Type 0
MayKeep first second Both = BothGo first second
MayKeep first second Reference = first ≢ Err Closed
MayKeep first second Other = second ≢ Err Closed

abbrev pub kept_result : Result ⊤ MediaError → Result ⊤ MediaError → Keep → Result ⊤ MediaError
kept_result first second Both = first
kept_result first second Reference = first
kept_result first second Other = second

-- the error where both fail
abbrev pub error_of_both : MediaError → MediaError → MediaError
error_of_both Memory second = Memory
error_of_both (Failed kind) second = Failed kind
error_of_both Full second = Full
error_of_both Closed second = second

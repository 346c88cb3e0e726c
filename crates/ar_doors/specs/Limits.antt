-- How long a connection may take.
use Rattle.std.specs.Prelude.{ℕ, ◌*◌, nat_le, Bool, false, ◌||◌, if◌then◌else◌, Option, Some, None}
use Rattle.ar_frames.specs.declared.progress.Stage.{Stage}
use Rattle.ar_frames.specs.declared.progress.Stage.TheVariants.{Silent, Discovery, Entered}
use Rattle.ar_doors.specs.declared.limits.SilenceStep.{SilenceStep}
use Rattle.ar_doors.specs.declared.limits.SilenceStep.TheVariants.{Wait, Ping, End}
use Rattle.ar_doors.specs.declared.tcp.Timeouts.{Timeouts}

-- The seconds from its opening at a stage of its session: until its login, or to the end of one for discovery. Once it
-- has entered there is no limit.
abbrev pub session_limit : Stage → Timeouts → Option ℕ
session_limit Silent timeouts = timeouts.login
session_limit Discovery timeouts = timeouts.discovery
session_limit Entered timeouts = None

-- The seconds of silence after which a session at a stage pings its peer: one that has entered, if it pings at all.
abbrev pub ping_limit : Stage → Timeouts → Option ℕ
ping_limit Silent timeouts = None
ping_limit Discovery timeouts = None
ping_limit Entered timeouts = timeouts.ping

-- whether a silence of this many milliseconds has reached a limit of some units of milliseconds
abbrev pub has_lasted : ℕ → Option ℕ → ℕ → Bool
has_lasted silent None unit = false
has_lasted silent (Some count) unit = nat_le (count * unit) silent

-- What a silence of this many milliseconds calls for: the session ends at the limit of silence, or as long after its
-- ping as before it (RFC 7143, 11.19); before that it pings.
abbrev pub silence_step : ℕ → Stage → Timeouts → SilenceStep
silence_step silent stage timeouts =
    if has_lasted silent timeouts.idle 1000 || has_lasted silent (ping_limit stage timeouts) 2000 then End
    else (if has_lasted silent (ping_limit stage timeouts) 1000 then Ping else Wait)

-- whether a connection at a stage of its session makes room for another, where that is wanted
abbrev pub makes_room : Bool → Stage → Bool
makes_room is_wanted Silent = is_wanted
makes_room is_wanted Discovery = is_wanted
makes_room is_wanted Entered = false

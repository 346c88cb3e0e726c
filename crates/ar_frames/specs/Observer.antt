-- Calls of an observer.
use Rattle.std.specs.Prelude.{ℕ}
use Rattle.ar_disks.specs.declared.address.Host.{Host}
use Rattle.ar_frames.specs.declared.transfer.Sent.{Sent}
use Rattle.ar_frames.specs.declared.frame.Request.{Request}

-- what the call before a command does: the observer before, the host, the command's number, the request, the observer
-- after
abbrev pub Announces : Type 0 → Type 1
Announces O = O → Host → ℕ → Request → O → Type 0

-- what the call after a reply does: the observer before, the host, the command's number, how far the reply was
-- written, the observer after
abbrev pub Reports : Type 0 → Type 1
Reports O = O → Host → ℕ → Sent → O → Type 0

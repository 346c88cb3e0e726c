use Rattle.std.proofs.Common.{◌≡◌, take}
use Rattle.ar_media.specs.Calls.{seen_of, LeftNow}
use Rattle.ar_media.specs.Kept.{calls_of}
use Rattle.ar_media.proofs.memory.MemoryFile.after_crash.Given as goal

abbrev pub invariant-loop-index : goal.invariant-loop-index
invariant-loop-index l =
    let first = l.self.first.items in
    let calls = calls_of (take l.index l.self.calls.items) in
    record { seen : l.seen.items ≡ seen_of first calls; left : LeftNow first calls l.left.items }

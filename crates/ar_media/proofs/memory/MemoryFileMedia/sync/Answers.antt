use Rattle.ar_media.specs.Kept.{calls_of}
use Rattle.ar_media.specs.CallLaws.{seen_stays}
use Rattle.ar_media.proofs.memory.MemoryFileMedia.sync.Goals as goal

pub returns-clause-crash : goal.returns-clause-crash
returns-clause-crash c =
    let old = c.args.self.now in
    rw c.in_ok-note.ensures.ok λ left same. rw same (seen_stays old.first.items (calls_of old.calls.items))

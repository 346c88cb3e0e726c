use Rattle.ar_media.specs.CallLaws.{seen_stays}
use Rattle.ar_media.proofs.regular.RegularFileMedia.sync.Goals as goal

pub returns-in-Ok-clause-crash : goal.returns-in-Ok-clause-crash
returns-in-Ok-clause-crash c =
    let old = c.args.self.now.history in
    rw (c.note.ensures.0, c.note.ensures.1) λ left same. rw same (seen_stays old.first old.calls)

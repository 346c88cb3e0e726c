use Rattle.std.proofs.Common.{sym, ◌∙◌, subst}
use Rattle.ar_media.specs.Media.{Cut}
use Rattle.ar_media.specs.Calls.{seen_of}
use Rattle.ar_media.specs.CallLaws.{Cut-padded}
use Rattle.ar_media.proofs.Files.{padded_within, seen_next}
use Rattle.ar_media.proofs.regular.RegularFileMedia.cut.Goals as goal

pub returns-in-Ok-clause-cut : goal.returns-in-Ok-clause-cut
returns-in-Ok-clause-cut c within = seen_next _ _ _ _ _ c.note.ensures ∙ padded_within _ c.args.len within

pub returns-in-Ok-clause-torn : goal.returns-in-Ok-clause-torn
returns-in-Ok-clause-torn c =
    let old = c.args.self.now.history in
    subst (Cut c.args.len (seen_of old.first old.calls)) (sym (seen_next _ _ _ _ _ c.note.ensures))
    (Cut-padded _ c.args.len)

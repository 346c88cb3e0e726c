use Rattle.std.proofs.Common.{◌≡◌, length, take, sym, ◌∙◌, ap, subst, arith, rules, take_all, length-take}
use Rattle.ar_media.specs.Media.{Torn}
use Rattle.ar_media.specs.Calls.{seen_of, overlaid}
use Rattle.ar_media.specs.CallLaws.{Torn-overlaid}
use Rattle.ar_media.proofs.Files.{overlaid_within, seen_next}
use Rattle.ar_media.proofs.regular.RegularFileMedia.write_at.Goals as goal

pub returns-in-Ok-clause-written : goal.returns-in-Ok-clause-written
returns-in-Ok-clause-written c within =
    let old = c.args.self.now.history in
    let bytes = c.args.bytes.now in
    let done = c.write_front-done.result.0 in
    let whole : done ≡ length bytes = search rules in
    let all : take done bytes ≡ bytes = take_all done bytes (omega (arith, whole)) in
    seen_next _ _ _ _ _ c.note.ensures ∙ ap (overlaid (seen_of old.first old.calls) c.args.at) all
    ∙ overlaid_within _ c.args.at bytes within

pub returns-in-Ok-clause-torn : goal.returns-in-Ok-clause-torn
returns-in-Ok-clause-torn c =
    let old = c.args.self.now.history in
    let bytes = c.args.bytes.now in
    let done = c.write_front-done.result.0 in
    subst (Torn c.args.at (length bytes) (seen_of old.first old.calls)) (sym (seen_next _ _ _ _ _ c.note.ensures))
    (Torn-overlaid _ c.args.at (length bytes) (take done bytes) (omega (arith, length-take done bytes)))

pub returns-in-Err-clause-torn : goal.returns-in-Err-clause-torn
returns-in-Err-clause-torn c =
    let old = c.args.self.now.history in
    let bytes = c.args.bytes.now in
    let done = c.write_front-done.result.0 in
    subst (Torn c.args.at (length bytes) (seen_of old.first old.calls)) (sym (seen_next _ _ _ _ _ c.note.ensures))
    (Torn-overlaid _ c.args.at (length bytes) (take done bytes) (omega (arith, length-take done bytes)))

use Rattle.std.proofs.Common.{◌≡◌, length, take, sym, ◌∙◌, ap, subst, arith, rules, take_all, length-take}
use Rattle.ar_media.specs.Media.{Torn}
use Rattle.ar_media.specs.Calls.{overlaid}
use Rattle.ar_media.specs.CallLaws.{Torn-overlaid}
use Rattle.ar_media.proofs.Files.{overlaid_within}
use Rattle.ar_media.proofs.memory.MemoryFileMedia.write_at.Goals as goal

pub returns-then-fits-bytes-clause-torn : goal.returns-then-fits-bytes-clause-torn
returns-then-fits-bytes-clause-torn c =
    let old = c.args.self.now.bytes.items in
    let bytes = c.args.bytes.now in
    let fits = c.min-fits.result in
    let is : c.in_ok-next.next.items ≡ overlaid old c.args.at (take fits bytes) = search rules in
    subst (Torn c.args.at (length bytes) old) (sym is) (Torn-overlaid old c.args.at (length bytes)
    (take fits bytes) (omega (arith, length-take fits bytes)))

pub returns-clause-torn : goal.returns-clause-torn
returns-clause-torn c =
    let old = c.args.self.now.bytes.items in
    let bytes = c.args.bytes.now in
    let fits = c.min-fits.result in
    let is : c.in_ok-next.next.items ≡ overlaid old c.args.at (take fits bytes) = search rules in
    subst (Torn c.args.at (length bytes) old) (sym is) (Torn-overlaid old c.args.at (length bytes)
    (take fits bytes) (omega (arith, length-take fits bytes)))

pub returns-clause-written : goal.returns-clause-written
returns-clause-written c within =
    let old = c.args.self.now.bytes.items in
    let bytes = c.args.bytes.now in
    let fits = c.min-fits.result in
    let is : c.in_ok-next.next.items ≡ overlaid old c.args.at (take fits bytes) = search rules in
    let all : take fits bytes ≡ bytes = take_all fits bytes (omega (arith, c.if-fits-bytes.false)) in
    is ∙ ap (overlaid old c.args.at) all ∙ overlaid_within old c.args.at bytes within

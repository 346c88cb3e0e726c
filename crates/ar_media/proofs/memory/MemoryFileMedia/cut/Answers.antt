use Rattle.std.proofs.Common.{◌≡◌, sym, ◌∙◌, subst, rules}
use Rattle.ar_media.specs.Media.{Cut}
use Rattle.ar_media.specs.Calls.{padded}
use Rattle.ar_media.specs.CallLaws.{Cut-padded}
use Rattle.ar_media.proofs.Files.{padded_within}
use Rattle.ar_media.proofs.memory.MemoryFileMedia.cut.Goals as goal

pub returns-clause-cut : goal.returns-clause-cut
returns-clause-cut c within =
    let is : c.in_ok-next.next.items ≡ padded c.args.self.now.bytes.items c.args.len = search rules in
    is ∙ padded_within _ c.args.len within

pub returns-clause-torn : goal.returns-clause-torn
returns-clause-torn c =
    let is : c.in_ok-next.next.items ≡ padded c.args.self.now.bytes.items c.args.len = search rules in
    subst (Cut c.args.len c.args.self.now.bytes.items) (sym is) (Cut-padded _ c.args.len)

use Rattle.std.proofs.Common.{sym}
use Rattle.ar_disks.specs.Members.{member}
use Rattle.ar_extents.specs.Plans.{read_at}
use Rattle.ar_extents.proofs.Asking.{unread, read_changes_none, read_works}
use Rattle.ar_parity.proofs.Plans.{attempt_at}
use Rattle.ar_parity.proofs.Working.{unread_beside}
use Rattle.ar_parity.proofs.steps.read_beside.Goals as goal

pub returns-in-Missing : goal.returns-in-Missing
returns-in-Missing g c =
    let m = c.args.members.now in
    let other = c.requires.beside in
    let tried = attempt_at (λ p. read_at p c.args.row) _ _ (member m c.args.position) _ _ c.at.ensures
    (unread _ _ _ _ c.in-Missing.is c.get_part.ensures.made) in
    record {
      answer = unread_beside (member m other.lost) (member m c.args.position) c.args.row _ _ other.is_lost
          (λ same. c.requires.group.apart c.args.position other.lost c.requires.below other.below other.apart
          (sym same)) tried;
      bytes = tt;
      health = tt;
      made = tried;
      keeps = read_changes_none _ _ _ _ _ tried;
      works = read_works _ _ _ _ _ tried;
    }

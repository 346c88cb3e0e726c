use Rattle.ar_core.proofs.Hosts.{same_reply, same_broken_reply}
use Rattle.ar_core.proofs.laws.own_entries_decide_replies.Goals as goal

pub returns : goal.returns
returns c = record { sound = same_reply; broken = same_broken_reply }

use Rattle.std.proofs.Common.{◌≡◌, ℕ, List, take, subst, arith}
use Rattle.ar_scsi.specs.Reply.{good}
use Rattle.ar_target.specs.Luns.{lun_list, FindsLuns, none_sought, one_sought, all_reported, search_stopped}
use Rattle.ar_target.specs.OwnCommands.{IsReturned}
use Rattle.ar_target.proofs.Finding.{one_more}
use Rattle.ar_target.proofs.luns.report_luns.Goals as goal

pub loop-lun-init : goal.loop-lun-init
loop-lun-init g c = record {
  finds = rw c.new-found.ensures.items none_sought;
  few = rw c.new-found.ensures.items (omega arith);
  logged = c.requires.logged;
}

pub returns-in-Some-clause-reports : goal.returns-in-Some-clause-reports
returns-in-Some-clause-reports g c =
    search_stopped _ _ _ _ _ (omega arith) c.loop-lun.invariant.finds c.in-Some.ensures.stops

pub loop-lun-preserved : goal.loop-lun-preserved
loop-lun-preserved g c = record {
  finds = one_sought _ _ _ _ _ c.loop-lun.invariant.finds c.in_default.ensures.seeks;
  few = one_more _ _ _ c.loop-lun.invariant.few c.in_default.ensures.seeks;
  logged = c.look_for.ensures.stays;
}

pub returns-clause-reports : goal.returns-clause-reports
returns-clause-reports g c =
    let all : c.loop-lun.lun ≡ 8 = omega arith in
    all_reported c.loop-lun.found.items _ _
    (subst (λ (n : ℕ). FindsLuns g.P.Port.commands c.args.port.now n c.loop-lun.found.items c.loop-lun.port) all
    c.loop-lun.invariant.finds)
    (subst (λ (l : List ℕ). IsReturned (good (take c.args.len (lun_list l))) c.list_reply.result) c.deref.ensures.value
    c.list_reply.ensures.answer)

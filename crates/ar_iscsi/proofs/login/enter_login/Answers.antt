use Rattle.ar_iscsi.proofs.Oks.{if_ok}
use Rattle.ar_iscsi.specs.LoginTurn.{kept_out}
use Rattle.ar_iscsi.proofs.login.enter_login.Goals as goal

pub returns-in_default : goal.returns-in_default
returns-in_default g c = record {
  enters = if_ok c.refuse_login.result _ _
      (λ ended h. kept_out c.admit.result c.in_default.not-Success c.admit.ensures.admits h)
      c.refuse_login.ensures.refuses;
  once = c.admit.ensures.once;
  unlogged =
      if_ok c.refuse_login.result _ _ (λ ended h e. absurd (cc (h.ended_same, e))) c.refuse_login.ensures.refuses;
  logged = if_ok c.refuse_login.result _ _
      (λ ended h e n. absurd (cc (h.ended_same, e))) c.refuse_login.ensures.refuses;
  name = c.refuse_login.ensures.name;
}

use Rattle.std.proofs.Common.{◌∙◌, ◌<◌, refl, sym, ap, subst, length}
use Rattle.ecr_model.specs.registry.Scripts.{Realm}
use Rattle.ecr_model.specs.http.Stream.{Point}
use Rattle.ecr_session.specs.Accounts.{no_account}
use Rattle.ecr_session.proofs.StartLemmas.{HasCome-start}
use Rattle.ecr_session.proofs.session.Session.run.Goals as goal

pub loop-end-init : goal.loop-end-init
loop-end-init g c = record {
  come = (no_account, c.requires.none, HasCome-start _ _ _ c.requires.fresh refl);
  opened = ap (λ (p : Point). p.closed) c.requires.fresh;
  some = c.requires.some;
}

pub returns-in-Some : goal.returns-in-Some
returns-in-Some g c =
    let come = c.loop-end.invariant.come in
    record { serves = c.in-Some.ensures.goes_on _ _ come.0 come.1 refl come.2 }

pub loop-end-preserved : goal.loop-end-preserved
loop-end-preserved g c =
    let come = c.loop-end.invariant.come in
    let on = c.in_default.ensures.goes_on _ _ come.0 come.1 refl come.2 in
    record {
      come = (on.0, on.1, on.2);
      opened = on.3;
      some = subst (λ (r : Realm). 0 < length r.served)
          (come.2.realm_stays ∙ sym on.2.realm_stays) c.loop-end.invariant.some;
    }

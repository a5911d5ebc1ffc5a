use Rattle.std.proofs.Common.{◌≡◌, ◌∙◌, List, codes, refl, sym, ap, subst}
use Rattle.std.proofs.lemmas.Result.{IfOk-weaker, on_err_weaker}
use Rattle.ecr_model.specs.declared.names.SiteId.{SiteId}
use Rattle.ecr_model.specs.requests.Actions.{asks, refuses, reading}
use Rattle.ecr_model.specs.requests.Posed.{base_of, target_of}
use Rattle.ecr_model.specs.requests.Rendered.{refused}
use Rattle.ecr_model.specs.http.Replies.{empty_reply}
use Rattle.ecr_api.specs.Readings.{meaning}
use Rattle.ecr_http.specs.Replies.{message_bytes}
use Rattle.ecr_session.proofs.AnswerLemmas.{IsReplied-refused, IsReplied-same, IsReplied-unrouted, HasReading-refused, StoppedWith-same, posed_of-api, posed_of-unrouted}
use Rattle.ecr_session.proofs.AskLemmas.{reading-askable, site_for-served}
use Rattle.ecr_session.proofs.TurnLemmas.{OnErr-always, StoppedWith-nothing}
use Rattle.ecr_session.proofs.answer.try_answer.Goals as goal

pub returns-then-not-is_json_call-clause-replied : goal.returns-then-not-is_json_call-clause-replied
returns-then-not-is_json_call-clause-replied g c =
    IsReplied-unrouted _ _ _ _ _ _ _ (posed_of-unrouted _ _ (sym c.is_json_call.ensures ∙ c.if-not-is_json_call.true))
    (ap message_bytes c.plain.ensures.reply ∙ c.in_ok-reply.ensures
    ∙ ap (λ b. empty_reply b (codes "404 Not Found")) c.closes.ensures.closes) c.plain.ensures.sealed

pub returns-in_err-reply-clause-stopped : goal.returns-in_err-reply-clause-stopped
returns-in_err-reply-clause-stopped g c = OnErr-always _ _ (StoppedWith-nothing _ _ _ _ refl)

pub answer_asked-requires-clause-askable : goal.answer_asked-requires-clause-askable
answer_asked-requires-clause-askable g c =
    let served = (g.D.AnyDesk.seen c.args.desk.now).realm.served in
    let request = c.args.request.now in
    let reads = subst (λ (s : List SiteId). reading (target_of request) request.body (base_of s request) s ≡ asks
    (meaning c.in-Ok.asked)) c.served.ensures.sites c.in-Ok.ensures.exact in
    reading-askable _ _ _ _ _ (site_for-served served _ c.requires) reads

pub returns-in-Ok-clause-replied : goal.returns-in-Ok-clause-replied
returns-in-Ok-clause-replied g c =
    let served = (g.D.AnyDesk.seen c.args.desk.now).realm.served in
    let request = c.args.request.now in
    let reads = subst (λ (s : List SiteId). reading (target_of request) request.body (base_of s request) s ≡ asks
    (meaning c.in-Ok.asked)) c.served.ensures.sites c.in-Ok.ensures.exact in
    let posed = posed_of-api served request _ (sym c.is_json_call.ensures ∙ c.if-not-is_json_call.false) reads in
    IfOk-weaker c.answer_asked.result _ _ (λ r e. IsReplied-same _ _ _ _ _ _ _ r.reply r.sealed _ _ posed
    c.closes-in-Ok.ensures.closes e) c.answer_asked.ensures.replied

pub returns-in-Ok-clause-stopped : goal.returns-in-Ok-clause-stopped
returns-in-Ok-clause-stopped g c =
    let served = (g.D.AnyDesk.seen c.args.desk.now).realm.served in
    let request = c.args.request.now in
    let reads = subst (λ (s : List SiteId). reading (target_of request) request.body (base_of s request) s ≡ asks
    (meaning c.in-Ok.asked)) c.served.ensures.sites c.in-Ok.ensures.exact in
    let posed = posed_of-api served request _ (sym c.is_json_call.ensures ∙ c.if-not-is_json_call.false) reads in
    on_err_weaker c.answer_asked.result (λ s. StoppedWith-same _ _ _ _ _ _ _ posed s) c.answer_asked.ensures.stopped

pub returns-in_ok-reply-in-Err-Refused-clause-replied : goal.returns-in_ok-reply-in-Err-Refused-clause-replied
returns-in_ok-reply-in-Err-Refused-clause-replied g c =
    let served = (g.D.AnyDesk.seen c.args.desk.now).realm.served in
    let request = c.args.request.now in
    let reads = subst (λ (s : List SiteId). reading (target_of request) request.body (base_of s request) s
    ≡ refuses c.in-Err-Refused.refusal) c.served.ensures.sites
    (HasReading-refused _ _ _ c.in-Err-Refused.field-0-is c.in-Err-Refused.ensures.exact) in
    let posed = posed_of-api served request _ (sym c.is_json_call.ensures ∙ c.if-not-is_json_call.false) reads in
    IsReplied-refused _ _ c.in-Err-Refused.refusal _ _ _ _ _ posed
    (ap message_bytes c.plain-in-Err-Refused.ensures.reply ∙ c.in_ok-reply-in-Err-Refused.ensures.exact
    ∙ ap (refused c.in-Err-Refused.refusal) c.closes-in-Err-Refused.ensures.closes)
    c.plain-in-Err-Refused.ensures.sealed

pub returns-in_err-reply-in-Err-Refused-clause-stopped : goal.returns-in_err-reply-in-Err-Refused-clause-stopped
returns-in_err-reply-in-Err-Refused-clause-stopped g c = OnErr-always _ _ (StoppedWith-nothing _ _ _ _ refl)

pub returns-in-Err-Mem-clause-stopped : goal.returns-in-Err-Mem-clause-stopped
returns-in-Err-Mem-clause-stopped g c = StoppedWith-nothing _ _ _ _ refl

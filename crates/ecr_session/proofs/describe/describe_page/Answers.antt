use Rattle.std.proofs.Common.{◌∙◌, ℕ, List, [], Option, ap, subst}
use Rattle.std.proofs.lemmas.Result.{IfOk-weaker, on_err_weaker}
use Rattle.ecr_model.specs.declared.names.Name.{Name}
use Rattle.ecr_model.specs.declared.requests.reply.SiteReply.{SiteReply}
use Rattle.ecr_model.specs.declared.requests.call.SiteCall.TheVariants as site_calls
use Rattle.ecr_model.specs.requests.Requests.{listed_script, next_place, site_script}
use Rattle.ecr_session.specs.Turns.{RanWith, StoppedWith}
use Rattle.ecr_session.proofs.AnswerLemmas.{RanWith-page, StoppedWith-no_page, StoppedWith-page}
use Rattle.ecr_session.proofs.TurnLemmas.{OnErr-always, RanWith-ends}
use Rattle.ecr_session.proofs.describe.describe_page.Goals as goal

pub returns-in_err-names-clause-stopped : goal.returns-in_err-names-clause-stopped
returns-in_err-names-clause-stopped g c =
    OnErr-always _ _ (StoppedWith-no_page _ _ _ _ _ _ _ c.in_err-names.ensures.stopped)

pub returns-in-Names-clause-ran : goal.returns-in-Names-clause-ran
returns-in-Names-clause-ran g c =
    let seen = g.D.AnyDesk.seen in
    let told = subst (λ (r : SiteReply). RanWith (seen c.args.desk.now) (seen c.site_at.new.desk)
    (site_script c.args.site.now (site_calls.Names c.args.page)) r c.args.places.now.items
    c.site_at.new.places.items) c.in-Names.is c.in_ok-names.ensures.ran in
    let next = c.next_place-next.ensures
    ∙ ap (λ (names : List Name). next_place c.args.page names c.in-Names.more) c.as_slice-names.ensures.items in
    IfOk-weaker c.describe_listed.result _ _
    (λ r w. RanWith-page _ _ _ _ _ _ _ r _ _ _ told
    (subst (λ (o : Option ℕ). RanWith (seen c.site_at.new.desk) (seen c.describe_listed.new.desk)
    (listed_script c.args.site.now c.args.moment o [] c.in-Names.names) r c.site_at.new.places.items
    c.describe_listed.new.places.items) next
    (subst (λ (names : List Name). RanWith (seen c.site_at.new.desk) (seen c.describe_listed.new.desk)
    (listed_script c.args.site.now c.args.moment c.next_place-next.result [] names) r c.site_at.new.places.items
    c.describe_listed.new.places.items) c.as_slice-names.ensures.items w)))
    c.describe_listed.ensures.ran

pub returns-in-Names-clause-stopped : goal.returns-in-Names-clause-stopped
returns-in-Names-clause-stopped g c =
    let seen = g.D.AnyDesk.seen in
    let told = subst (λ (r : SiteReply). RanWith (seen c.args.desk.now) (seen c.site_at.new.desk)
    (site_script c.args.site.now (site_calls.Names c.args.page)) r c.args.places.now.items
    c.site_at.new.places.items) c.in-Names.is c.in_ok-names.ensures.ran in
    let next = c.next_place-next.ensures
    ∙ ap (λ (names : List Name). next_place c.args.page names c.in-Names.more) c.as_slice-names.ensures.items in
    on_err_weaker c.describe_listed.result
    (λ w. StoppedWith-page _ _ _ _ _ _ _ _ _ _ told
    (subst (λ (o : Option ℕ). StoppedWith (seen c.site_at.new.desk) (seen c.describe_listed.new.desk)
    (listed_script c.args.site.now c.args.moment o [] c.in-Names.names) c.site_at.new.places.items
    c.describe_listed.new.places.items) next
    (subst (λ (names : List Name). StoppedWith (seen c.site_at.new.desk) (seen c.describe_listed.new.desk)
    (listed_script c.args.site.now c.args.moment c.next_place-next.result [] names) c.site_at.new.places.items
    c.describe_listed.new.places.items) c.as_slice-names.ensures.items w)))
    c.describe_listed.ensures.stopped

pub returns-in-Refused-clause-ran : goal.returns-in-Refused-clause-ran
returns-in-Refused-clause-ran g c =
    let seen = g.D.AnyDesk.seen in
    let told = subst (λ (r : SiteReply). RanWith (seen c.args.desk.now) (seen c.site_at.new.desk)
    (site_script c.args.site.now (site_calls.Names c.args.page)) r c.args.places.now.items
    c.site_at.new.places.items) c.in-Refused.is c.in_ok-names.ensures.ran in
    RanWith-page _ _ _ _ _ _ _ _ _ _ _ told (RanWith-ends _ _ _)

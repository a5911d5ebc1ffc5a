use Rattle.std.proofs.Common.{List, ℕ, map, subst, take}
use Rattle.ecr_model.specs.declared.names.SiteId.{SiteId}
use Rattle.ecr_serve.specs.Words.{IsNew}
use Rattle.ecr_serve.proofs.WordsLemmas.{AreSites-more, no_sites-at}
use Rattle.ecr_serve.proofs.words.read_sites.Goals as goal

pub returns-in_default : goal.returns-in_default
returns-in_default g c =
    let earlier = map g.S.AsStr.text (take c.loop-i.i c.args.words.now) in
    no_sites-at g.S.AsStr.text c.args.words.now c.loop-i.i c.index-words-i.result c.loop-i-test.true c.index-words-i.is
    (subst (λ (word : List ℕ). (site : SiteId) → ¬ (IsNew earlier word site)) c.as_str.ensures
    (rw c.in_default.is at c.in_ok-site.ensures))

pub loop-i-preserved : goal.loop-i-preserved
loop-i-preserved g c =
    let words = c.args.words.now in
    let earlier = map g.S.AsStr.text (take c.loop-i.i words) in
    rw c.in_ok-push.ensures.items
    (AreSites-more g.S.AsStr.text words c.loop-i.i c.index-words-i.result c.loop-i.sites.items c.in-Some.site
    c.loop-i-test.true c.index-words-i.is c.loop-i.invariant
    (subst (λ (word : List ℕ). IsNew earlier word c.in-Some.site) c.as_str.ensures
    (rw c.in-Some.is at c.in_ok-site.ensures)))

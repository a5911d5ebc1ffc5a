use Rattle.std.proofs.Common.{◌≡◌, ◌∙◌, List, Option, None, Some, codes, map, ap, subst, sym}
use Rattle.std.specs.Prelude.{IfOk, MatchOption, option_map}
use Rattle.clap.specs.Words.{Text, all_of, found_of, rows_of}
use Rattle.clap.proofs.WalkLemmas.{raw_values-rows}
use Rattle.ecr_model.specs.declared.names.SiteId.{SiteId}
use Rattle.ecr_serve.specs.Server.{AreSiteTexts}
use Rattle.ecr_serve.proofs.server_words.sites_in.Goals as goal

pub returns-in-None : goal.returns-in-None
returns-in-None c = λ sites h.
    let there = c.get_strs.ensures ∙ raw_values-rows (found_of c.args.matches.now) (codes "sites") in
    let none = sym (ap (option_map (λ s. map (λ v. v.now) s.now)) c.in-None.is) ∙ there in
    subst (λ (t : Option (List Text)). AreSiteTexts t sites) (sym none) h

pub returns-in-Some : goal.returns-in-Some
returns-in-Some c =
    let there = c.get_strs.ensures ∙ raw_values-rows (found_of c.args.matches.now) (codes "sites") in
    let some = sym (ap (option_map (λ s. map (λ v. v.now) s.now)) c.in-Some.is) ∙ there in
    subst
    (λ (t : Option (List Text)). IfOk c.read_site_texts.result
    (λ o. MatchOption o ((sites : List SiteId) → AreSiteTexts t sites → ⊥) (AreSiteTexts t)))
    some c.read_site_texts.ensures

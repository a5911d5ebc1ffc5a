use Rattle.std.proofs.Common.{◌≡◌, ◌-◌, ◌+◌, length, false, true, sym, arith}
use Rattle.std.proofs.lemmas.Grind.{common_steps}
use Rattle.ecr_model.specs.names.Sites.{is_site_word}
use Rattle.ecr_model.proofs.lemmas.names.SitesLemmas.{site_of-off, site_of-on, site_of-none, site_of-ReadsSite}
use Rattle.ecr_base.proofs.sites.read_site.Goals as goal

pub returns-then-not-is_site_word-clause-exact : goal.returns-then-not-is_site_word-clause-exact
returns-then-not-is_site_word-clause-exact c =
    let off : is_site_word c.args.word.now ≡ false = cc in
    site_of-none c.args.word.now (site_of-off c.args.word.now off)

pub returns-then-not-is_site_word-clause-computed : goal.returns-then-not-is_site_word-clause-computed
returns-then-not-is_site_word-clause-computed c =
    let off : is_site_word c.args.word.now ≡ false = cc in
    sym (site_of-off c.args.word.now off)

pub returns-clause-exact : goal.returns-clause-exact
returns-clause-exact c =
    let on : is_site_word c.args.word.now ≡ true = cc in
    let word = c.args.word.now in
    let next : length word - 13 + 1 ≡ length word - 12 = omega (arith, c.if-not-is_site_word.ensures.long) in
    (site_of-ReadsSite word _).0
    (site_of-on word c.in_ok-region.region c.in_ok-account.account on (grind (arith, common_steps))
    (grind (arith, common_steps)))

pub returns-clause-computed : goal.returns-clause-computed
returns-clause-computed c =
    let on : is_site_word c.args.word.now ≡ true = cc in
    let word = c.args.word.now in
    let next : length word - 13 + 1 ≡ length word - 12 = omega (arith, c.if-not-is_site_word.ensures.long) in
    sym (site_of-on word c.in_ok-region.region c.in_ok-account.account on (grind (arith, common_steps))
    (grind (arith, common_steps)))

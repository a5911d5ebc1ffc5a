use Rattle.std.proofs.Common.{◌≡◌, ◌∙◌, List, map, string_bytes, codes, rules, ap, ap₂, subst}
use Rattle.std.proofs.lemmas.Result.{IfOk-weaker}
use Rattle.clap.specs.Words.{App, FailsBy, Text, app_of, fault_of, is_simple, is_simple_and_free, matches_of, rule_of, with_rule}
use Rattle.clap.specs.Lexer.{usize_max}
use Rattle.ecr_serve.specs.Server.{address_rule, option_rule, serve_app, sites_rule}
use Rattle.ecr_serve.proofs.ServerWordsLemmas.{failed, parsed, range_is, serve_app-free, serve_app-simple}
use Rattle.ecr_serve.proofs.server_words.parse.Goals as goal

pub returns-clause-ok : goal.returns-clause-ok
returns-clause-ok c =
    let words : List Text = map string_bytes c.args.words.now in
    let workers_is : rule_of c.long-workers.result ≡ option_rule (codes "workers") = search rules in
    let copiers_is : rule_of c.long-copiers.result ≡ option_rule (codes "copiers") = search rules in
    let address_is : rule_of c.required-address.result ≡ address_rule = search rules in
    let num_is = range_is c.num_args-sites.result.num_vals
    (record { start_inclusive = 1; end_inclusive = usize_max }) c.num_args-sites.ensures.1 in
    let sites_is : rule_of c.num_args-sites.result ≡ sites_rule = search rules in
    let app_is : app_of c.in_ok-command.command ≡ serve_app = c.in_ok-command.ensures.shape (search rules)
    ∙ ap₂ with_rule (c.in_ok-arg-3.ensures.shape (search rules)
    ∙ ap₂ with_rule (c.in_ok-arg-2.ensures.shape (search rules)
    ∙ ap₂ with_rule (c.in_ok-arg.ensures.shape (search rules)
    ∙ ap₂ with_rule c.new-5.ensures.app workers_is) copiers_is)
    address_is) sites_is in
    let parse = c.try_get_matches_from in
    parsed (fault_of serve_app words) (matches_of serve_app words) parse.result
    (subst (λ (a : App). FailsBy (fault_of a words) parse.result) app_is
    (parse.ensures.kinds (ap is_simple_and_free app_is ∙ serve_app-free)))
    (IfOk-weaker parse.result _ _
    (λ m h. (h (ap is_simple app_is ∙ serve_app-simple)).0 ∙ ap (λ (a : App). matches_of a words) app_is)
    parse.ensures.matches)

pub returns-clause-err : goal.returns-clause-err
returns-clause-err c =
    let words : List Text = map string_bytes c.args.words.now in
    let workers_is : rule_of c.long-workers.result ≡ option_rule (codes "workers") = search rules in
    let copiers_is : rule_of c.long-copiers.result ≡ option_rule (codes "copiers") = search rules in
    let address_is : rule_of c.required-address.result ≡ address_rule = search rules in
    let num_is = range_is c.num_args-sites.result.num_vals
    (record { start_inclusive = 1; end_inclusive = usize_max }) c.num_args-sites.ensures.1 in
    let sites_is : rule_of c.num_args-sites.result ≡ sites_rule = search rules in
    let app_is : app_of c.in_ok-command.command ≡ serve_app = c.in_ok-command.ensures.shape (search rules)
    ∙ ap₂ with_rule (c.in_ok-arg-3.ensures.shape (search rules)
    ∙ ap₂ with_rule (c.in_ok-arg-2.ensures.shape (search rules)
    ∙ ap₂ with_rule (c.in_ok-arg.ensures.shape (search rules)
    ∙ ap₂ with_rule c.new-5.ensures.app workers_is) copiers_is)
    address_is) sites_is in
    let parse = c.try_get_matches_from in
    failed (fault_of serve_app words) parse.result
    (subst (λ (a : App). FailsBy (fault_of a words) parse.result) app_is
    (parse.ensures.kinds (ap is_simple_and_free app_is ∙ serve_app-free)))

use Rattle.std.proofs.Common.{◌≡◌, ◌∙◌, Option, subst}
use Rattle.std.specs.Prelude.{IfOk, MatchOption}
use Rattle.clap.specs.Words.{Text, first_of, found_of, rows_of}
use Rattle.clap.proofs.WalkLemmas.{first_value-rows}
use Rattle.ecr_serve.specs.Server.{IsCount, IsNoCount, text_of}
use Rattle.ecr_serve.proofs.server_words.count_in.Goals as goal

pub returns : goal.returns
returns c =
    let usual = c.args.usual in
    let most = c.args.most in
    let same : text_of c.get_str.result ≡ first_of c.args.name.now (rows_of (found_of c.args.matches.now)) =
    c.get_str.ensures ∙ first_value-rows (found_of c.args.matches.now) c.args.name.now in
    subst (λ (t : Option Text).
    IfOk c.read_count.result (λ o. MatchOption o (IsNoCount usual most t) (IsCount usual most t)))
    same c.read_count.ensures

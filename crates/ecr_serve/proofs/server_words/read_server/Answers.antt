use Rattle.std.proofs.Common.{◌≡◌, ℕ, [], List, map, string_bytes, codes, Some, rules, subst, sym}
use Rattle.std.specs.Prelude.{IfOk, MatchOption, slice_get}
use Rattle.std.proofs.lemmas.Result.{IfOk-weaker}
use Rattle.clap.specs.Words.{Row, Text, fault_of, found_of, matches_of, rows_of}
use Rattle.ecr_model.specs.declared.names.SiteId.{SiteId}
use Rattle.ecr_serve.specs.Server.{AreTexts, serve_app}
use Rattle.ecr_serve.proofs.ServerWordsLemmas.{MatchOption-weaker}
use Rattle.ecr_serve.proofs.server_words.read_server.Goals as goal

pub returns : goal.returns
returns c =
    let words : List Text = map string_bytes c.args.words.now in
    let rows : List Row = rows_of (found_of c.in-Some.matches) in
    let read = rw c.in-Some.is at c.in_ok-matches.ensures in
    let command : slice_get words 0 ≡ Some (codes "serve") = c.is_server.ensures.0 (search rules) in
    let texts : IfOk c.read_texts.result
    (λ o. MatchOption o
    ((workers copiers : ℕ) (address : Text) (sites : List SiteId)
    → AreTexts rows workers copiers address sites → ⊥)
    (λ s. AreTexts rows s.workers s.copiers s.address.now s.sites)) = c.read_texts.ensures in
    IfOk-weaker c.read_texts.result _ _
    (λ o h. MatchOption-weaker o
    (λ none workers copiers address sites server. none workers copiers address sites
    (subst (λ (rs : List Row). AreTexts rs workers copiers address sites) (sym read.1) server.texts))
    (λ s found. record {
      command = command;
      taken = read.0;
      texts = subst (λ (rs : List Row). AreTexts rs s.workers s.copiers s.address.now s.sites) read.1 found;
    }) h) texts

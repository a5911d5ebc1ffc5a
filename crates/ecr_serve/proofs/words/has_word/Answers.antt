use Rattle.std.proofs.Common.{◌≡◌, rules, tests}
use Rattle.std.specs.List.{list_any}
use Rattle.std.specs.Str.{bytes_eq}
use Rattle.std.proofs.lemmas.Iterator.{YieldsList-from_slice}
use Rattle.std.proofs.lemmas.Iterator.Search.{any_from_yields_List}
use Rattle.ecr_serve.proofs.WordsLemmas.{Contains-list_any}
use Rattle.ecr_serve.proofs.words.has_word.Goals as goal

pub returns : goal.returns
returns g c =
    let words = c.args.words.now in
    let word = c.args.word.now in
    let e : c.any.result ≡ list_any (λ x. bytes_eq (g.S.AsStr.text x) word) words =
    any_from_yields_List (λ x. bytes_eq (g.S.AsStr.text x) word) _ _ c.any.result c.any.ensures.ran
    (YieldsList-from_slice words cc) (λ x b q k. search (rules, tests)) in
    rw e (Contains-list_any g.S.AsStr.text words word)

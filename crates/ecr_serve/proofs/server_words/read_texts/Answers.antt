use Rattle.std.proofs.Common.{◌≡◌, ◌∙◌, codes, None, Some, sym}
use Rattle.clap.specs.Words.{found_of, first_of, rows_of}
use Rattle.clap.proofs.WalkLemmas.{first_value-rows}
use Rattle.ecr_serve.proofs.server_words.read_texts.Goals as goal

pub returns-in_default-get_str : goal.returns-in_default-get_str
returns-in_default-get_str c = λ workers copiers address sites texts.
    let none : None ≡ first_of (codes "address") (rows_of (found_of c.args.matches.now)) =
    c.in_default-get_str.ensures ∙ first_value-rows (found_of c.args.matches.now) (codes "address") in
    let bad : None ≡ Some address = none ∙ texts.address_is in
    cc

pub returns : goal.returns
returns c = record {
  workers_are = rw c.in-Some.is at c.in_ok-workers.ensures;
  copiers_are = rw c.in-Some-2.is at c.in_ok-copiers.ensures;
  address_is = sym (c.in-Some-get_str.ensures ∙ first_value-rows (found_of c.args.matches.now) (codes "address"));
  sites_are = rw c.in-Some-3.is at c.in_ok-sites.ensures;
}

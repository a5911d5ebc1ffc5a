use Rattle.std.proofs.Common.{◌≡◌, arith}
use Rattle.std.proofs.lemmas.Grind.{common_steps}
use Rattle.ecr_model.specs.names.Names.{is_name}
use Rattle.ecr_model.proofs.lemmas.names.NamesLemmas.{is_name-IsName}
use Rattle.ecr_base.proofs.names.is_name.Goals as goal

pub returns-then-text-le-MAX_LENGTH-clause-exact : goal.returns-then-text-le-MAX_LENGTH-clause-exact
unfolding is_name
returns-then-text-le-MAX_LENGTH-clause-exact c =
    let computed : c.at_word.result ≡ is_name c.args.text.now = grind (arith, common_steps) in
    rw computed (is_name-IsName c.args.text.now)

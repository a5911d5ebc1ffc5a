use Rattle.ecr_model.proofs.lemmas.names.NamesLemmas.{is_name-IsName}
use Rattle.ecr_base.proofs.names.name_has_one_test.Goals as goal

pub returns : goal.returns
returns c = record { agree = is_name-IsName }

use Rattle.ecr_model.proofs.lemmas.http.StreamLemmas.{a_cut_changes_nothing}
use Rattle.ecr_model.proofs.laws.a_cut_changes_nothing.Goals as goal

pub returns : goal.returns
returns c = record { unchanged = a_cut_changes_nothing }

use Rattle.ecr_model.proofs.lemmas.examples.ViewExampleLemmas.{a_call_is_visited}
use Rattle.ecr_model.proofs.laws.views.a_call_is_visited.Goals as goal

pub returns : goal.returns
returns c = record { visited = a_call_is_visited }

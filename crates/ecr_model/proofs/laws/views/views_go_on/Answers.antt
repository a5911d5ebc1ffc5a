use Rattle.ecr_model.proofs.lemmas.registry.ViewLemmas.{visits_go_on, halts_go_on}
use Rattle.ecr_model.proofs.laws.views.views_go_on.Goals as goal

pub returns-clause-whole : goal.returns-clause-whole
returns-clause-whole c = visits_go_on

pub returns-clause-halted : goal.returns-clause-halted
returns-clause-halted c = halts_go_on

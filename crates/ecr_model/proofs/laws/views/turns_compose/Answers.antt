use Rattle.ecr_model.proofs.lemmas.registry.ViewLemmas.{visits_then, visits_part, halts_first, halts_then, visits_halt}
use Rattle.ecr_model.proofs.laws.views.turns_compose.Goals as goal

pub returns-clause-whole : goal.returns-clause-whole
returns-clause-whole c = visits_then

pub returns-clause-parted : goal.returns-clause-parted
returns-clause-parted c = visits_part

pub returns-clause-in_the_first : goal.returns-clause-in_the_first
returns-clause-in_the_first c = halts_first

pub returns-clause-in_the_second : goal.returns-clause-in_the_second
returns-clause-in_the_second c = halts_then

pub returns-clause-at_the_end : goal.returns-clause-at_the_end
returns-clause-at_the_end c = visits_halt

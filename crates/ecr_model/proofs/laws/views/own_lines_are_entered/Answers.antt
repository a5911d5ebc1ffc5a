use Rattle.ecr_model.proofs.lemmas.registry.ViewLemmas.{own_lines_are_entered}
use Rattle.ecr_model.proofs.laws.views.own_lines_are_entered.Goals as goal

pub returns : goal.returns
returns c = record { entered = own_lines_are_entered }

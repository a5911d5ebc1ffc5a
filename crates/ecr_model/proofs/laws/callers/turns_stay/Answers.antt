use Rattle.ecr_model.proofs.lemmas.sessions.CallerLemmas.{entries_stay, turns_stay}
use Rattle.ecr_model.proofs.laws.callers.turns_stay.Goals as goal

pub returns-clause-stay : goal.returns-clause-stay
returns-clause-stay c = turns_stay

pub returns-clause-entries : goal.returns-clause-entries
returns-clause-entries c = entries_stay

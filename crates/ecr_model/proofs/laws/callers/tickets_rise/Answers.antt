use Rattle.ecr_model.proofs.lemmas.sessions.CallerLemmas.{places_rise, tickets_rise}
use Rattle.ecr_model.proofs.laws.callers.tickets_rise.Goals as goal

pub returns-clause-of_a_request : goal.returns-clause-of_a_request
returns-clause-of_a_request c = tickets_rise

pub returns-clause-of_a_session : goal.returns-clause-of_a_session
returns-clause-of_a_session c = places_rise

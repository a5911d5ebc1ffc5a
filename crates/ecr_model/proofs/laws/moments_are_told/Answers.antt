use Rattle.ecr_model.proofs.lemmas.sessions.SessionLemmas.{the_clock_tells_the_moments, a_fixed_moment_is_each}
use Rattle.ecr_model.proofs.laws.moments_are_told.Goals as goal

pub returns-clause-clock : goal.returns-clause-clock
returns-clause-clock c = the_clock_tells_the_moments

pub returns-clause-fixed : goal.returns-clause-fixed
returns-clause-fixed c = a_fixed_moment_is_each

use Rattle.ecr_site.proofs.CrossingLemmas.{SiteState-send}
use Rattle.ecr_site.proofs.laws.states_cross_threads.Goals as goal

pub returns : goal.returns
returns c = record { send = SiteState-send }

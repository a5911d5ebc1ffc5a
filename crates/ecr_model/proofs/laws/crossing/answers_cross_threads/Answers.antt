use Rattle.ecr_model.proofs.lemmas.registry.CrossingLemmas.{Line-send, Place-send, Reply-send, SiteReply-send, Registered-send}
use Rattle.ecr_model.proofs.laws.crossing.answers_cross_threads.Goals as goal

pub returns-clause-lines : goal.returns-clause-lines
returns-clause-lines c = Line-send

pub returns-clause-places : goal.returns-clause-places
returns-clause-places c = Place-send

pub returns-clause-replies : goal.returns-clause-replies
returns-clause-replies c = Reply-send

pub returns-clause-site_replies : goal.returns-clause-site_replies
returns-clause-site_replies c = SiteReply-send

pub returns-clause-registrations : goal.returns-clause-registrations
returns-clause-registrations c = Registered-send

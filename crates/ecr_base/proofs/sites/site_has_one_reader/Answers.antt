use Rattle.ecr_model.proofs.lemmas.names.SitesLemmas.{site_of-ReadsSite, site_of-site_word}
use Rattle.ecr_base.proofs.sites.site_has_one_reader.Goals as goal

pub returns-clause-exact : goal.returns-clause-exact
returns-clause-exact c = site_of-ReadsSite

pub returns-clause-reads_back : goal.returns-clause-reads_back
returns-clause-reads_back c = site_of-site_word

use Rattle.ecr_model.proofs.lemmas.names.DigestsLemmas.{digest_of-digest_text, digest_text-digest_of}
use Rattle.ecr_base.proofs.digests.digest_has_one_text.Goals as goal

pub returns-clause-reads_back : goal.returns-clause-reads_back
returns-clause-reads_back c = digest_of-digest_text

pub returns-clause-written : goal.returns-clause-written
returns-clause-written c = digest_text-digest_of

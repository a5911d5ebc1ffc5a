use Rattle.ecr_model.proofs.lemmas.registry.SoundnessLemmas.{sessions_keep_journals_sound}
use Rattle.ecr_model.proofs.laws.sessions_keep_journals_sound.Goals as goal

pub returns : goal.returns
returns c = record { sound = sessions_keep_journals_sound }

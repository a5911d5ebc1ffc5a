use Rattle.ecr_pages.proofs.examples.a_snapshot_stays_as_it_was.Given as goal

abbrev pub ghosts-snapshot_of_600 : goal.ghosts-snapshot_of_600
ghosts-snapshot_of_600 g a = record { name = a.blank.name; parts = a.blank.parts }

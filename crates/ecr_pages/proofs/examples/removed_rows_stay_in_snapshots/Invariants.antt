use Rattle.ecr_pages.proofs.examples.removed_rows_stay_in_snapshots.Given as goal

abbrev pub ghosts-removed_rows : goal.ghosts-removed_rows
ghosts-removed_rows g a = record { name = a.blank.name; parts = a.blank.parts }

use Rattle.ecr_pages.proofs.examples.births_may_lie_far_apart.Given as goal

abbrev pub ghosts-far_apart : goal.ghosts-far_apart
ghosts-far_apart g a = record { name = a.blank.name; parts = a.blank.parts }

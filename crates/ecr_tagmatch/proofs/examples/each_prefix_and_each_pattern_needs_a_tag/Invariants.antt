use Rattle.ecr_tagmatch.proofs.examples.each_prefix_and_each_pattern_needs_a_tag.Given as goal

abbrev pub ghosts-answers : goal.ghosts-answers
ghosts-answers g a = record { name = a.blank.name; parts = a.blank.parts }

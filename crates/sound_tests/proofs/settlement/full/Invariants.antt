use Rattle.sound_tests.proofs.settlement.full.Given as goal

abbrev pub ghosts-full_at : goal.ghosts-full_at
ghosts-full_at a = record { name = a.blank.name; parts = a.blank.parts }

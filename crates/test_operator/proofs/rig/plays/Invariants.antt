use Rattle.test_operator.proofs.rig.plays.Given as goal

abbrev pub ghosts-plays_on : goal.ghosts-plays_on
ghosts-plays_on g a = record { name = a.blank.name; parts = a.blank.parts }

use Rattle.autoraid.proofs.stored.serve_by.Given as goal

abbrev pub ghosts-serve_taken_up : goal.ghosts-serve_taken_up
ghosts-serve_taken_up g a = record { name = a.blank.name; parts = a.blank.parts }

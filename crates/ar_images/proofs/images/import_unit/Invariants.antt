use Rattle.ar_images.proofs.images.import_unit.Given as goal

abbrev pub ghosts-write_image : goal.ghosts-write_image
ghosts-write_image g a = record { name = a.blank.name; parts = a.blank.parts }

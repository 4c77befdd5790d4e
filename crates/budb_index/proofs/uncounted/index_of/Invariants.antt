use Rattle.budb_index.proofs.uncounted.index_of.Given as goal

abbrev pub ghosts-of_counted : goal.ghosts-of_counted
ghosts-of_counted a = record { name = a.blank.name; parts = a.blank.parts }

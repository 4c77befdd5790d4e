use Rattle.budb_index.proofs.uncounted.latest_of.Given as goal

abbrev pub ghosts-latest_counted : goal.ghosts-latest_counted
ghosts-latest_counted a = record { name = a.blank.name; parts = a.blank.parts }

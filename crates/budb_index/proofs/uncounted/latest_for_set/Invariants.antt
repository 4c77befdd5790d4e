use Rattle.budb_index.proofs.uncounted.latest_for_set.Given as goal

abbrev pub ghosts-greatest_counted : goal.ghosts-greatest_counted
ghosts-greatest_counted a = record { name = a.blank.name; parts = a.blank.parts }

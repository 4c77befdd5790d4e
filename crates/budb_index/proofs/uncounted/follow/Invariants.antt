use Rattle.budb_index.proofs.uncounted.follow.Given as goal

abbrev pub ghosts-follow_counted : goal.ghosts-follow_counted
ghosts-follow_counted a = record { name = a.blank.name; parts = a.blank.parts }

use Rattle.budb_index.proofs.uncounted.parent_of.Given as goal

abbrev pub ghosts-parent_counted : goal.ghosts-parent_counted
ghosts-parent_counted a = record { name = a.blank.name; parts = a.blank.parts }

use Rattle.low_rows.proofs.links.a_dump_is_taken_out.Given as goal

abbrev pub ghosts-holds : goal.ghosts-holds
ghosts-holds g a = record { name = a.blank.name; parts = a.blank.parts }

use Rattle.budb_index.proofs.uncounted.chain_of.Given as goal

abbrev pub ghosts-chain_counted : goal.ghosts-chain_counted
ghosts-chain_counted a = record { name = a.blank.name; parts = a.blank.parts }

use Rattle.budb_save.proofs.ReadLaws.{saves_whole, bad_where, read_again, read_bad}
use Rattle.budb_save.proofs.laws.a_save_is_read_in_one_way.Goals as goal

pub returns-clause-changes : goal.returns-clause-changes
returns-clause-changes c = read_again

pub returns-clause-bad : goal.returns-clause-bad
returns-clause-bad c = read_bad

pub returns-clause-whole : goal.returns-clause-whole
returns-clause-whole c = saves_whole

pub returns-clause-wrong : goal.returns-clause-wrong
returns-clause-wrong c = bad_where

use Rattle.budb_save.proofs.PlaceLaws.{one_bad, one_list, not_bad}
use Rattle.budb_save.proofs.laws.a_bad_save_has_one_place.Goals as goal

pub returns-clause-one : goal.returns-clause-one
returns-clause-one c = one_bad

pub returns-clause-changes : goal.returns-clause-changes
returns-clause-changes c = one_list

pub returns-clause-never : goal.returns-clause-never
returns-clause-never c = not_bad

use Rattle.backup_session.proofs.AgainLaws.{found_again, found_equal}
use Rattle.backup_session.proofs.laws.recorded_dumps_are_found_again.Goals as goal

pub returns-clause-found : goal.returns-clause-found
returns-clause-found c = λ w port stock a records held these. found_again c.one_reading.ensures w stock a records held these port

pub returns-clause-equal : goal.returns-clause-equal
returns-clause-equal c = λ w port stock a records held these. found_equal c.one_reading.ensures w stock a records held these port

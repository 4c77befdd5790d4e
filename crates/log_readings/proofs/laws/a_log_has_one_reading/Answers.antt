use Rattle.log_readings.proofs.Whole.{read_again, read_whole, read_fails, read_stops}
use Rattle.log_readings.proofs.laws.a_log_has_one_reading.Goals as goal

pub returns-clause-changes : goal.returns-clause-changes
returns-clause-changes c = read_again

pub returns-clause-whole : goal.returns-clause-whole
returns-clause-whole c = read_whole

pub returns-clause-fails : goal.returns-clause-fails
returns-clause-fails c = read_fails

pub returns-clause-stops : goal.returns-clause-stops
returns-clause-stops c = read_stops

use Rattle.tape_scan.proofs.Looking.{settling_keeps_tapes, settling_keeps_log, settling_keeps_told}
use Rattle.restore_chain.proofs.laws.what_is_put_away_is_read_as_before.Goals as goal

pub returns-clause-tapes : goal.returns-clause-tapes
returns-clause-tapes c = settling_keeps_tapes

pub returns-clause-log : goal.returns-clause-log
returns-clause-log c = settling_keeps_log

pub returns-clause-told : goal.returns-clause-told
returns-clause-told c = settling_keeps_told

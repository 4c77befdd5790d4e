use Rattle.lost_journals.proofs.Standing.{in_place, under_any, under_none, under_same}
use Rattle.lost_journals.proofs.worlds.tapes_hold_without_their_journal.Goals as goal

pub returns-clause-none : goal.returns-clause-none
returns-clause-none c = λ w v held has. under_none w v held (in_place w v held has)

pub returns-clause-same : goal.returns-clause-same
returns-clause-same c = λ w v held has. under_same w v held (in_place w v held has)

pub returns-clause-any : goal.returns-clause-any
returns-clause-any c = λ w v held has. under_any w v held has

pub returns-clause-in_place : goal.returns-clause-in_place
returns-clause-in_place c = in_place

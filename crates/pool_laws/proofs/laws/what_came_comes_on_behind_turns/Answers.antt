use Rattle.pool_laws.proofs.Sinces.{turns_since, group_since}
use Rattle.pool_laws.proofs.laws.what_came_comes_on_behind_turns.Goals as goal

pub returns-clause-turns : goal.returns-clause-turns
returns-clause-turns c = λ s time top grown cell stored made named floor turns p u from. turns_since c.a_tape_is_read.ensures.one s time grown cell stored made named floor top turns p u from

pub returns-clause-group : goal.returns-clause-group
returns-clause-group c = λ s time top grown cell stored made named floor kills x p starts u may from le. group_since c.a_tape_is_read.ensures.one s time grown cell stored made named floor kills x top p starts u may from le

use Rattle.dump_levels.proofs.CalendarLaws.{YearsSoFar}
use Rattle.dump_levels.proofs.calendar.all_year_days.Given as goal

abbrev pub invariant-loop-before : goal.invariant-loop-before
invariant-loop-before l = YearsSoFar l.before l.days

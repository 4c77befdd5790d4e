use Rattle.dump_levels.proofs.CalendarLaws.{MonthsSoFar}
use Rattle.dump_levels.proofs.calendar.all_month_days.Given as goal

abbrev pub invariant-loop-before : goal.invariant-loop-before
invariant-loop-before l = MonthsSoFar l.year l.before l.days

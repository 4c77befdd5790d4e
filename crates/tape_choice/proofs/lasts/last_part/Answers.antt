use Rattle.std.proofs.Common.{sym}
use Rattle.tape_choice.proofs.LastLaws.{place_is}
use Rattle.tape_choice.proofs.lasts.last_part.Goals as goal

pub returns-clause-place : goal.returns-clause-place
returns-clause-place c = place_is c.in-Some-last_dump.dump.now c.in-Some.tape c.in-Some-place_of.part.now (sym c.in-Some-place_of.ensures)

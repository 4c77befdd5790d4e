use Rattle.tape_scan.proofs.FrontLaws.{one_part_more, next_closed}
use Rattle.tape_scan.proofs.laws.one_part_more_is_a_tape.Goals as goal

pub returns : goal.returns
returns c = λ t p is some good fit next uses. (let made = one_part_more t p is some good fit next uses in (made.0, made.1, next_closed t p made.0 made.1 made.2))

use Rattle.group_laws.proofs.GroupKept.{end_kept}
use Rattle.group_laws.proofs.laws.what_a_dump_asks_is_so_behind_an_end.Goals as goal

pub returns : goal.returns
returns c = λ s g contents records form apart asks. (end_kept c.a_tape_is_read.ensures.one s contents records asks g form apart).behind

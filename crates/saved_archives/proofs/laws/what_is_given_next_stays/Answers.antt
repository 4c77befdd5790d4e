use Rattle.saved_archives.proofs.GivenLaws.{given_stays}
use Rattle.saved_archives.proofs.laws.what_is_given_next_stays.Goals as goal

pub returns : goal.returns
returns c = λ g slots slots2 since d low lies. given_stays g slots slots2 since d low lies

use Rattle.lost_journals.proofs.Alone.{alone_holds}
use Rattle.lost_journals.proofs.archives.tapes_hold_what_they_held.Goals as goal

pub returns : goal.returns
returns c = λ stock new a b records held lists tapes has changes log read others. alone_holds stock new a b records held lists tapes has changes log read others

use Rattle.volume_sets.specs.Expansions.{SomeSuits}
use Rattle.volume_sets.proofs.SetLaws.{one_places}
use Rattle.volume_sets.proofs.expanding.one_expansion.Goals as goal

pub returns : goal.returns
returns c entries cell places others a b = one_places (SomeSuits entries) 0 cell places others a b

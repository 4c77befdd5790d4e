use Rattle.volume_sets.proofs.PlaceLaws.{pattern_fails_at}
use Rattle.volume_sets.proofs.patterns.pattern_places.Goals as goal

pub returns : goal.returns
returns c = pattern_fails_at

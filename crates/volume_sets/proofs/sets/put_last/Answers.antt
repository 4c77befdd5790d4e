use Rattle.std.proofs.Common.{◌∙◌, ap, map, List}
use Rattle.volume_sets.specs.Sets.{Row, set_of}
use Rattle.volume_sets.proofs.SetRows.{put_behind}
use Rattle.volume_sets.proofs.sets.put_last.Goals as goal

pub returns-clause-ok : goal.returns-clause-ok
returns-clause-ok c =
    ap (λ (l : List Row). map set_of l) c.in_ok-insert.ensures.entries ∙ put_behind c.args.name c.args.entries c.args.sets.now.entries c.requires

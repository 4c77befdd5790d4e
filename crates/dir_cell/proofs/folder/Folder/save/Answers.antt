use Rattle.std.proofs.Common.{List, ap, ◌∙◌}
use Rattle.dir_cell.specs.declared.known.Known.{Known}
use Rattle.dir_cell.specs.Catalogs.{with_known}
use Rattle.dir_cell.proofs.folder.Folder.save.Goals as goal

pub returns-clause-kept : goal.returns-clause-kept
returns-clause-kept g c = record {
  known = c.in_ok-fresh.fresh.known;
  is = c.in_ok-fresh.ensures.known;
  kept = c.keep.ensures.kept ∙ ap (λ (l : List Known). with_known c.in_ok-fresh.fresh.known l) c.reserve.ensures.items;
}

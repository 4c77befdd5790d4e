use Rattle.std.proofs.Common.{List, ap, subst, ◌∙◌}
use Rattle.cell_core.specs.Volumes.{backup_name}
use Rattle.dir_cell.specs.declared.known.Known.{Known}
use Rattle.dir_cell.specs.Catalogs.{with_known}
use Rattle.dir_cell.specs.Calls.{IsCopyKnown}
use Rattle.dir_cell.specs.Refusals.{id_for_backup}
use Rattle.dir_cell.proofs.folder.Folder.backup.Goals as goal

pub returns-clause-kept : goal.returns-clause-kept
returns-clause-kept g c = record {
  known = c.in_ok-copy.copy;
  is = subst (λ (l : List Known). IsCopyKnown c.args.name.now (id_for_backup (backup_name c.args.name.now) l) c.in_ok-copy.copy) c.reserve.ensures.items c.in_ok-copy.ensures.copy;
  kept = c.keep.ensures.kept ∙ ap (λ (l : List Known). with_known c.in_ok-copy.copy l) c.reserve.ensures.items;
}

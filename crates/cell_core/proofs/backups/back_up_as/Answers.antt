use Rattle.std.proofs.Common.{◌≡◌, ◌≤◌, ℕ, List, length, sym, ◌∙◌, ap, subst}
use Rattle.cell_core.specs.declared.stored.Stored.{Stored}
use Rattle.cell_core.specs.Volumes.{backup_name}
use Rattle.cell_core.specs.Cells.{stored_as}
use Rattle.cell_core.proofs.CellLaws.{found_name, found_stored}
use Rattle.cell_core.proofs.CallLaws.{copy_named, room_for_copy, backed_up_done}
use Rattle.cell_core.proofs.backups.back_up_as.Goals as goal

pub copy_of-requires-clause-short : goal.copy_of-requires-clause-short
copy_of-requires-clause-short c =
    subst (λ (n : List ℕ). length (backup_name n) ≤ 31) (sym (found_name c.args.name.now c.args.cell.now.items c.args.at c.index.result.now c.requires.found c.index.ensures)) c.requires.short

pub store-requires-clause-room : goal.store-requires-clause-room
store-requires-clause-room c = λ none.
    let s : Stored = c.index.result.now in
    let named : c.in_ok-copy.copy.name ≡ backup_name c.args.name.now = copy_named s c.args.id c.args.now c.in_ok-copy.copy c.in_ok-copy.ensures.answer ∙ ap backup_name (found_name c.args.name.now c.args.cell.now.items c.args.at s c.requires.found c.index.ensures) in
    room_for_copy c.args.cell.now.items (backup_name c.args.name.now) c.args.id c.requires.id (ap (λ (n : List ℕ). stored_as n c.args.cell.now.items) (sym named) ∙ none)

pub returns-clause-answer : goal.returns-clause-answer
returns-clause-answer c =
    let s : Stored = c.index.result.now in
    let there = found_stored c.args.name.now c.args.cell.now.items c.args.at s c.requires.found c.index.ensures in
    backed_up_done c.args.cell.now.items c.store.new.cell.items c.stamp_in.new.cell.items c.args.name.now s c.args.id c.args.now c.in_ok-copy.copy there (found_name c.args.name.now c.args.cell.now.items c.args.at s c.requires.found c.index.ensures) c.requires.id
    (c.requires.source s there) c.in_ok-copy.ensures.answer c.in_ok-store.ensures.stored c.stamp_in.ensures.dated

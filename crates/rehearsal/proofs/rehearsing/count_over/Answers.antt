use Rattle.std.proofs.Common.{List, length, ◌∙◌, ap}
use Rattle.std.specs.Prelude.{codes}
use Rattle.cell_core.specs.declared.stored.Stored.{Stored}
use Rattle.rehearsal.specs.Sessions.{dumped}
use Rattle.rehearsal.specs.Counts.{lines_with, is_block, is_mark}
use Rattle.rehearsal.specs.Copies.{equal_copies, copied_data}
use Rattle.rehearsal.proofs.Standing.{stands_same, files_same}
use Rattle.rehearsal.proofs.TallyLaws.{on_tapes_of, tally_is}
use Rattle.rehearsal.proofs.rehearsing.count_over.Goals as goal

pub scan_all-requires-clause-stands : goal.scan_all-requires-clause-stands
scan_all-requires-clause-stands c = stands_same (dumped c.args.volumes).world _ _ _ c.in_ok-dumped.ensures.stands (c.in_ok-records.ensures.same tt)

pub scan_all-requires-clause-files : goal.scan_all-requires-clause-files
scan_all-requires-clause-files c = files_same (dumped c.args.volumes).world _ _ _ _ c.in_ok-dumped.ensures.files c.in_ok-records.ensures.slots c.in_ok-records.ensures.present

pub returns : goal.returns
returns c =
    let n = c.args.volumes in
    let stands = c.in_ok-dumped.ensures.stands in
    let told = c.in_ok-told.ensures.told in
    let cell = c.in_ok-told.ensures.cell in
    let copies = c.in_ok-copies.ensures in
    tally_is n _ c.from.ensures
    (c.count_lines-dumps.ensures ∙ ap (lines_with (codes "dump ")) c.in_ok-dumped.ensures.told)
    (c.in_ok-records.ensures.blocks tt ∙ on_tapes_of is_block _ _ stands.tape) (c.in_ok-records.ensures.marks tt ∙ on_tapes_of is_mark _ _ stands.tape)
    (c.count_lines-found.ensures ∙ ap (lines_with (codes "added ")) c.in_ok-lost.ensures.told)
    (c.count_lines-missing.ensures ∙ ap (lines_with (codes "refused 61 ")) c.in_ok-lost.ensures.told)
    (c.count_lines-added.ensures ∙ ap (lines_with (codes "added ")) told) (c.count_lines-restored.ensures ∙ ap (lines_with (codes "restored ")) told)
    (copies.equal tt ∙ ap (λ (l : List Stored). length (equal_copies l n)) cell) (copies.bytes tt ∙ ap (λ (l : List Stored). copied_data l n) cell)

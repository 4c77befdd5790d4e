-- WHAT A REHEARSAL TELLS: a function of the number of its volumes.
use Rattle.std.specs.Prelude.{ℕ, List, length, codes}
use Rattle.rehearsal.specs.declared.lines.Tally.{Tally}
use Rattle.rehearsal.specs.Sessions.{dumped, scanned, restored}
use Rattle.rehearsal.specs.Counts.{lines_with, on_tapes, is_block, is_mark}
use Rattle.rehearsal.specs.Copies.{equal_copies, copied_data}
use Rattle.rehearsal.specs.Lines.{tally_lines}

-- The dumps of the first session, and the records on the four tapes behind it; the dumps that the scan of the second session adds, and the
-- restores that are refused there since a dump is missing; the dumps that the scan of the third session adds, the volumes that are restored
-- there, how many volumes have the same vnodes as those that they were dumped from, and the bytes of their data.
unfoldable pub tally : ℕ → Tally
tally n = record {
  volumes = n;
  dumps = lines_with (codes "dump ") (dumped n).told;
  blocks = on_tapes is_block (dumped n).world.state.tape;
  marks = on_tapes is_mark (dumped n).world.state.tape;
  found = lines_with (codes "added ") (scanned n).told;
  missing = lines_with (codes "refused 61 ") (scanned n).told;
  added = lines_with (codes "added ") (restored n).told;
  restored = lines_with (codes "restored ") (restored n).told;
  equal = length (equal_copies (restored n).world.cell n);
  bytes = copied_data (restored n).world.cell n;
}

-- WHAT A REHEARSAL of so many volumes tells.
unfoldable pub rehearsed : ℕ → List ℕ
rehearsed n = tally_lines (tally n)

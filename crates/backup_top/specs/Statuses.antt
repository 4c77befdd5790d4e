-- The exit status of each way in which a run ends.
use Rattle.std.specs.Prelude.{ℕ, List, ◌++◌, Option, Some, None, codes}
use Rattle.backup_top.specs.Replies.{line_feed}
use Rattle.backup_top.specs.declared.status.Status.{Status}
use Rattle.backup_top.specs.declared.status.Status.TheVariants.{Done, SomeRefused, Usage, ReadFault, MediaFault, CellFault, Memory, BadConfig, BadLog, OutputFault, ScriptTooLong}

-- THE EXIT STATUS of each way in which a run ends.
abbrev pub status_number : Status → ℕ
status_number Done = 0
status_number SomeRefused = 1
status_number Usage = 2
status_number ReadFault = 3
status_number MediaFault = 4
status_number CellFault = 5
status_number Memory = 6
status_number (BadConfig line) = 7
status_number (BadLog at) = 8
status_number OutputFault = 9
status_number ScriptTooLong = 10

-- the line on standard error of a run that told nothing of how it ended; none where what was told says it
abbrev pub line_of_status : Status → Option (List ℕ)
line_of_status Done = None
line_of_status SomeRefused = None
line_of_status Usage = None
line_of_status ReadFault = Some (codes "the input could not be read" ++ line_feed)
line_of_status MediaFault = Some (codes "a call on the journal or a tape failed" ++ line_feed)
line_of_status CellFault = Some (codes "a call on the cell failed" ++ line_feed)
line_of_status (BadConfig line) = Some (codes "the configuration has no known form" ++ line_feed)
line_of_status (BadLog at) = Some (codes "the journal is no list of changes" ++ line_feed)
line_of_status Memory = Some (codes "memory was refused" ++ line_feed)
line_of_status OutputFault = Some (codes "the output took no more" ++ line_feed)
line_of_status ScriptTooLong = Some (codes "the input is longer than it may be" ++ line_feed)

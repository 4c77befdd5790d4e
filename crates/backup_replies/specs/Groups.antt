-- The dumps of a group.
use Rattle.std.specs.Prelude.{ℕ, List, ◌++◌, codes}
use Rattle.backup_replies.specs.Texts.{then_word, then_number, line_feed}
use Rattle.backup_replies.specs.Dumps.{dump_name}

-- the reply to a dump that a group holds: its number there, which counts from 1
abbrev pub held_line : ℕ → List ℕ
held_line number = codes "held" ++ then_number number ++ line_feed

-- a held dump that was killed: its number in the group, and its id
abbrev pub killed_line : ℕ → ℕ → List ℕ
killed_line number id = codes "killed" ++ then_number number ++ then_number id ++ line_feed

-- a dump of the last group: its number there, its id, its name, and the word of its state
abbrev pub job_line : ℕ → ℕ → List ℕ → List ℕ → List ℕ → List ℕ
job_line number id set level state = codes "job" ++ then_number number ++ then_number id ++ then_word (dump_name set level) ++ then_word state ++ line_feed

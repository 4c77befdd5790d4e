-- Turns that stand in several others.
use Rattle.std.specs.Prelude.{ℕ, ◌+◌, List, [], length}
use Rattle.budb_changes.specs.declared.change.Change.{Change}
use Rattle.budb_changes.specs.Bytes.{encoded}
use Rattle.backup_session.specs.Worlds.{World, Turn}

-- Nothing but a reply. What turns do besides is said over it.
abbrev pub said : World → List ℕ → Turn
said w text = record { effects = []; reply = text; log = w.log; time = w.time; cells = []; contents = w.contents; groups = w.groups }

-- how long the log is with these changes behind it
abbrev pub length_with : World → List Change → ℕ
length_with w changes = length (encoded w.log) + length (encoded changes)

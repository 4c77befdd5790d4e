-- What the decoding of a log answers.
use Rattle.std.specs.Prelude.{◌≡◌, ℕ, List, Result, Ok, Err}
use Rattle.bk_text.specs.Places.{FailsAt}
use Rattle.budb_changes.specs.declared.change.Change.{Change}
use Rattle.budb_changes.specs.declared.fault.ChangeFault.{ChangeFault}
use Rattle.budb_changes.specs.declared.fault.ChangeFault.TheVariants.{BadChange, Memory}
use Rattle.budb_changes.specs.Bytes.{encoded}
use Rattle.budb_changes.specs.Forms.{AreChanges, IsLog}

-- The changes whose bytes these are; where they are no list's, the place at which they stop being one; unless memory
-- runs out.
abbrev pub Decodes : List ℕ → Result (List Change) ChangeFault → Type 0
Decodes bytes (Ok changes) = AreChanges changes × (bytes ≡ encoded changes)
Decodes bytes (Err (BadChange at)) = FailsAt IsLog bytes at
Decodes bytes (Err Memory) = Unit {0}

-- A pattern's bytes are of the journal's form.
use Rattle.std.proofs.Common.{List, ℕ}
use Rattle.bk_text.specs.Patterns.{IsPattern}
use Rattle.budb_changes.specs.Printable.{IsPatternBytes}

pub pattern_bytes : (text : List ℕ) → IsPattern text → IsPatternBytes text
pattern_bytes text is = record { some = is.some; short = is.short; first = tt; each = is.each }

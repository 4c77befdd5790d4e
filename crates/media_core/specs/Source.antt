-- What a source in memory shows.
use Rattle.std.specs.Prelude.{ℕ, List, drop}
use Rattle.media_core.specs.declared.source.SourceMem.{SourceMem}
use Rattle.media_core.specs.declared.plan.Plan.{Plan}

-- the bytes that are left
abbrev pub left_of : SourceMem → List ℕ
left_of s = drop s.at s.bytes.items

-- the reads so far, and those that are to fail
abbrev pub source_plan : SourceMem → Plan
source_plan s = s.plan

-- how often a read failed
abbrev pub source_faults : SourceMem → ℕ
source_faults s = s.faults

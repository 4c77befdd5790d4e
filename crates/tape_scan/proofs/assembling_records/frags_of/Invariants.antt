use Rattle.std.proofs.Common.{◌≡◌, ◌==◌, map, take}
use Rattle.std.specs.Prelude.{filter}
use Rattle.tape_text.specs.Wholes.{frag_of}
use Rattle.tape_scan.specs.AssembledSteps.{seen}
use Rattle.tape_scan.specs.AssembledRecords.{all_lying}
use Rattle.tape_scan.proofs.assembling_records.frags_of.Given as goal

abbrev pub invariant-loop-i : goal.invariant-loop-i
invariant-loop-i l = l.frags ≡ map frag_of (filter (λ m. m.head.index == l.index) (all_lying (seen (take l.i l.parts))))

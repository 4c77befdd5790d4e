use Rattle.std.proofs.Common.{◌≡◌, ◌++◌, ◌==◌, map, take}
use Rattle.std.specs.Prelude.{filter}
use Rattle.tape_text.specs.Wholes.{volume_record}
use Rattle.tape_scan.specs.AssembledSteps.{seen}
use Rattle.tape_scan.specs.AssembledRecords.{told_lying, all_lying}
use Rattle.tape_scan.proofs.assembling_records.add_volumes.Given as goal

abbrev pub invariant-loop-fragment : goal.invariant-loop-fragment
invariant-loop-fragment l = l.volumes ≡ l.initial.volumes ++ map (volume_record (all_lying (seen l.parts))) (filter (λ m. m.head.fragment == 1) (map (told_lying l.part.head.tape) (take l.fragment-index l.fragment-items)))

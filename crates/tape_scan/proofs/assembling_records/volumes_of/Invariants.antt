use Rattle.std.proofs.Common.{◌≡◌, ◌==◌, map, take}
use Rattle.std.specs.Prelude.{filter}
use Rattle.tape_text.specs.Wholes.{volume_record}
use Rattle.tape_scan.specs.AssembledSteps.{seen}
use Rattle.tape_scan.specs.AssembledRecords.{all_lying}
use Rattle.tape_scan.proofs.assembling_records.volumes_of.Given as goal

abbrev pub invariant-loop-i : goal.invariant-loop-i
invariant-loop-i l = l.volumes ≡ map (volume_record (all_lying (seen l.parts))) (filter (λ m. m.head.fragment == 1) (all_lying (seen (take l.i l.parts))))

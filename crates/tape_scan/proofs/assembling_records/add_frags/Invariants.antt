use Rattle.std.proofs.Common.{◌≡◌, ◌++◌, ◌==◌, map, take}
use Rattle.std.specs.Prelude.{filter}
use Rattle.tape_text.specs.Wholes.{frag_of}
use Rattle.tape_scan.specs.AssembledRecords.{told_lying}
use Rattle.tape_scan.proofs.assembling_records.add_frags.Given as goal

abbrev pub invariant-loop-fragment : goal.invariant-loop-fragment
invariant-loop-fragment l = l.frags ≡ l.initial.frags ++ map frag_of (filter (λ m. m.head.index == l.index) (map (told_lying l.tape) (take l.fragment-index l.fragment-items)))

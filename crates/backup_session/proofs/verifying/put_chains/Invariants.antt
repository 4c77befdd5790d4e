use Rattle.std.proofs.Common.{◌≡◌, ◌++◌, take}
use Rattle.std.specs.List.{flat_map}
use Rattle.backup_session.specs.Verified.{broken_lines}
use Rattle.backup_session.proofs.verifying.put_chains.Given as goal

abbrev pub invariant-loop-chain : goal.invariant-loop-chain
invariant-loop-chain l = l.lines ≡ l.initial.lines ++ flat_map broken_lines (take l.chain-index l.broken)

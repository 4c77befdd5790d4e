use Rattle.std.proofs.Common.{◌≡◌, take}
use Rattle.std.specs.List.{fold}
use Rattle.backup_script.specs.Watching.{with_byte}
use Rattle.backup_script.proofs.watch.Watch.watch.Given as goal

abbrev pub invariant-loop-byte : goal.invariant-loop-byte
invariant-loop-byte l = l.self ≡ fold with_byte l.initial.self (take l.byte-index l.text)

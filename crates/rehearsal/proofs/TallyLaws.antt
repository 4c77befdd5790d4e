-- What is counted of a rehearsal, one number after the other.
use Rattle.std.proofs.Common.{◌≡◌, ℕ, Bool, List, length, ap}
use Rattle.std.specs.Prelude.{codes}
use Rattle.plant_core.specs.Records.{Record}
use Rattle.rehearsal.specs.declared.lines.Tally.{Tally}
use Rattle.rehearsal.specs.Sessions.{dumped, scanned, restored}
use Rattle.rehearsal.specs.Counts.{lines_with, on_tapes, is_block, is_mark}
use Rattle.rehearsal.specs.Copies.{equal_copies, copied_data}
use Rattle.rehearsal.specs.Rehearsed.{tally}

pub on_tapes_of : (p : Record → Bool) (a b : ℕ → List Record) → ((k : ℕ) → a k ≡ b k) → on_tapes p a ≡ on_tapes p b
on_tapes_of p a b same = ap (on_tapes p) (λ i k. same k i)

pub tally_is : (n : ℕ) (t : Tally) → t.volumes ≡ n → t.dumps ≡ lines_with (codes "dump ") (dumped n).told → t.blocks ≡ on_tapes is_block (dumped n).world.state.tape
    → t.marks ≡ on_tapes is_mark (dumped n).world.state.tape → t.found ≡ lines_with (codes "added ") (scanned n).told → t.missing ≡ lines_with (codes "refused 61 ") (scanned n).told
    → t.added ≡ lines_with (codes "added ") (restored n).told → t.restored ≡ lines_with (codes "restored ") (restored n).told → t.equal ≡ length (equal_copies (restored n).world.cell n)
    → t.bytes ≡ copied_data (restored n).world.cell n → t ≡ tally n
unfolding tally
tally_is n t volumes dumps blocks marks found missing added back equal bytes = λ i. record {
  volumes = volumes i;
  dumps = dumps i;
  blocks = blocks i;
  marks = marks i;
  found = found i;
  missing = missing i;
  added = added i;
  restored = back i;
  equal = equal i;
  bytes = bytes i;
}

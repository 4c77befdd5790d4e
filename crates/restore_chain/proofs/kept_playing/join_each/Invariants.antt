use Rattle.std.proofs.Common.{List, take}
use Rattle.dump_stream.specs.Inputs.{IsOpen}
use Rattle.budb_changes.specs.declared.records.DumpRecordFields.{DumpRecordFields}
use Rattle.tape_text.specs.Wholes.{Lying}
use Rattle.tape_scan.specs.Slots.{Slot}
use Rattle.restore_chain.specs.Playing.{HaveStood}
use Rattle.restore_chain.specs.Keeping.{AllRead}
use Rattle.restore_chain.proofs.kept_playing.join_each.Given as goal

abbrev pub invariant-loop-kept : goal.invariant-loop-kept
invariant-loop-kept l = record {
  stood : (slots : List Slot) (d : DumpRecordFields) (cs : List Lying) → AllRead slots d cs l.all → HaveStood slots d (take l.kept-index cs) l.last l.fn.joined l.joined;
  is_open : IsOpen l.joined.input;
}

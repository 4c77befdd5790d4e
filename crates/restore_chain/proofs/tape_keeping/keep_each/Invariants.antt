use Rattle.std.proofs.Common.{◌≡◌, List, Bool, length}
use Rattle.std.specs.Prelude.{vec_len}
use Rattle.budb_changes.specs.declared.records.DumpRecordFields.{DumpRecordFields}
use Rattle.tape_scan.specs.Slots.{Slot}
use Rattle.tape_scan.specs.Looking.{HasSlots}
use Rattle.archive_model.specs.Holding.{called_frags}
use Rattle.restore_chain.specs.Keeping.{AllKept, MayKeep}
use Rattle.restore_chain.proofs.ReadLaws.{HasRead}
use Rattle.restore_chain.proofs.tape_keeping.keep_each.Given as goal

abbrev pub invariant-loop-place : goal.invariant-loop-place
invariant-loop-place g l =
    let P = g.P.Plant in
    let cs = called_frags l.fn.id l.fn.index 1 l.fn.volume l.fn.volume.frags in
    record {
      keeps : P.tells → (slots : List Slot) (d : DumpRecordFields) (may : Bool) → HasSlots P slots l.fn.plant → MayKeep P slots d may l.fn.tape l.fn.plant l.fn.reading → AllKept slots d may cs l.fn.kept.items → AllKept slots d may cs l.kept.items;
      all : vec_len l.kept ≡ length l.fn.volume.frags;
      read : HasRead P l.fn.plant l.plant;
    }

use Rattle.std.proofs.Common.{◌≡◌, List, Some, length, sym, ap, ◌∙◌, arith}
use Rattle.std.specs.Borrow.{Bor}
use Rattle.budb_changes.specs.declared.records.DumpRecordFields.{DumpRecordFields}
use Rattle.tape_scan.specs.declared.sections.PartFound.{PartFound}
use Rattle.tape_scan.specs.AssembledSteps.{seen}
use Rattle.tape_scan.specs.AssembledRecords.{told_record}
use Rattle.tape_scan.proofs.AssemblingRecords.{placed_some, seen_first}
use Rattle.tape_scan.proofs.assembling_records.record_at.Goals as goal

pub returns-then-is_dump_record : goal.returns-then-is_dump_record
returns-then-is_dump_record c =
    let all = seen c.args.parts.now in
    let lent : c.as_slice-lent.result.now ≡ c.in_ok-chosen.chosen.items = c.as_slice-lent.ensures.value in
    let some = placed_some all c.args.places.now c.in_ok-chosen.chosen.items c.in_ok-chosen.ensures c.requires.some in
    let first = seen_first c.as_slice-lent.result.now c.index-lent-0.result (omega (arith, some, ap (λ (l : List (Bor PartFound)). length l) lent)) c.index-lent-0.is in
    let head = ap (λ (p : PartFound). p.head) first.3 ∙ sym c.fields.ensures.value in
    let is = c.in_ok-fields.ensures first.0 first.1 first.2 head in (
      seen c.in_ok-chosen.chosen.items,
      c.in_ok-chosen.ensures,
      ap told_record (ap (λ (l : List (Bor PartFound)). seen l) (sym lent) ∙ first.2) ∙ ap (λ (d : DumpRecordFields). Some d) (sym is ∙ sym c.new.ensures),
    )

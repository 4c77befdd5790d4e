use Rattle.std.proofs.Common.{List, true, sym, subst}
use Rattle.std.specs.Prelude.{map}
use Rattle.tape_scan.specs.declared.sections.Sections.{Sections}
use Rattle.tape_scan.specs.Assembled.{AreScans}
use Rattle.tape_answers.specs.Slots.{slot_of}
use Rattle.backup_session.proofs.ScanLaws.{in_found}
use Rattle.backup_session.proofs.scanning.found_in.Goals as goal

pub returns : goal.returns
returns c = λ tape slots is.
    let all = map (slot_of (λ k. true) tape) slots in
    let are = subst (λ (l : List Sections). AreScans all l) (sym is) (c.the_slots_are_scanned.ensures.scans (λ k. true) tape slots) in
    in_found c.assemble.result _ _ (λ found given. c.the_tapes_are_assembled.ensures.one all c.args.tapes.now found are given) (c.assemble.ensures all are)

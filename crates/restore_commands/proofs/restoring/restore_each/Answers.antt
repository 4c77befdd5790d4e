use Rattle.std.proofs.Common.{ℕ, ◌+◌, ◌<◌, ◌≤◌, List, length, drop, refl, sym, ◌∙◌, subst, arith, Ok, Err}
use Rattle.plant_effects.proofs.Joining.{nothing_quiet, quiet_both}
use Rattle.tape_scan.proofs.Looking.{loads_none, loads_both, looks_well, looks_after}
use Rattle.restore_commands.specs.declared.stops.RestoreStop.TheVariants.{Plant, Memory}
use Rattle.restore_commands.specs.Steps.{SoFar}
use Rattle.restore_commands.proofs.FoundLaws.{archive_later}
use Rattle.restore_commands.proofs.Idle.{cause_stop, cause_well, stop_looks}
use Rattle.restore_commands.proofs.EachLaws.{none_so_far, one_more_so_far, past_so_far, all_told, all_left, one_left, one_more_put, put_so_far}
use Rattle.restore_commands.proofs.restoring.restore_each.Goals as goal

pub loop-choice-init : goal.loop-choice-init
loop-choice-init g c =
    let P = g.P.Plant in
    let C = g.C.Cell in
    record {
      loads = loads_none P c.args.plant.now c.requires (λ told survives x left. g.met.P.Plant.left c.args.plant.now x told c.requires survives left);
      stays = nothing_quiet P c.args.plant.now;
      faults = refl;
      cell_faults = refl;
      so_far = λ told seen a is.
          subst (λ (l : List ℕ). SoFar a c.args.manner.now c.args.choices.now (C.list c.args.cell.now) c.args.choices.now l (C.list c.args.cell.now)) (sym c.new-lines.ensures) (none_so_far a c.args.manner.now c.args.choices.now (C.list c.args.cell.now));
      puts = λ seen. refl;
    }

pub loop-choice-preserved : goal.loop-choice-preserved
loop-choice-preserved g c =
    let P = g.P.Plant in
    let C = g.C.Cell in
    let so = c.loop-choice.invariant in
    let listed = c.args.budb.now.database.listed in
    let old = c.args.plant.now in
    let mid = c.loop-choice.plant in
    let new = c.restore_choice.new.plant in
    let e = c.in-Ok.ensures in
    let i : ℕ = c.loop-choice.choice-index in
    let within : i < length c.args.choices.now = omega (arith, c.loop-choice-test.true) in
    record {
      loads = loads_both P old mid new so.loads (e.looks.done (λ is. absurd (cc)));
      stays = quiet_both P old mid new so.stays e.looks.stays;
      faults = e.looks.cause.stays (λ is. absurd (cc)) ∙ so.faults;
      cell_faults = e.cause.stays (λ is. absurd (cc)) ∙ so.cell_faults;
      so_far = λ told seen a is.
          (let later = archive_later P listed a old mid so.loads so.stays told is in
          one_more_so_far a c.args.manner.now c.args.choices.now (C.list c.args.cell.now) i c.choice-item.result c.loop-choice.lines c.restore_choice.new.lines (C.list c.loop-choice.cell) (C.list c.restore_choice.new.cell) within c.choice-item.is
          (so.so_far told seen a is) (e.lines told seen a later) (e.list told seen a later));
      puts = λ seen. one_more_put c.args.manner.now c.args.choices.now i c.choice-item.result (C.list c.args.cell.now) (C.list c.loop-choice.cell) (C.list c.restore_choice.new.cell) within c.choice-item.is (so.puts seen) (e.may seen);
    }

pub returns-in-Err-clause-left : goal.returns-in-Err-clause-left
returns-in-Err-clause-left g c = λ told seen a is.
    let P = g.P.Plant in
    let C = g.C.Cell in
    let so = c.loop-choice.invariant in
    let listed = c.args.budb.now.database.listed in
    let i : ℕ = c.loop-choice.choice-index in
    let within : i < length c.args.choices.now = omega (arith, c.loop-choice-test.true) in
    one_left a c.args.manner.now c.args.choices.now (C.list c.args.cell.now) i c.choice-item.result c.loop-choice.lines (C.list c.loop-choice.cell) (C.list c.restore_choice.new.cell) within c.choice-item.is (so.so_far told seen a is)
    (c.in-Err.ensures.left told seen a (archive_later P listed a c.args.plant.now c.loop-choice.plant so.loads so.stays told is))

pub returns-in-Err-clause-may : goal.returns-in-Err-clause-may
returns-in-Err-clause-may g c = λ seen.
    let C = g.C.Cell in
    let so = c.loop-choice.invariant in
    let i : ℕ = c.loop-choice.choice-index in
    let within : i < length c.args.choices.now = omega (arith, c.loop-choice-test.true) in
    put_so_far c.args.manner.now c.args.choices.now (i + 1) (C.list c.args.cell.now) (C.list c.restore_choice.new.cell)
    (one_more_put c.args.manner.now c.args.choices.now i c.choice-item.result (C.list c.args.cell.now) (C.list c.loop-choice.cell) (C.list c.restore_choice.new.cell) within c.choice-item.is (so.puts seen) (c.in-Err.ensures.may seen))

pub returns-in-Err-clause-looks : goal.returns-in-Err-clause-looks
returns-in-Err-clause-looks g c =
    let so = c.loop-choice.invariant in
    looks_after g.P.Plant Plant c.args.plant.now c.loop-choice.plant c.restore_choice.new.plant (Err c.in-Err.stop) so.loads so.stays so.faults (stop_looks g.P.Plant c.in-Err.stop c.loop-choice.plant c.restore_choice.new.plant c.in-Err.ensures.looks)

pub returns-in-Err-clause-cause : goal.returns-in-Err-clause-cause
returns-in-Err-clause-cause g c =
    let C = g.C.Cell in
    cause_stop (C.faults c.args.cell.now) (C.faults c.loop-choice.cell) (C.faults c.restore_choice.new.cell) c.in-Err.stop c.loop-choice.invariant.cell_faults c.in-Err.ensures.cause

pub returns-in-Ok-piece-clause-answer : goal.returns-in-Ok-piece-clause-answer
returns-in-Ok-piece-clause-answer g c = λ told seen a is.
    let C = g.C.Cell in
    let past : length c.args.choices.now ≤ c.loop-choice.choice-index = omega (arith, c.loop-choice-test.false) in
    all_told a c.args.manner.now c.args.choices.now (C.list c.args.cell.now) c.loop-choice.lines c.into_bytes.result (C.list c.loop-choice.cell)
    (past_so_far a c.args.manner.now c.args.choices.now (C.list c.args.cell.now) c.loop-choice.choice-index c.loop-choice.lines (C.list c.loop-choice.cell) past (c.loop-choice.invariant.so_far told seen a is))
    (c.into_bytes.ensures ∙ c.in-Ok-piece.ensures.ok)

pub returns-in-Ok-piece-clause-left : goal.returns-in-Ok-piece-clause-left
returns-in-Ok-piece-clause-left g c = λ told seen a is.
    let C = g.C.Cell in
    all_left a c.args.manner.now c.args.choices.now (C.list c.args.cell.now) (drop c.loop-choice.choice-index c.args.choices.now) c.loop-choice.lines (C.list c.loop-choice.cell) (c.loop-choice.invariant.so_far told seen a is)

pub returns-in-Ok-piece-clause-may : goal.returns-in-Ok-piece-clause-may
returns-in-Ok-piece-clause-may g c = λ seen.
    let C = g.C.Cell in
    put_so_far c.args.manner.now c.args.choices.now c.loop-choice.choice-index (C.list c.args.cell.now) (C.list c.loop-choice.cell) (c.loop-choice.invariant.puts seen)

pub returns-in-Ok-piece-clause-looks : goal.returns-in-Ok-piece-clause-looks
returns-in-Ok-piece-clause-looks g c =
    let so = c.loop-choice.invariant in
    looks_well g.P.Plant Plant c.args.plant.now c.loop-choice.plant (Ok c.into_bytes.result) so.loads so.stays so.faults (λ is. absurd (cc))

pub returns-in-Ok-piece-clause-cause : goal.returns-in-Ok-piece-clause-cause
returns-in-Ok-piece-clause-cause g c =
    let C = g.C.Cell in
    cause_well (C.faults c.args.cell.now) (C.faults c.loop-choice.cell) (Ok c.into_bytes.result) c.loop-choice.invariant.cell_faults (λ is. absurd (cc))

pub returns-in-Err-piece-clause-left : goal.returns-in-Err-piece-clause-left
returns-in-Err-piece-clause-left g c = λ told seen a is.
    let C = g.C.Cell in
    all_left a c.args.manner.now c.args.choices.now (C.list c.args.cell.now) (drop c.loop-choice.choice-index c.args.choices.now) c.loop-choice.lines (C.list c.loop-choice.cell) (c.loop-choice.invariant.so_far told seen a is)

pub returns-in-Err-piece-clause-may : goal.returns-in-Err-piece-clause-may
returns-in-Err-piece-clause-may g c = λ seen.
    let C = g.C.Cell in
    put_so_far c.args.manner.now c.args.choices.now c.loop-choice.choice-index (C.list c.args.cell.now) (C.list c.loop-choice.cell) (c.loop-choice.invariant.puts seen)

pub returns-in-Err-piece-clause-looks : goal.returns-in-Err-piece-clause-looks
returns-in-Err-piece-clause-looks g c =
    let so = c.loop-choice.invariant in
    looks_well g.P.Plant Plant c.args.plant.now c.loop-choice.plant (Err Memory) so.loads so.stays so.faults (λ is. absurd (cc))

pub returns-in-Err-piece-clause-cause : goal.returns-in-Err-piece-clause-cause
returns-in-Err-piece-clause-cause g c =
    let C = g.C.Cell in
    cause_well (C.faults c.args.cell.now) (C.faults c.loop-choice.cell) (Err Memory) c.loop-choice.invariant.cell_faults (λ is. absurd (cc))

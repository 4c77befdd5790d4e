use Rattle.std.proofs.Common.{◌≡◌, ℕ, ◌+◌, ◌<◌, ◌≤◌, List, [], ◌∷◌, ◌++◌, length, drop, refl, sym, ◌∙◌, ap, subst, arith, append_assoc, append-nil, Ok, Err}
use Rattle.std.specs.Prelude.{All}
use Rattle.std.specs.Vec.Iter.{into_iter_items}
use Rattle.std.proofs.lemmas.List.{drop_all}
use Rattle.std.proofs.lemmas.List.Elements.{All-head, All-tail}
use Rattle.mount_plan.specs.declared.fault.Played.{Played}
use Rattle.mount_plan.specs.Outcomes.{IsPlayed}
use Rattle.backup_words.specs.declared.command.Wanted.{Wanted}
use Rattle.restore_commands.specs.declared.stops.RestoreStop.TheVariants.{Memory}
use Rattle.restore_commands.specs.Answers.{volume_answer, told_lines}
use Rattle.restore_commands.specs.Steps.{SoFar, AreFound, ArePut}
use Rattle.restore_commands.proofs.Idle.{cause_stop, cause_well}
use Rattle.restore_commands.proofs.EachLaws.{none_so_far, next_so_far, all_left, next_left, rest_from, one_more_put, put_so_far}
use Rattle.restore_commands.proofs.BatchLaws.{found_next, put_next, put_none}
use Rattle.restore_commands.proofs.played.put_each.Goals as goal

pub loop-choice-init : goal.loop-choice-init
loop-choice-init g c =
    let left : into_iter_items c.into_iter-left.result ≡ c.args.played = c.into_iter-left.ensures.rest ∙ c.into_vec.ensures in
    record {
      told = subst (All IsPlayed) (sym left) c.requires.told;
      cell_faults = refl;
      found = λ a found. subst (AreFound a c.args.batch.now) (sym left) found;
      put = λ seen a lists found. put_none a c.args.manner.now c.args.batch.now (g.C.Cell.list c.args.cell.now) c.args.lines.now;
      puts = λ seen. refl;
    }

pub put_choice-requires-clause-told : goal.put_choice-requires-clause-told
put_choice-requires-clause-told g c =
    All-head IsPlayed c.in-Some.one (into_iter_items c.next.new.self) (subst (All IsPlayed) c.in-Some.ensures.items c.loop-choice.invariant.told)

pub loop-choice-preserved : goal.loop-choice-preserved
loop-choice-preserved g c =
    let C = g.C.Cell in
    let so = c.loop-choice.invariant in
    let m = c.args.manner.now in
    let batch = c.args.batch.now in
    let old = C.list c.args.cell.now in
    let mid = C.list c.loop-choice.cell in
    let new = C.list c.put_choice.new.cell in
    let e = c.in-Ok.ensures in
    let i : ℕ = c.loop-choice.choice-index in
    let choice = c.choice-item.result in
    let within : i < length batch = omega (arith, c.loop-choice-test.true) in
    let step : into_iter_items c.loop-choice.left ≡ c.in-Some.one ∷ into_iter_items c.next.new.self = c.in-Some.ensures.items in
    record {
      told = All-tail IsPlayed c.in-Some.one (into_iter_items c.next.new.self) (subst (All IsPlayed) step so.told);
      cell_faults = e.cause.stays (λ is. absurd (cc)) ∙ so.cell_faults;
      found = λ a found. (found_next a batch i choice c.in-Some.one (into_iter_items c.loop-choice.left) (into_iter_items c.next.new.self) within c.choice-item.is step (so.found a found)).1;
      put = λ seen a lists found.
          (let one = (found_next a batch i choice c.in-Some.one (into_iter_items c.loop-choice.left) (into_iter_items c.next.new.self) within c.choice-item.is step (so.found a found)).0 in
          put_next a m batch old i choice c.args.lines.now c.loop-choice.lines c.put_choice.new.lines mid new within c.choice-item.is (so.put seen a lists found) (e.lines seen a lists one) (e.list seen a lists one));
      puts = λ seen. one_more_put m batch i choice old mid new within c.choice-item.is (so.puts seen) (e.may seen);
    }

pub returns-in_default-clause-left : goal.returns-in_default-clause-left
returns-in_default-clause-left g c = λ seen a lists found others.
    let C = g.C.Cell in
    let p = c.loop-choice.invariant.put seen a lists found in
    all_left a c.args.manner.now (c.args.batch.now ++ others) (C.list c.args.cell.now) (drop c.loop-choice.choice-index c.args.batch.now ++ others) p.told (C.list c.loop-choice.cell) (p.so_far others)

pub returns-in_default-clause-may : goal.returns-in_default-clause-may
returns-in_default-clause-may g c = λ seen.
    let C = g.C.Cell in
    put_so_far c.args.manner.now c.args.batch.now c.loop-choice.choice-index (C.list c.args.cell.now) (C.list c.loop-choice.cell) (c.loop-choice.invariant.puts seen)

pub returns-in_default-clause-cause : goal.returns-in_default-clause-cause
returns-in_default-clause-cause g c =
    let C = g.C.Cell in
    cause_well (C.faults c.args.cell.now) (C.faults c.loop-choice.cell) (Err Memory) c.loop-choice.invariant.cell_faults (λ is. absurd (cc))

pub returns-in-Err-clause-left : goal.returns-in-Err-clause-left
returns-in-Err-clause-left g c = λ seen a lists found others.
    let C = g.C.Cell in
    let so = c.loop-choice.invariant in
    let batch = c.args.batch.now in
    let i : ℕ = c.loop-choice.choice-index in
    let choice = c.choice-item.result in
    let within : i < length batch = omega (arith, c.loop-choice-test.true) in
    let one = (found_next a batch i choice c.in-Some.one (into_iter_items c.loop-choice.left) (into_iter_items c.next.new.self) within c.choice-item.is c.in-Some.ensures.items (so.found a found)).0 in
    let p = so.put seen a lists found in
    next_left a c.args.manner.now (batch ++ others) (C.list c.args.cell.now) choice (drop (i + 1) batch ++ others) p.told (C.list c.loop-choice.cell) (C.list c.put_choice.new.cell)
    (subst (λ (cs : List Wanted). SoFar a c.args.manner.now (batch ++ others) (C.list c.args.cell.now) (cs ++ others) p.told (C.list c.loop-choice.cell)) (rest_from batch i choice within c.choice-item.is) (p.so_far others))
    (c.in-Err.ensures.left seen a lists one)

pub returns-in-Err-clause-may : goal.returns-in-Err-clause-may
returns-in-Err-clause-may g c = λ seen.
    let C = g.C.Cell in
    let so = c.loop-choice.invariant in
    let i : ℕ = c.loop-choice.choice-index in
    let within : i < length c.args.batch.now = omega (arith, c.loop-choice-test.true) in
    put_so_far c.args.manner.now c.args.batch.now (i + 1) (C.list c.args.cell.now) (C.list c.put_choice.new.cell)
    (one_more_put c.args.manner.now c.args.batch.now i c.choice-item.result (C.list c.args.cell.now) (C.list c.loop-choice.cell) (C.list c.put_choice.new.cell) within c.choice-item.is (so.puts seen) (c.in-Err.ensures.may seen))

pub returns-in-Err-clause-cause : goal.returns-in-Err-clause-cause
returns-in-Err-clause-cause g c =
    let C = g.C.Cell in
    cause_stop (C.faults c.args.cell.now) (C.faults c.loop-choice.cell) (C.faults c.put_choice.new.cell) c.in-Err.stop c.loop-choice.invariant.cell_faults c.in-Err.ensures.cause

pub returns-clause-put : goal.returns-clause-put
returns-clause-put g c = λ seen a lists found.
    let C = g.C.Cell in
    let past : length c.args.batch.now ≤ c.loop-choice.choice-index = omega (arith, c.loop-choice-test.false) in
    subst (λ (cs : List Wanted). ArePut a c.args.manner.now c.args.batch.now (C.list c.args.cell.now) cs c.args.lines.now c.loop-choice.lines (C.list c.loop-choice.cell)) (drop_all c.loop-choice.choice-index c.args.batch.now past)
    (c.loop-choice.invariant.put seen a lists found)

pub returns-clause-left : goal.returns-clause-left
returns-clause-left g c = λ seen a lists found others.
    let C = g.C.Cell in
    let p = c.loop-choice.invariant.put seen a lists found in
    all_left a c.args.manner.now (c.args.batch.now ++ others) (C.list c.args.cell.now) (drop c.loop-choice.choice-index c.args.batch.now ++ others) p.told (C.list c.loop-choice.cell) (p.so_far others)

pub returns-clause-may : goal.returns-clause-may
returns-clause-may g c = λ seen.
    let C = g.C.Cell in
    put_so_far c.args.manner.now c.args.batch.now c.loop-choice.choice-index (C.list c.args.cell.now) (C.list c.loop-choice.cell) (c.loop-choice.invariant.puts seen)

pub returns-clause-cause : goal.returns-clause-cause
returns-clause-cause g c =
    let C = g.C.Cell in
    cause_well (C.faults c.args.cell.now) (C.faults c.loop-choice.cell) _ c.loop-choice.invariant.cell_faults (λ is. absurd (cc))

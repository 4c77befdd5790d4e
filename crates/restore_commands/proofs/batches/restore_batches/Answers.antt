use Rattle.std.proofs.Common.{◌≡◌, ℕ, ◌+◌, ◌<◌, ◌≤◌, List, [], ◌++◌, length, min, refl, sym, ◌∙◌, ap, subst, arith, rules, Ok, Err}
use Rattle.std.specs.Prelude.{All}
use Rattle.std.specs.Slice.Iter.{chunks_rest, chunks_size}
use Rattle.std.proofs.lemmas.List.{nil_from_length}
use Rattle.plant_effects.proofs.Joining.{nothing_quiet, quiet_both}
use Rattle.tape_scan.proofs.Looking.{loads_none, loads_both, looks_well, looks_after, slots_later}
use Rattle.cell_core.specs.declared.stored.Stored.{Stored}
use Rattle.backup_words.specs.declared.command.Wanted.{Wanted}
use Rattle.restore_commands.specs.declared.stops.RestoreStop.TheVariants.{Plant, Memory}
use Rattle.restore_commands.specs.Answers.{all_answer}
use Rattle.restore_commands.specs.Leaving.{MayPutEach}
use Rattle.restore_commands.specs.Steps.{SoFar, IsLatest}
use Rattle.restore_commands.specs.Batches.{batch_loads, loads_together}
use Rattle.restore_commands.proofs.FoundLaws.{archive_later}
use Rattle.restore_commands.proofs.Idle.{cause_stop, cause_well, stop_looks}
use Rattle.restore_commands.proofs.EachLaws.{none_so_far, joined_so_far, all_told, all_left, rest_left, none_put, put_both}
use Rattle.restore_commands.proofs.BatchLaws.{loads_behind, latest_front, latest_behind}
use Rattle.restore_commands.proofs.batches.restore_batches.Goals as goal

pub loop-batch-init : goal.loop-batch-init
loop-batch-init g c =
    let P = g.P.Plant in
    let C = g.C.Cell in
    let listed = c.args.budb.now.database.listed in
    let choices = c.args.choices.now in
    let it = c.into_iter-batch-iterator.result in
    let all : chunks_rest it ≡ choices = search rules in
    record {
      next = search rules;
      ends = tt;
      size = search rules;
      latest = subst (All IsLatest) (sym all) c.requires.latest;
      loads = loads_none P c.args.plant.now c.requires.sound (λ told survives x left. g.met.P.Plant.left c.args.plant.now x told c.requires.sound survives left);
      stays = nothing_quiet P c.args.plant.now;
      faults = refl;
      cell_faults = refl;
      so_far = λ told seen a is.
          subst (λ (l : List ℕ). SoFar a c.args.manner.now choices (C.list c.args.cell.now) (chunks_rest it) l (C.list c.args.cell.now)) (sym c.new-lines.ensures)
          (subst (λ (cs : List Wanted). SoFar a c.args.manner.now choices (C.list c.args.cell.now) cs [] (C.list c.args.cell.now)) (sym all) (none_so_far a c.args.manner.now choices (C.list c.args.cell.now)));
      puts = λ seen new put. subst (λ (cs : List Wanted). MayPutEach c.args.manner.now cs (C.list c.args.cell.now) new) all put;
      counted = λ told low slots has.
          (let same : batch_loads slots listed (chunks_rest it) ≡ batch_loads slots listed choices = ap (batch_loads slots listed) all in
          omega (arith, same));
    }

pub restore_batch-requires-clause-latest : goal.restore_batch-requires-clause-latest
restore_batch-requires-clause-latest g c = latest_front c.in-Some.batch.now (chunks_rest c.next.new.self) (chunks_rest c.loop-batch.batch-iterator) c.in-Some.ensures.steps.1.0 c.loop-batch.invariant.latest

pub loop-batch-preserved : goal.loop-batch-preserved
loop-batch-preserved g c =
    let P = g.P.Plant in
    let C = g.C.Cell in
    let so = c.loop-batch.invariant in
    let listed = c.args.budb.now.database.listed in
    let m = c.args.manner.now in
    let choices = c.args.choices.now in
    let first = C.list c.args.cell.now in
    let old = c.args.plant.now in
    let mid = c.loop-batch.plant in
    let new = c.restore_batch.new.plant in
    let here = C.list c.loop-batch.cell in
    let there = C.list c.restore_batch.new.cell in
    let e = c.in-Ok.ensures in
    let steps = c.in-Some.ensures.steps in
    let batch = c.in-Some.batch.now in
    let all = chunks_rest c.loop-batch.batch-iterator in
    let rest = chunks_rest c.next.new.self in
    let parts : all ≡ batch ++ rest = steps.1.0 in
    let size : length batch ≡ min 16 (length all) = steps.1.1 ∙ ap (λ (n : ℕ). min n (length all)) so.size in
    record {
      next = search rules;
      ends = tt;
      size = steps.0 ∙ so.size;
      latest = latest_behind batch rest all parts so.latest;
      loads = loads_both P old mid new so.loads (e.looks.done (λ is. absurd (cc)));
      stays = quiet_both P old mid new so.stays e.looks.stays;
      faults = e.looks.cause.stays (λ is. absurd (cc)) ∙ so.faults;
      cell_faults = e.cause.stays (λ is. absurd (cc)) ∙ so.cell_faults;
      so_far = λ told seen a is.
          (let put = e.put told seen a (archive_later P listed a old mid so.loads so.stays told is) in
          subst (λ (l : List ℕ). SoFar a m choices first rest l there) (sym put.more_is)
          (joined_so_far a m choices first batch rest c.loop-batch.lines put.told here there (subst (λ (cs : List Wanted). SoFar a m choices first cs c.loop-batch.lines here) parts (so.so_far told seen a is)) (put.so_far rest)));
      puts = λ seen last put. so.puts seen last (subst (λ (cs : List Wanted). MayPutEach m cs here last) (sym parts) (put_both m batch rest here there last (e.may seen) put));
      counted = λ told low slots has.
          (let now = e.loads told low slots (slots_later P slots old mid so.loads so.stays told has) in
          let sum = loads_behind slots listed all batch rest parts size steps.1.2 in
          omega (arith, so.counted told low slots has, now, sum));
    }

pub returns-in-Err-clause-left : goal.returns-in-Err-clause-left
returns-in-Err-clause-left g c = λ told seen a is.
    let P = g.P.Plant in
    let C = g.C.Cell in
    let so = c.loop-batch.invariant in
    let listed = c.args.budb.now.database.listed in
    let m = c.args.manner.now in
    let choices = c.args.choices.now in
    let first = C.list c.args.cell.now in
    let batch = c.in-Some.batch.now in
    let rest = chunks_rest c.next.new.self in
    let parts = c.in-Some.ensures.steps.1.0 in
    let here = C.list c.loop-batch.cell in
    rest_left a m choices first (batch ++ rest) c.loop-batch.lines here (C.list c.restore_batch.new.cell)
    (subst (λ (cs : List Wanted). SoFar a m choices first cs c.loop-batch.lines here) parts (so.so_far told seen a is))
    (c.in-Err.ensures.left told seen a (archive_later P listed a c.args.plant.now c.loop-batch.plant so.loads so.stays told is) rest)

pub returns-in-Err-clause-may : goal.returns-in-Err-clause-may
returns-in-Err-clause-may g c = λ seen.
    let C = g.C.Cell in
    let m = c.args.manner.now in
    let batch = c.in-Some.batch.now in
    let rest = chunks_rest c.next.new.self in
    let here = C.list c.loop-batch.cell in
    let there = C.list c.restore_batch.new.cell in
    c.loop-batch.invariant.puts seen there
    (subst (λ (cs : List Wanted). MayPutEach m cs here there) (sym c.in-Some.ensures.steps.1.0) (put_both m batch rest here there there (c.in-Err.ensures.may seen) (none_put m rest there)))

pub returns-in-Err-clause-looks : goal.returns-in-Err-clause-looks
returns-in-Err-clause-looks g c =
    let so = c.loop-batch.invariant in
    looks_after g.P.Plant Plant c.args.plant.now c.loop-batch.plant c.restore_batch.new.plant (Err c.in-Err.stop) so.loads so.stays so.faults (stop_looks g.P.Plant c.in-Err.stop c.loop-batch.plant c.restore_batch.new.plant c.in-Err.ensures.looks)

pub returns-in-Err-clause-loads : goal.returns-in-Err-clause-loads
returns-in-Err-clause-loads g c = λ told low slots has.
    let P = g.P.Plant in
    let so = c.loop-batch.invariant in
    let listed = c.args.budb.now.database.listed in
    let steps = c.in-Some.ensures.steps in
    let all = chunks_rest c.loop-batch.batch-iterator in
    let size : length c.in-Some.batch.now ≡ min 16 (length all) = steps.1.1 ∙ ap (λ (n : ℕ). min n (length all)) so.size in
    let now = c.in-Err.ensures.loads told low slots (slots_later P slots c.args.plant.now c.loop-batch.plant so.loads so.stays told has) in
    let sum = loads_behind slots listed all c.in-Some.batch.now (chunks_rest c.next.new.self) steps.1.0 size steps.1.2 in
    omega (arith, so.counted told low slots has, now, sum)

pub returns-in-Err-clause-cause : goal.returns-in-Err-clause-cause
returns-in-Err-clause-cause g c =
    let C = g.C.Cell in
    cause_stop (C.faults c.args.cell.now) (C.faults c.loop-batch.cell) (C.faults c.restore_batch.new.cell) c.in-Err.stop c.loop-batch.invariant.cell_faults c.in-Err.ensures.cause

pub returns-in-Ok-piece-clause-answer : goal.returns-in-Ok-piece-clause-answer
returns-in-Ok-piece-clause-answer g c = λ told seen a is.
    let C = g.C.Cell in
    let none : chunks_rest c.loop-batch.batch-iterator ≡ [] = nil_from_length _ c.in-None.ensures.steps.1.0 in
    all_told a c.args.manner.now c.args.choices.now (C.list c.args.cell.now) c.loop-batch.lines c.into_bytes.result (C.list c.loop-batch.cell)
    (subst (λ (cs : List Wanted). SoFar a c.args.manner.now c.args.choices.now (C.list c.args.cell.now) cs c.loop-batch.lines (C.list c.loop-batch.cell)) none (c.loop-batch.invariant.so_far told seen a is))
    (c.into_bytes.ensures ∙ c.in-Ok-piece.ensures.ok)

pub returns-in-Ok-piece-clause-left : goal.returns-in-Ok-piece-clause-left
returns-in-Ok-piece-clause-left g c = λ told seen a is.
    let C = g.C.Cell in
    all_left a c.args.manner.now c.args.choices.now (C.list c.args.cell.now) (chunks_rest c.loop-batch.batch-iterator) c.loop-batch.lines (C.list c.loop-batch.cell) (c.loop-batch.invariant.so_far told seen a is)

pub returns-in-Ok-piece-clause-may : goal.returns-in-Ok-piece-clause-may
returns-in-Ok-piece-clause-may g c = λ seen.
    let here = g.C.Cell.list c.loop-batch.cell in
    c.loop-batch.invariant.puts seen here (none_put c.args.manner.now (chunks_rest c.loop-batch.batch-iterator) here)

pub returns-in-Ok-piece-clause-looks : goal.returns-in-Ok-piece-clause-looks
returns-in-Ok-piece-clause-looks g c =
    let so = c.loop-batch.invariant in
    looks_well g.P.Plant Plant c.args.plant.now c.loop-batch.plant (Ok c.into_bytes.result) so.loads so.stays so.faults (λ is. absurd (cc))

pub returns-in-Ok-piece-clause-loads : goal.returns-in-Ok-piece-clause-loads
returns-in-Ok-piece-clause-loads g c = λ told low slots has. omega (arith, c.loop-batch.invariant.counted told low slots has)

pub returns-in-Ok-piece-clause-cause : goal.returns-in-Ok-piece-clause-cause
returns-in-Ok-piece-clause-cause g c =
    let C = g.C.Cell in
    cause_well (C.faults c.args.cell.now) (C.faults c.loop-batch.cell) (Ok c.into_bytes.result) c.loop-batch.invariant.cell_faults (λ is. absurd (cc))

pub returns-in-Err-piece-clause-left : goal.returns-in-Err-piece-clause-left
returns-in-Err-piece-clause-left g c = λ told seen a is.
    let C = g.C.Cell in
    all_left a c.args.manner.now c.args.choices.now (C.list c.args.cell.now) (chunks_rest c.loop-batch.batch-iterator) c.loop-batch.lines (C.list c.loop-batch.cell) (c.loop-batch.invariant.so_far told seen a is)

pub returns-in-Err-piece-clause-may : goal.returns-in-Err-piece-clause-may
returns-in-Err-piece-clause-may g c = λ seen.
    let here = g.C.Cell.list c.loop-batch.cell in
    c.loop-batch.invariant.puts seen here (none_put c.args.manner.now (chunks_rest c.loop-batch.batch-iterator) here)

pub returns-in-Err-piece-clause-looks : goal.returns-in-Err-piece-clause-looks
returns-in-Err-piece-clause-looks g c =
    let so = c.loop-batch.invariant in
    looks_well g.P.Plant Plant c.args.plant.now c.loop-batch.plant (Err Memory) so.loads so.stays so.faults (λ is. absurd (cc))

pub returns-in-Err-piece-clause-loads : goal.returns-in-Err-piece-clause-loads
returns-in-Err-piece-clause-loads g c = λ told low slots has. omega (arith, c.loop-batch.invariant.counted told low slots has)

pub returns-in-Err-piece-clause-cause : goal.returns-in-Err-piece-clause-cause
returns-in-Err-piece-clause-cause g c =
    let C = g.C.Cell in
    cause_well (C.faults c.args.cell.now) (C.faults c.loop-batch.cell) (Err Memory) c.loop-batch.invariant.cell_faults (λ is. absurd (cc))

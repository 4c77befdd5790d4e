use Rattle.std.proofs.Common.{◌≡◌, ℕ, List, [], Option, Some, None, length, sym, ap, ◌∙◌, subst, arith, append-nil}
use Rattle.std.specs.Prelude.{Err, nat_lt, if◌then◌else◌}
use Rattle.std.proofs.lemmas.Result.{err_from_is_err_and}
use Rattle.plant_core.specs.Effects.{Effect, putting_away}
use Rattle.plant_core.specs.Records.{Record}
use Rattle.plant_effects.specs.Runs.{state_of, loaded_of, Done, Leaves, SameNumbers}
use Rattle.plant_effects.proofs.Joining.{done_both, leaves_both}
use Rattle.tape_text.specs.Items.{Read}
use Rattle.tape_scan.specs.declared.sections.ScanFault.TheVariants as faults
use Rattle.tape_scan.specs.declared.sections.Sections.{Sections}
use Rattle.tape_scan.specs.Sections.{IsScanOf}
use Rattle.tape_scan.specs.Steps.{sections_of}
use Rattle.tape_scan.proofs.ReachedScan.{scan_is}
use Rattle.tape_scan.proofs.ScanningLaws.{handed_at, same_records, stop_there, no_stop, read_long}
use Rattle.tape_scan.proofs.scanning.scan_tape.Goals as goal
use Rattle.tape_scan.proofs.scanning.scan_tape.Goals.{then-place-tape_len, else-place-tape_len}

pub returns-in_err-walk-clause-leaves : goal.returns-in_err-walk-clause-leaves
returns-in_err-walk-clause-leaves g c =
    let away = putting_away (loaded_of g.P.Plant c.args.plant.now) c.args.slot in
    subst (λ (es : List Effect). Leaves g.P.Plant es c.args.plant.now c.walk_tape.new.plant) (append-nil (putting_away (loaded_of g.P.Plant c.args.plant.now) c.args.slot))
    (leaves_both g.P.Plant away [] c.args.plant.now c.load_tape.new.plant c.walk_tape.new.plant c.in_ok-load_tape.ensures.done c.load_tape.ensures.leaves c.walk_tape.ensures.leaves)

pub returns-in_err-walk-clause-memory : goal.returns-in_err-walk-clause-memory
returns-in_err-walk-clause-memory g c = λ memory.
    let P = g.P.Plant in
    let away = putting_away (loaded_of g.P.Plant c.args.plant.now) c.args.slot in
    let mid = c.load_tape.new.plant in
    let new = c.walk_tape.new.plant in
    let e = err_from_is_err_and c.from_residual-in_err-walk.result c.from_residual-in_err-walk.ensures.1 in
    subst (λ (es : List Effect). Done P es c.args.plant.now new) (append-nil (putting_away (loaded_of g.P.Plant c.args.plant.now) c.args.slot))
    (done_both P away [] c.args.plant.now mid new c.in_ok-load_tape.ensures.done
    (handed_at faults.Memory _ c.from_residual-in_err-walk.result (Done P [] mid new) (e.1 ∙ ap Err e.2) c.in_err-walk.ensures.memory memory))

pub returns-in_err-walk-clause-memory_log : goal.returns-in_err-walk-clause-memory_log
returns-in_err-walk-clause-memory_log g c = λ memory.
    let mid = c.load_tape.new.plant in
    let new = c.walk_tape.new.plant in
    let e = err_from_is_err_and c.from_residual-in_err-walk.result c.from_residual-in_err-walk.ensures.1 in
    (handed_at faults.Memory _ c.from_residual-in_err-walk.result (SameNumbers g.P.Plant mid new) (e.1 ∙ ap Err e.2) c.in_err-walk.ensures.memory_numbers memory).log_size ∙ c.in_ok-load_tape.ensures.log_size

pub returns-in_err-sections-clause-leaves : goal.returns-in_err-sections-clause-leaves
returns-in_err-sections-clause-leaves g c =
    let away = putting_away (loaded_of g.P.Plant c.args.plant.now) c.args.slot in
    subst (λ (es : List Effect). Leaves g.P.Plant es c.args.plant.now c.walk_tape.new.plant) (append-nil (putting_away (loaded_of g.P.Plant c.args.plant.now) c.args.slot))
    (leaves_both g.P.Plant away [] c.args.plant.now c.load_tape.new.plant c.walk_tape.new.plant c.in_ok-load_tape.ensures.done c.load_tape.ensures.leaves c.walk_tape.ensures.leaves)

pub returns-clause-leaves : goal.returns-clause-leaves
returns-clause-leaves g c =
    let away = putting_away (loaded_of g.P.Plant c.args.plant.now) c.args.slot in
    subst (λ (es : List Effect). Leaves g.P.Plant es c.args.plant.now c.walk_tape.new.plant) (append-nil (putting_away (loaded_of g.P.Plant c.args.plant.now) c.args.slot))
    (leaves_both g.P.Plant away [] c.args.plant.now c.load_tape.new.plant c.walk_tape.new.plant c.in_ok-load_tape.ensures.done c.load_tape.ensures.leaves c.walk_tape.ensures.leaves)

pub returns-clause-scanned : goal.returns-clause-scanned
returns-clause-scanned g c = λ told items read.
    let P = g.P.Plant in
    let slot = c.args.slot in
    let old = c.args.plant.now in
    let mid = c.load_tape.new.plant in
    let new = c.walk_tape.new.plant in
    let place = c.in_ok-walk.place in
    let walk = c.in_ok-walk.walk in
    let loaded = c.in_ok-load_tape.ensures.loaded in
    let same : (state_of P mid).tape slot ≡ (state_of P old).tape slot = (c.in_ok-load_tape.ensures.done.state told).tape slot ∙ same_records (loaded_of P old) slot (state_of P old) slot in
    let kept : (state_of P new).tape slot ≡ (state_of P old).tape slot = (c.in_ok-walk.ensures.done.state told).tape slot ∙ same in
    let walked = c.in_ok-walk.ensures.walked told slot items loaded (subst (λ (rs : List Record). Read rs items) (sym same) read) in
    let records = g.met.P.Plant.records_told new slot told c.in_ok-walk.ensures.done.sound (c.in_ok-walk.ensures.numbers.tape.loaded ∙ loaded) in
    let long : c.tape_len.result ≡ length items = omega (arith, c.tape_len.ensures, records, ap (λ (rs : List Record). length rs) kept, read_long ((state_of P old).tape slot) items read) in
    let stop : c.if-place-tape_len.stop ≡ (if nat_lt c.in_ok-walk.place (length items) then Some c.in_ok-walk.place else None) = elim c.if-place-tape_len.branch [
      | then-place-tape_len w ↦ w.stop-is ∙ stop_there place (length items) (omega (arith, w.if-place-tape_len.true, long))
      | else-place-tape_len w ↦ w.stop-is ∙ no_stop place (length items) (omega (arith, w.if-place-tape_len.false, long))
    ] in
    let told_is : c.in_ok-sections.sections ≡ sections_of slot (if nat_lt place (length items) then Some place else None) walk = c.in_ok-sections.ensures ∙ ap (λ (s : Option ℕ). sections_of c.args.slot s c.in_ok-walk.walk) stop in
    subst (λ (s : Sections). IsScanOf c.args.slot items s) (sym told_is) (scan_is slot items place walk walked)

use Rattle.std.proofs.Common.{ap}
use Rattle.std.specs.Prelude.{Err}
use Rattle.plant_effects.specs.Runs.{state_of}
use Rattle.tape_scan.specs.declared.sections.ScanFault.{ScanFault}
use Rattle.tape_scan.proofs.Looking.{a_load_loads, a_load_leaves}
use Rattle.backup_session.proofs.scanning.scan_slot.Goals as goal

pub returns-in-Ok-clause-sections : goal.returns-in-Ok-clause-sections
returns-in-Ok-clause-sections g c = λ told.
    c.a_scan_tells.ensures.read c.args.slot ((state_of g.P.Plant c.args.plant.now).tape c.args.slot) c.in-Ok.sections (λ items read. c.in-Ok.ensures.scanned told items read)

pub returns-in-Ok-clause-loads : goal.returns-in-Ok-clause-loads
returns-in-Ok-clause-loads g c = a_load_loads g.P.Plant c.args.plant.now c.scan_tape.new.plant c.args.slot c.in-Ok.ensures.done c.scan_tape.ensures.leaves c.in-Ok.ensures.log_size

pub returns-in-Ok-clause-leaves : goal.returns-in-Ok-clause-leaves
returns-in-Ok-clause-leaves g c = a_load_leaves g.P.Plant c.args.plant.now c.scan_tape.new.plant c.args.slot c.scan_tape.ensures.leaves

pub returns-in-Err-Failed-clause-leaves : goal.returns-in-Err-Failed-clause-leaves
returns-in-Err-Failed-clause-leaves g c = a_load_leaves g.P.Plant c.args.plant.now c.scan_tape.new.plant c.args.slot c.scan_tape.ensures.leaves

pub returns-in-Err-Memory-clause-stopped : goal.returns-in-Err-Memory-clause-stopped
returns-in-Err-Memory-clause-stopped g c = λ other.
    let is = ap (λ (f : ScanFault). Err f) c.in-Err-Memory.field-0-is in
    a_load_loads g.P.Plant c.args.plant.now c.scan_tape.new.plant c.args.slot (c.in-Err-Memory.ensures.memory is) c.scan_tape.ensures.leaves (c.in-Err-Memory.ensures.memory_log is)

pub returns-in-Err-Memory-clause-leaves : goal.returns-in-Err-Memory-clause-leaves
returns-in-Err-Memory-clause-leaves g c = a_load_leaves g.P.Plant c.args.plant.now c.scan_tape.new.plant c.args.slot c.scan_tape.ensures.leaves

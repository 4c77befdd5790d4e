use Rattle.std.proofs.Common.{ℕ, List, ◌++◌, ◌∙◌, ap, subst}
use Rattle.std.specs.Prelude.{Err}
use Rattle.std.proofs.lemmas.Result.{err_from_is_err_and}
use Rattle.std.specs.List.{flat_map}
use Rattle.plant_effects.specs.Runs.{Leaves}
use Rattle.plant_effects.proofs.Joining.{nothing_left}
use Rattle.dump_courses.specs.Ahead.{DoneAhead, LeftAhead}
use Rattle.dump_courses.proofs.Stopping.{on_stop, handed, left_standing, left_whole}
use Rattle.budb_changes.specs.declared.records.DumpRecordFields.{DumpRecordFields}
use Rattle.tape_scan.specs.declared.assembling.PartId.{PartId}
use Rattle.backup_replies.specs.Texts.{ok_line}
use Rattle.backup_session.specs.declared.stops.Stop.TheVariants as stops
use Rattle.backup_session.specs.Scanning.{dumps_turn, stopped_line, left_line}
use Rattle.backup_session.specs.Fitting.{Stepped}
use Rattle.backup_session.proofs.session.Session.tell_found.Goals as goal

pub returns-in_err-put_stops-clause-leaves : goal.returns-in_err-put_stops-clause-leaves
returns-in_err-put_stops-clause-leaves g c = λ told w fits.
    let old = c.args.plant.now in
    nothing_left g.P.Plant (dumps_turn w c.args.dbadd c.args.found.now.whole).effects old (λ told survives image left. g.met.P.Plant.left old image told c.requires survives left)

pub returns-in_err-tell_dumps-clause-leaves : goal.returns-in_err-tell_dumps-clause-leaves
returns-in_err-tell_dumps-clause-leaves g c = λ told w fits.
    subst (λ (l : List DumpRecordFields). Leaves g.P.Plant (dumps_turn w c.args.dbadd l).effects c.args.plant.now c.tell_dumps.new.plant) c.as_slice.ensures (c.tell_dumps.ensures.leaves told w fits)

pub returns-in_err-with_parts-clause-leaves : goal.returns-in_err-with_parts-clause-leaves
returns-in_err-with_parts-clause-leaves g c = λ told w fits.
    subst (λ (l : List DumpRecordFields). Leaves g.P.Plant (dumps_turn w c.args.dbadd l).effects c.args.plant.now c.tell_dumps.new.plant) c.as_slice.ensures (c.tell_dumps.ensures.leaves told w fits)

pub returns-clause-leaves : goal.returns-clause-leaves
returns-clause-leaves g c = λ told w fits.
    subst (λ (l : List DumpRecordFields). Leaves g.P.Plant (dumps_turn w c.args.dbadd l).effects c.args.plant.now c.tell_dumps.new.plant) c.as_slice.ensures (c.tell_dumps.ensures.leaves told w fits)

pub returns-clause-stepped : goal.returns-clause-stepped
returns-clause-stepped g c = λ told w fits.
    let P = g.P.Plant in
    let old = c.args.plant.now in
    let new = c.tell_dumps.new.plant in
    let whole = c.args.found.now.whole in
    let later = c.tell_dumps.new.self in
    let lines = c.tell_dumps.new.lines in (
      lines,
      subst (λ (l : List ℕ). Stepped P w (dumps_turn w c.args.dbadd whole) old new later l lines) (c.in_ok-put_stops.ensures ∙ ap (λ (l : List ℕ). l ++ flat_map stopped_line c.args.tapes.now) c.new-lines.ensures)
          (subst (λ (l : List DumpRecordFields). Stepped P w (dumps_turn w c.args.dbadd l) old new later c.put_stops.new.lines lines) c.as_slice.ensures (c.in_ok-tell_dumps.ensures.stepped told w fits)),
      c.in_ok-with_parts.ensures ∙ ap (λ (ps : List PartId). lines ++ (flat_map left_line ps ++ ok_line)) c.as_slice-2.ensures,
    )

-- at a stop that isn't the plant's

pub returns-in_err-put_stops-clause-stopped : goal.returns-in_err-put_stops-clause-stopped
returns-in_err-put_stops-clause-stopped g c = λ told w fits. on_stop stops.Plant _ _ (λ other. left_standing g.P.Plant _ c.args.plant.now w.state c.requires (λ _. fits.state))

pub returns-in_err-tell_dumps-clause-unfailed : goal.returns-in_err-tell_dumps-clause-unfailed
returns-in_err-tell_dumps-clause-unfailed g c = λ other.
    let r = err_from_is_err_and c.from_residual-in_err-tell_dumps.result c.from_residual-in_err-tell_dumps.ensures.1 in
    handed stops.Plant _ c.from_residual-in_err-tell_dumps.result (g.P.Plant.sound c.tell_dumps.new.plant) (r.1 ∙ ap Err r.2) c.in_err-tell_dumps.ensures.unfailed other

pub returns-in_err-tell_dumps-clause-stopped : goal.returns-in_err-tell_dumps-clause-stopped
returns-in_err-tell_dumps-clause-stopped g c = λ told w fits.
    let P = g.P.Plant in
    let old = c.args.plant.now in
    let new = c.tell_dumps.new.plant in
    let whole = c.args.found.now.whole in
    let r = err_from_is_err_and c.from_residual-in_err-tell_dumps.result c.from_residual-in_err-tell_dumps.ensures.1 in
    on_stop stops.Plant _ _ (λ other. subst (λ (l : List DumpRecordFields). LeftAhead P (dumps_turn w c.args.dbadd l).effects old new) c.as_slice.ensures
    (handed stops.Plant _ c.from_residual-in_err-tell_dumps.result (LeftAhead P (dumps_turn w c.args.dbadd c.as_slice.result.now).effects old new) (r.1 ∙ ap Err r.2) (c.in_err-tell_dumps.ensures.stopped told w fits) other))

pub returns-in_err-with_parts-clause-stopped : goal.returns-in_err-with_parts-clause-stopped
returns-in_err-with_parts-clause-stopped g c = λ told w fits.
    let P = g.P.Plant in
    let old = c.args.plant.now in
    let new = c.tell_dumps.new.plant in
    let whole = c.args.found.now.whole in
    on_stop stops.Plant _ _ (λ other. left_whole P (dumps_turn w c.args.dbadd whole).effects old new
    (subst (λ (l : List DumpRecordFields). DoneAhead P (dumps_turn w c.args.dbadd l).effects old new) c.as_slice.ensures (c.in_ok-tell_dumps.ensures.stepped told w fits).done))

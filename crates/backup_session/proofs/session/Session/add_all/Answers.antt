use Rattle.std.proofs.Common.{◌≡◌, ℕ, ◌+◌, ◌<◌, length, List, [], ◌∷◌, ◌++◌, take, refl, sym, ◌∙◌, ap, subst, arith}
use Rattle.std.proofs.lemmas.List.{take_all, take_more}
use Rattle.plant_effects.specs.Runs.{Leaves}
use Rattle.plant_effects.proofs.Joining.{nothing_left, nothing_quiet, quiet_both}
use Rattle.budb_changes.specs.declared.records.DumpRecordFields.{DumpRecordFields}
use Rattle.backup_session.specs.Worlds.{before_reply}
use Rattle.backup_session.specs.Scanning.{adding, added_if}
use Rattle.backup_session.specs.Fitting.{Stepped}
use Rattle.backup_session.proofs.ScanLaws.{start_stepped, start_full, next_stepped, next_full, next_leaves, front_leaves, next_stopped, front_stopped}
use Rattle.std.specs.Prelude.{Err}
use Rattle.std.proofs.lemmas.Result.{err_from_is_err_and}
use Rattle.backup_session.specs.declared.stops.Stop.TheVariants as stops
use Rattle.dump_courses.specs.Ahead.{LeftAhead}
use Rattle.dump_courses.proofs.Stopping.{on_stop, handed, left_whole}
use Rattle.backup_session.proofs.session.Session.add_all.Goals as goal

pub loop-dump-init : goal.loop-dump-init
loop-dump-init g c =
    let P = g.P.Plant in
    let old = c.args.plant.now in
    record {
      sound = c.requires;
      stepped = λ told w fits. start_stepped P w old c.args.self.now c.args.lines.now fits c.requires;
      full = λ told w fits. start_full P w;
      leaves = λ told w fits. nothing_left P (adding w []).turn.effects old (λ told survives image left. g.met.P.Plant.left old image told c.requires survives left);
      stays = nothing_quiet P old;
      faults = refl;
    }

pub loop-dump-preserved : goal.loop-dump-preserved
loop-dump-preserved g c =
    let P = g.P.Plant in
    let old = c.args.plant.now in
    let mid = c.loop-dump.plant in
    let dumps = c.args.dumps.now in
    let i : ℕ = c.loop-dump.dump-index in
    let so_far = c.loop-dump.invariant in
    let within : i < length dumps = omega (arith, c.loop-dump-test.true) in
    let new = c.add_if.new.plant in
    let d = c.dump-item.result in
    let more : take (i + 1) dumps ≡ take i dumps ++ d ∷ [] = take_more dumps i d within ∙ ap (λ (x : DumpRecordFields). take i dumps ++ x ∷ []) (sym c.dump-item.is) in
    record {
      sound = c.in_ok-now.ensures.sound;
      stepped = λ told w fits. next_stepped P w dumps i d more c.loop-dump.full (so_far.full told w fits) old mid new c.loop-dump.self c.add_if.new.self c.args.lines.now c.loop-dump.lines c.put_found.new.line c.add_if.new.lines c.in_ok-put_found.ensures (so_far.stepped told w fits)
          (c.in_ok-now.ensures.stepped told (before_reply w (adding w (take i dumps)).turn) (so_far.stepped told w fits).fits);
      full = λ told w fits. next_full P w dumps i d more c.loop-dump.full (so_far.full told w fits) c.in_ok-now.now (c.in_ok-now.ensures.full told (before_reply w (adding w (take i dumps)).turn) (so_far.stepped told w fits).fits);
      leaves = λ told w fits. next_leaves P w dumps i d more c.loop-dump.full (so_far.full told w fits) old mid new (so_far.stepped told w fits).done (so_far.leaves told w fits)
          (c.add_if.ensures.leaves told (before_reply w (adding w (take i dumps)).turn) (so_far.stepped told w fits).fits);
      stays = quiet_both P old mid new so_far.stays c.add_if.ensures.stays;
      faults = c.in_ok-now.ensures.cause.stays (λ failed. cc) ∙ so_far.faults;
    }

pub returns-in_err-put_found-clause-leaves : goal.returns-in_err-put_found-clause-leaves
returns-in_err-put_found-clause-leaves g c = λ told w fits.
    front_leaves g.P.Plant w c.args.dumps.now c.loop-dump.dump-index c.args.plant.now c.loop-dump.plant (c.loop-dump.invariant.leaves told w fits)

pub returns-in_err-now-clause-leaves : goal.returns-in_err-now-clause-leaves
returns-in_err-now-clause-leaves g c = λ told w fits.
    let P = g.P.Plant in
    let old = c.args.plant.now in
    let mid = c.loop-dump.plant in
    let dumps = c.args.dumps.now in
    let i : ℕ = c.loop-dump.dump-index in
    let so_far = c.loop-dump.invariant in
    let within : i < length dumps = omega (arith, c.loop-dump-test.true) in
    let new = c.add_if.new.plant in
    let d = c.dump-item.result in
    let more : take (i + 1) dumps ≡ take i dumps ++ d ∷ [] = take_more dumps i d within ∙ ap (λ (x : DumpRecordFields). take i dumps ++ x ∷ []) (sym c.dump-item.is) in
    front_leaves P w dumps (i + 1) old new
    (next_leaves P w dumps i d more c.loop-dump.full (so_far.full told w fits) old mid new (so_far.stepped told w fits).done (so_far.leaves told w fits) (c.add_if.ensures.leaves told (before_reply w (adding w (take i dumps)).turn) (so_far.stepped told w fits).fits))

pub returns-clause-stepped : goal.returns-clause-stepped
returns-clause-stepped g c = λ told w fits.
    let P = g.P.Plant in
    let i : ℕ = c.loop-dump.dump-index in
    subst (λ (l : List DumpRecordFields). Stepped P w (adding w l).turn c.args.plant.now c.loop-dump.plant c.loop-dump.self c.args.lines.now c.loop-dump.lines) (take_all i c.args.dumps.now (omega (arith, c.loop-dump-test.false))) (c.loop-dump.invariant.stepped told w fits)

pub returns-clause-leaves : goal.returns-clause-leaves
returns-clause-leaves g c = λ told w fits.
    let P = g.P.Plant in
    let i : ℕ = c.loop-dump.dump-index in
    subst (λ (l : List DumpRecordFields). Leaves P (adding w l).turn.effects c.args.plant.now c.loop-dump.plant) (take_all i c.args.dumps.now (omega (arith, c.loop-dump-test.false))) (c.loop-dump.invariant.leaves told w fits)

pub returns-in_err-put_found-clause-stopped : goal.returns-in_err-put_found-clause-stopped
returns-in_err-put_found-clause-stopped g c = λ told w fits.
    let P = g.P.Plant in
    let old = c.args.plant.now in
    let mid = c.loop-dump.plant in
    let dumps = c.args.dumps.now in
    let i : ℕ = c.loop-dump.dump-index in
    on_stop stops.Plant _ _ (λ other. front_stopped P w dumps i old mid (left_whole P (adding w (take i dumps)).turn.effects old mid (c.loop-dump.invariant.stepped told w fits).done))

pub returns-in_err-now-clause-stopped : goal.returns-in_err-now-clause-stopped
returns-in_err-now-clause-stopped g c = λ told w fits.
    let P = g.P.Plant in
    let old = c.args.plant.now in
    let mid = c.loop-dump.plant in
    let dumps = c.args.dumps.now in
    let i : ℕ = c.loop-dump.dump-index in
    let so_far = c.loop-dump.invariant in
    let within : i < length dumps = omega (arith, c.loop-dump-test.true) in
    let new = c.add_if.new.plant in
    let d = c.dump-item.result in
    let more : take (i + 1) dumps ≡ take i dumps ++ d ∷ [] = take_more dumps i d within ∙ ap (λ (x : DumpRecordFields). take i dumps ++ x ∷ []) (sym c.dump-item.is) in
    let here = before_reply w (adding w (take i dumps)).turn in
    let e = err_from_is_err_and c.from_residual-in_err-now.result c.from_residual-in_err-now.ensures.1 in
    on_stop stops.Plant _ _ (λ other. front_stopped P w dumps (i + 1) old new
    (next_stopped P w dumps i d more c.loop-dump.full (so_far.full told w fits) old mid new (so_far.stepped told w fits).done
    (handed stops.Plant _ c.from_residual-in_err-now.result (LeftAhead P (added_if here c.loop-dump.full d).turn.effects mid new) (e.1 ∙ ap Err e.2) (c.in_err-now.ensures.stopped told here (so_far.stepped told w fits).fits) other)))

use Rattle.std.proofs.Common.{◌≡◌, ◌≢◌, ℕ, [], ◌∷◌, inl, inr, sym, ◌∙◌, ap, subst, arith}
use Rattle.std.specs.Prelude.{Some, Ok, Err}
use Rattle.crash_moments.specs.Moments.{Rose}
use Rattle.plant_core.specs.Effects.{commits, putting_away}
use Rattle.plant_effects.specs.Runs.{state_of, loaded_of}
use Rattle.plant_effects.proofs.Joining.{leaves_both, quiet_both}
use Rattle.budb_changes.specs.Bytes.{encoded}
use Rattle.budb_fold.specs.Database.{after, after_from}
use Rattle.tape_scan.specs.Looking.{Loads}
use Rattle.tape_scan.proofs.Looking.{loads_none, leaves_loads}
use Rattle.budb_save.specs.declared.choosing.Picked.{Picked}
use Rattle.budb_save.specs.declared.fault.LoadFault.TheVariants.{InUse, Failed}
use Rattle.budb_save.specs.Back.{IsUnused, IsBack}
use Rattle.budb_save.specs.Saving.{load_pick}
use Rattle.budb_save.specs.Loading.{SavesChanges, CommitsBack, RefusesBack, FindsChanges, load_effects}
use Rattle.budb_save.proofs.AnswerLaws.{answer_is, done_is, leaves_none, done_found, leaves_found}
use Rattle.budb_save.proofs.LoadLaws.{refuses, refuses_commit, back_is, on_ok_back, on_err_back, if_err_back, back_ok, loads_few}
use Rattle.budb_save.proofs.loading.load_back.Goals as goal

-- ---- in use

pub returns-then-not-is_unused-clause-refused : goal.returns-then-not-is_unused-clause-refused
returns-then-not-is_unused-clause-refused g c = λ told slots has unused. c.is_unused.ensures.no c.if-not-is_unused.true (subst IsUnused (sym c.database.ensures) unused)

pub returns-then-not-is_unused-clause-looked : goal.returns-then-not-is_unused-clause-looked
returns-then-not-is_unused-clause-looked g c = λ well.
    let old = c.args.plant.now in
    loads_none g.P.Plant old c.requires.sound (λ told survives image left. g.met.P.Plant.left old image told c.requires.sound survives left)

pub returns-then-not-is_unused-clause-leaves : goal.returns-then-not-is_unused-clause-leaves
returns-then-not-is_unused-clause-leaves g c =
    let old = c.args.plant.now in
    inl (leaves_loads g.P.Plant old old (loads_none g.P.Plant old c.requires.sound (λ told survives image left. g.met.P.Plant.left old image told c.requires.sound survives left)))

pub returns-then-not-is_unused-clause-answer : goal.returns-then-not-is_unused-clause-answer
returns-then-not-is_unused-clause-answer g c = λ told slots has.
    let old = c.args.plant.now in
    answer_is g.P.Plant c.args.port.now old old c.args.budb.now c.args.budb.now told slots has (Err InUse) (returns-then-not-is_unused-clause-refused g c told slots has) tt

pub returns-then-not-is_unused-clause-done : goal.returns-then-not-is_unused-clause-done
returns-then-not-is_unused-clause-done g c = λ told slots has.
    let old = c.args.plant.now in
    done_is g.P.Plant c.args.port.now old old c.args.budb.now c.args.budb.now told slots has (Err InUse) (returns-then-not-is_unused-clause-refused g c told slots has)
    (returns-then-not-is_unused-clause-looked g c) tt

pub returns-then-not-is_unused-clause-away : goal.returns-then-not-is_unused-clause-away
returns-then-not-is_unused-clause-away g c = λ told slots has.
    let P = g.P.Plant in
    let old = c.args.plant.now in
    let loads = loads_none P old c.requires.sound (λ tells survives image left. g.met.P.Plant.left old image tells c.requires.sound survives left) in
    leaves_none P old old (load_effects c.args.budb.now.database (P.view old).log_size (state_of P old).tape (load_pick c.args.port.now slots)) (leaves_loads P old old loads)

-- ---- nothing found

pub returns-in-Err-clause-in_use : goal.returns-in-Err-clause-in_use
returns-in-Err-clause-in_use g c = λ used. absurd (used (subst IsUnused c.database.ensures (c.is_unused.ensures.yes c.if-not-is_unused.false)))

pub returns-in-Err-clause-used_same : goal.returns-in-Err-clause-used_same
returns-in-Err-clause-used_same g c = λ is. (let used : c.in-Err.fault ≡ InUse = cc in absurd (c.in-Err.ensures.unused (ap Err used)))

pub returns-in-Err-clause-refused : goal.returns-in-Err-clause-refused
returns-in-Err-clause-refused g c = λ told slots has.
    let P = g.P.Plant in
    let old = c.args.plant.now in
    let unused = subst IsUnused c.database.ensures (c.is_unused.ensures.yes c.if-not-is_unused.false) in
    refuses c.args.budb.now.database (P.view old).log_size (state_of P old).tape (load_pick c.args.port.now slots) c.in-Err.fault unused (c.in-Err.ensures.read told slots has)

pub returns-in-Err-clause-looked : goal.returns-in-Err-clause-looked
returns-in-Err-clause-looked g c = λ well. c.in-Err.ensures.looks.done (λ is. (let failed : c.in-Err.fault ≡ Failed = cc in well (ap Err failed)))

pub returns-in-Err-clause-leaves : goal.returns-in-Err-clause-leaves
returns-in-Err-clause-leaves g c = inl c.in-Err.ensures.looks.leaves

pub returns-in-Err-clause-answer : goal.returns-in-Err-clause-answer
returns-in-Err-clause-answer g c = λ told slots has.
    answer_is g.P.Plant c.args.port.now c.args.plant.now c.find_changes.new.plant c.args.budb.now c.args.budb.now told slots has (Err c.in-Err.fault) (returns-in-Err-clause-refused g c told slots has) tt

pub returns-in-Err-clause-done : goal.returns-in-Err-clause-done
returns-in-Err-clause-done g c = λ told slots has.
    done_is g.P.Plant c.args.port.now c.args.plant.now c.find_changes.new.plant c.args.budb.now c.args.budb.now told slots has (Err c.in-Err.fault) (returns-in-Err-clause-refused g c told slots has)
    (returns-in-Err-clause-looked g c) tt

pub returns-in-Err-clause-away : goal.returns-in-Err-clause-away
returns-in-Err-clause-away g c = λ told slots has.
    let P = g.P.Plant in
    let old = c.args.plant.now in
    leaves_none P old c.find_changes.new.plant (load_effects c.args.budb.now.database (P.view old).log_size (state_of P old).tape (load_pick c.args.port.now slots)) c.in-Err.ensures.looks.leaves

-- ---- found

pub commit_back-requires-clause-sound : goal.commit_back-requires-clause-sound
commit_back-requires-clause-sound g c = c.in-Ok.ensures.found.done.sound

pub commit_back-requires-clause-none : goal.commit_back-requires-clause-none
commit_back-requires-clause-none g c = (subst IsUnused c.database.ensures (c.is_unused.ensures.yes c.if-not-is_unused.false)).listed

pub returns-in-Ok-clause-in_use : goal.returns-in-Ok-clause-in_use
returns-in-Ok-clause-in_use g c = λ used. absurd (used (subst IsUnused c.database.ensures (c.is_unused.ensures.yes c.if-not-is_unused.false)))

pub returns-in-Ok-clause-refused : goal.returns-in-Ok-clause-refused
returns-in-Ok-clause-refused g c = λ told slots has.
    let P = g.P.Plant in
    let old = c.args.plant.now in
    let mid = c.find_changes.new.plant in
    let changes = c.as_slice.result.now in
    let unused = subst IsUnused c.database.ensures (c.is_unused.ensures.yes c.if-not-is_unused.false) in
    let found = subst (FindsChanges P c.args.port.now old mid) (sym c.as_slice.ensures) c.in-Ok.ensures.found in
    let saved = found.saved told slots has in
    let db = c.args.budb.now.database in
    let o = load_pick c.args.port.now slots in
    let saves = subst (λ (k : ℕ). SavesChanges ((state_of P old).tape k) changes) (sym saved.2) saved.3 in
    if_err_back c.commit_back.result (CommitsBack (P.view mid).log_size changes) (RefusesBack db (P.view old).log_size (state_of P old).tape o)
    (λ fault refused. refuses_commit db (P.view old).log_size (state_of P old).tape o saved.0 changes fault unused saved.1 saves (subst (λ (n : ℕ). CommitsBack n changes fault) found.log_size refused)) c.commit_back.ensures.refused

pub returns-in-Ok-clause-back : goal.returns-in-Ok-clause-back
returns-in-Ok-clause-back g c =
    let P = g.P.Plant in
    let old = c.args.plant.now in
    let mid = c.find_changes.new.plant in
    let new = c.commit_back.new.plant in
    let unused = subst IsUnused c.database.ensures (c.is_unused.ensures.yes c.if-not-is_unused.false) in
    let found = subst (FindsChanges P c.args.port.now old mid) (sym c.as_slice.ensures) c.in-Ok.ensures.found in
    let e = c.commit_back.ensures in
    back_ok P c.args.port.now old mid new c.args.budb.now c.commit_back.new.budb c.as_slice.result.now c.commit_back.result unused found e.made e.count e.keeps e.done e.size e.within

pub returns-in-Ok-clause-saved : goal.returns-in-Ok-clause-saved
returns-in-Ok-clause-saved g c = λ told slots has p is log form stands.
    let P = g.P.Plant in
    let old = c.args.plant.now in
    let mid = c.find_changes.new.plant in
    let changes = c.as_slice.result.now in
    let unused = subst IsUnused c.database.ensures (c.is_unused.ensures.yes c.if-not-is_unused.false) in
    let found = subst (FindsChanges P c.args.port.now old mid) (sym c.as_slice.ensures) c.in-Ok.ensures.found in
    let saved = found.saved told slots has in
    let db = c.args.budb.now.database in
    let new = c.commit_back.new.budb.database in
    let both : Some saved.0 ≡ Some p = sym saved.1 ∙ is in
    let same : saved.0 ≡ p = cc in
    let saves : SavesChanges ((state_of P old).tape p.slot) changes = subst (λ (q : Picked). SavesChanges ((state_of P old).tape q.slot) changes) same (subst (λ (k : ℕ). SavesChanges ((state_of P old).tape k) changes) (sym saved.2) saved.3) in
    on_ok_back c.commit_back.result (new ≡ after_from changes db) (IsBack (after log) db new) (λ made. back_is ((state_of P old).tape p.slot) changes log db new saves form stands made unused) c.commit_back.ensures.made

pub returns-in-Ok-clause-looked : goal.returns-in-Ok-clause-looked
returns-in-Ok-clause-looked g c =
    let P = g.P.Plant in
    let old = c.args.plant.now in
    let mid = c.find_changes.new.plant in
    let new = c.commit_back.new.plant in
    let r = c.commit_back.result in
    let loads : Loads P old mid = c.in-Ok.ensures.looks.done (λ is. absurd (cc)) in
    on_err_back r (r ≢ Err Failed → new ≡ mid) (r ≢ Err Failed → Loads P old new) (λ same well. subst (Loads P old) (sym (same well)) loads) c.commit_back.ensures.plant_same

pub returns-in-Ok-clause-leaves : goal.returns-in-Ok-clause-leaves
returns-in-Ok-clause-leaves g c =
    let P = g.P.Plant in
    let old = c.args.plant.now in
    let mid = c.find_changes.new.plant in
    let new = c.commit_back.new.plant in
    let changes = c.as_slice.result.now in
    let found = subst (FindsChanges P c.args.port.now old mid) (sym c.as_slice.ensures) c.in-Ok.ensures.found in
    inr record {
      slot = found.slot;
      changes = changes;
      saved = found.saved;
      leaves = leaves_both P (putting_away (loaded_of P old) found.slot) (commits (encoded changes) ∷ []) old mid new found.done found.leaves c.commit_back.ensures.leaves;
    }

pub returns-in-Ok-clause-answer : goal.returns-in-Ok-clause-answer
returns-in-Ok-clause-answer g c = λ told slots has.
    answer_is g.P.Plant c.args.port.now c.args.plant.now c.commit_back.new.plant c.args.budb.now c.commit_back.new.budb told slots has c.commit_back.result
    (returns-in-Ok-clause-refused g c told slots has) (returns-in-Ok-clause-back g c)

pub returns-in-Ok-clause-done : goal.returns-in-Ok-clause-done
returns-in-Ok-clause-done g c = λ told slots has.
    let P = g.P.Plant in
    let port = c.args.port.now in
    let old = c.args.plant.now in
    let mid = c.find_changes.new.plant in
    let new = c.commit_back.new.plant in
    let was = c.args.budb.now in
    let now = c.commit_back.new.budb in
    let e = c.commit_back.ensures in
    let unused = subst IsUnused c.database.ensures (c.is_unused.ensures.yes c.if-not-is_unused.false) in
    let found = subst (FindsChanges P port old mid) (sym c.as_slice.ensures) c.in-Ok.ensures.found in
    done_is P port old new was now told slots has c.commit_back.result (returns-in-Ok-clause-refused g c told slots has) (returns-in-Ok-clause-looked g c)
    (done_found P port old new was now told slots has mid c.as_slice.result.now unused found c.commit_back.result e.done e.size e.within)

pub returns-in-Ok-clause-away : goal.returns-in-Ok-clause-away
returns-in-Ok-clause-away g c = λ told slots has.
    let P = g.P.Plant in
    let port = c.args.port.now in
    let old = c.args.plant.now in
    let mid = c.find_changes.new.plant in
    let e = c.commit_back.ensures in
    let unused = subst IsUnused c.database.ensures (c.is_unused.ensures.yes c.if-not-is_unused.false) in
    let found = subst (FindsChanges P port old mid) (sym c.as_slice.ensures) c.in-Ok.ensures.found in
    leaves_found P port old c.commit_back.new.plant c.args.budb.now c.commit_back.new.budb told slots has mid c.as_slice.result.now unused found e.over_same e.leaves

pub returns-in-Ok-clause-stays : goal.returns-in-Ok-clause-stays
returns-in-Ok-clause-stays g c = quiet_both g.P.Plant c.args.plant.now c.find_changes.new.plant c.commit_back.new.plant c.in-Ok.ensures.looks.stays c.commit_back.ensures.stays

pub returns-in-Ok-clause-loads : goal.returns-in-Ok-clause-loads
returns-in-Ok-clause-loads g c = λ well.
    loads_few g.P.Plant c.args.port.now c.args.plant.now c.find_changes.new.plant c.commit_back.new.plant c.commit_back.result c.find_changes.ensures.loads c.commit_back.ensures.loads c.commit_back.ensures.plant_same well

pub returns-in-Ok-clause-cause : goal.returns-in-Ok-clause-cause
returns-in-Ok-clause-cause g c =
    let P = g.P.Plant in
    let old = c.args.plant.now in
    let mid = c.find_changes.new.plant in
    let new = c.commit_back.new.plant in
    let e = c.commit_back.ensures.cause in
    let same : (P.view mid).faults ≡ (P.view old).faults = c.in-Ok.ensures.looks.cause.stays (λ is. absurd (cc)) in
    record {
      later = omega (arith, e.later, same);
      failed = λ is. subst (λ (n : ℕ). Rose n (P.view new).faults) same (e.failed is);
      stays = λ well. e.stays well ∙ same;
    }

use Rattle.std.proofs.Common.{ℕ, ◌≡◌, ◌+◌, List, [], ◌∷◌, ◌++◌, length, ◌∙◌, ap, subst, rules}
use Rattle.std.specs.Prelude.{Err}
use Rattle.std.proofs.lemmas.Result.{err_from_is_err_and}
use Rattle.plant_core.specs.Effects.{commits}
use Rattle.plant_effects.specs.Runs.{state_of, Done, Leaves}
use Rattle.budb_changes.specs.declared.change.Change.{Change}
use Rattle.budb_changes.specs.Bytes.{encoded}
use Rattle.budb_changes.specs.Forms.{AreChanges}
use Rattle.budb_fold.specs.Database.{after_from}
use Rattle.budb_fold.specs.declared.database.Database.{Database}
use Rattle.budb.specs.Kept.{Keeps}
use Rattle.tape_scan.specs.Looking.{Loads}
use Rattle.dump_job.specs.declared.fault.JobFault.{JobFault}
use Rattle.dump_job.specs.Beginning.{new_id, id_of, begin_changes, begun_job}
use Rattle.dump_job.proofs.Beginnings.{keeps_loaded, done_behind, leaves_loads_alone, ready}
use Rattle.dump_job.proofs.Refusals.{refuses, commit_refuses, commit_left, begin_leaves, cause_then}
use Rattle.dump_job.proofs.beginning.begin_job.Goals as goal

pub returns-in_err-tape-clause-refused : goal.returns-in_err-tape-clause-refused
returns-in_err-tape-clause-refused g c = λ tells slots whole has are. refuses _ c.from_residual.result c.in_err-tape.field-0.0 (search rules) (c.in_err-tape.ensures.told tells slots whole has are)

pub returns-in_err-tape-clause-leaves : goal.returns-in_err-tape-clause-leaves
returns-in_err-tape-clause-leaves g c = λ tells slots whole has are. leaves_loads_alone g.P.Plant _ c.args.plant.now c.passed_tape.new.plant c.in_err-tape.ensures.plant.leaves

pub returns-in_err-changes-clause-leaves : goal.returns-in_err-changes-clause-leaves
returns-in_err-changes-clause-leaves g c = λ tells slots whole has are. leaves_loads_alone g.P.Plant _ c.args.plant.now c.passed_tape.new.plant c.in_ok-tape.ensures.plant.leaves

pub returns-in_err-job-clause-leaves : goal.returns-in_err-job-clause-leaves
returns-in_err-job-clause-leaves g c = λ tells slots whole has are. leaves_loads_alone g.P.Plant _ c.args.plant.now c.passed_tape.new.plant c.in_ok-tape.ensures.plant.leaves

pub returns-in_err-committed-clause-refused : goal.returns-in_err-committed-clause-refused
returns-in_err-committed-clause-refused g c = λ tells slots whole has are. let p = err_from_is_err_and c.from_residual-in_err-committed.result c.from_residual-in_err-committed.ensures.1 in commit_refuses g.P.Plant _ c.from_residual-in_err-committed.result c.in_err-committed.field-0.0 (cc (p.1, p.2)) c.in_err-committed.ensures.only

pub returns-in_err-committed-clause-loads : goal.returns-in_err-committed-clause-loads
returns-in_err-committed-clause-loads g c =
    let P = g.P.Plant in
    let p = err_from_is_err_and c.from_residual-in_err-committed.result c.from_residual-in_err-committed.ensures.1 in
    let old = c.args.plant.now in
    commit_left P (Loads P old) c.from_residual-in_err-committed.result c.in_err-committed.field-0.0 c.passed_tape.new.plant c.commit_begin-committed.new.plant (cc (p.1, p.2)) c.in_err-committed.ensures.only
    (λ memory. c.in_err-committed.ensures.memory_same (ap (λ (f : JobFault). Err f) memory)) c.in_ok-tape.ensures.plant.loads

pub returns-in_err-committed-clause-log_size : goal.returns-in_err-committed-clause-log_size
returns-in_err-committed-clause-log_size g c =
    let P = g.P.Plant in
    let p = err_from_is_err_and c.from_residual-in_err-committed.result c.from_residual-in_err-committed.ensures.1 in
    let old = c.args.plant.now in
    commit_left P (λ d. (P.view d).log_size ≡ (P.view old).log_size) c.from_residual-in_err-committed.result c.in_err-committed.field-0.0 c.passed_tape.new.plant c.commit_begin-committed.new.plant (cc (p.1, p.2)) c.in_err-committed.ensures.only
    (λ memory. c.in_err-committed.ensures.memory_same (ap (λ (f : JobFault). Err f) memory)) c.in_ok-tape.ensures.plant.log_size

pub returns-in_err-committed-clause-cause : goal.returns-in_err-committed-clause-cause
returns-in_err-committed-clause-cause g c =
    let P = g.P.Plant in
    let p = err_from_is_err_and c.from_residual-in_err-committed.result c.from_residual-in_err-committed.ensures.1 in
    let s = c.in_ok-tape.ensures.plant in
    cause_then c.from_residual-in_err-committed.result c.in_err-committed.field-0.0 (P.view c.args.plant.now).faults (P.view c.passed_tape.new.plant).faults (P.view c.commit_begin-committed.new.plant).faults (cc (p.1, p.2)) (s.cause.stays (λ is. absurd (cc))) c.in_err-committed.ensures.cause

pub returns-in_err-committed-clause-leaves : goal.returns-in_err-committed-clause-leaves
returns-in_err-committed-clause-leaves g c = λ tells slots whole has are.
    let P = g.P.Plant in
    let o = c.args.order in
    let db = c.args.budb.now.database in
    let t = c.in_ok-tape.tape in
    let mid = c.passed_tape.new.plant in
    let new = c.commit_begin-committed.new.plant in
    let id : c.new_id-id.result ≡ id_of o db = c.new_id-id.ensures.is ∙ ap (λ (n : ℕ). new_id o.time n) c.greatest_begun.ensures in
    let list : c.as_slice.result.now ≡ begin_changes (id_of o db) t.take = c.as_slice.ensures ∙ c.in_ok-changes.ensures ∙ ap (λ (n : ℕ). begin_changes n t.take) id in
    begin_leaves P (id_of o db) _ t c.args.plant.now mid new (c.in_ok-tape.ensures.told tells slots whole has are) c.in_ok-tape.ensures.plant.loads
    (subst (λ (l : List Change). Leaves P (commits (encoded l) ∷ []) mid new) list c.commit_begin-committed.ensures.leaves)

pub returns-clause-leaves : goal.returns-clause-leaves
returns-clause-leaves g c = λ tells slots whole has are.
    let P = g.P.Plant in
    let o = c.args.order in
    let db = c.args.budb.now.database in
    let t = c.in_ok-tape.tape in
    let mid = c.passed_tape.new.plant in
    let new = c.commit_begin-committed.new.plant in
    let id : c.new_id-id.result ≡ id_of o db = c.new_id-id.ensures.is ∙ ap (λ (n : ℕ). new_id o.time n) c.greatest_begun.ensures in
    let list : c.as_slice.result.now ≡ begin_changes (id_of o db) t.take = c.as_slice.ensures ∙ c.in_ok-changes.ensures ∙ ap (λ (n : ℕ). begin_changes n t.take) id in
    begin_leaves P (id_of o db) _ t c.args.plant.now mid new (c.in_ok-tape.ensures.told tells slots whole has are) c.in_ok-tape.ensures.plant.loads
    (subst (λ (l : List Change). Leaves P (commits (encoded l) ∷ []) mid new) list c.commit_begin-committed.ensures.leaves)

pub returns-clause-begun : goal.returns-clause-begun
returns-clause-begun g c =
    let P = g.P.Plant in
    let o = c.args.order in
    let budb = c.args.budb.now in
    let db = budb.database in
    let t = c.in_ok-tape.tape in
    let old = c.args.plant.now in
    let mid = c.passed_tape.new.plant in
    let new = c.commit_begin-committed.new.plant in
    let after = c.commit_begin-committed.new.budb in
    let s = c.in_ok-tape.ensures in
    let e = c.in_ok-committed.ensures in
    let id : c.new_id-id.result ≡ id_of o db = c.new_id-id.ensures.is ∙ ap (λ (n : ℕ). new_id o.time n) c.greatest_begun.ensures in
    let listed : c.as_slice-listed.result.now ≡ db.listed = c.as_slice-listed.ensures ∙ ap (λ (d : Database). d.listed) c.database.ensures in
    let list : c.as_slice.result.now ≡ begin_changes (id_of o db) t.take = c.as_slice.ensures ∙ c.in_ok-changes.ensures ∙ ap (λ (n : ℕ). begin_changes n t.take) id in
    record {
      tape = t;
      is = c.in_ok-job.ensures ∙ ap (λ (l : _). begun_job o l c.new_id-id.result t) listed ∙ ap (λ (n : ℕ). begun_job o db.listed n t) id;
      right = s.told;
      form = subst AreChanges list e.form;
      database = e.made ∙ ap (λ (l : List Change). after_from l db) list;
      keeps = λ tells log keeps. subst (λ (l : List Change). Keeps (log ++ l) (state_of P new).log after) list (e.keeps tells log (keeps_loaded P log budb old mid tells s.plant.loads keeps));
      done = done_behind P _ old mid new s.plant.loads (subst (λ (l : List Change). Done P (commits (encoded l) ∷ []) mid new) list e.done);
      log_size = e.size ∙ ap (λ (n : ℕ). n + length (encoded c.as_slice.result.now)) s.plant.log_size ∙ ap (λ (l : List Change). (P.view old).log_size + length (encoded l)) list;
    }

pub returns-clause-ready : goal.returns-clause-ready
returns-clause-ready g c =
    let P = g.P.Plant in
    let o = c.args.order in
    let s = c.in_ok-tape.ensures in
    let e = c.in_ok-committed.ensures in
    ready P o c.as_slice-listed.result.now c.new_id-id.result c.in_ok-tape.tape (encoded c.as_slice.result.now) c.passed_tape.new.plant c.commit_begin-committed.new.plant c.in_ok-job.job s.form s.stands s.room e.done e.stays c.in_ok-job.ensures

use Rattle.std.proofs.Common.{ℕ, ◌≡◌, List, refl, sym, ◌∙◌, ap, subst, rules}
use Rattle.std.specs.Prelude.{Ok, Err}
use Rattle.budb_changes.specs.declared.records.DumpRecordFields.{DumpRecordFields}
use Rattle.budb_fold.specs.declared.database.Database.{Database}
use Rattle.dump_job.specs.declared.first_tapes.FirstTape.{FirstTape}
use Rattle.dump_job.specs.Faults.{Answers}
use Rattle.dump_job.specs.Beginning.{new_id, id_of, tape_found, tape_passed, unless_refused, first_tape}
use Rattle.dump_job.proofs.Searching.{no_search, searched_then, err_on, answers_same, answers_handed}
use Rattle.dump_job.proofs.checking.passed_tape.Goals as goal

pub returns-in_err-tape-clause-told : goal.returns-in_err-tape-clause-told
returns-in_err-tape-clause-told g c = λ tells slots whole has are.
    let o = c.args.order.now in
    let db = c.args.budb.now.database in
    let size = (g.P.Plant.view c.args.plant.now).log_size in
    let e = c.in_err-tape.field-0.0 in
    let id : c.new_id-id.result ≡ id_of o db = c.new_id-id.ensures.is ∙ ap (λ (n : ℕ). new_id o.time n) c.greatest_begun-greatest.ensures in
    let listed : c.as_slice-listed.result.now ≡ db.listed = c.as_slice-listed.ensures ∙ ap (λ (d : Database). d.listed) c.database.ensures in
    let told = subst (λ (n : ℕ). Answers {T = FirstTape} (tape_found o db.listed slots whole n) (Err e)) id
    (subst (λ (l : List DumpRecordFields). Answers {T = FirstTape} (tape_found o l slots whole c.new_id-id.result) (Err e)) listed (c.in_err-tape.ensures.told tells slots whole has are)) in
    answers_handed (first_tape db slots whole o size) c.from_residual.result e (search rules) (err_on (tape_found o db.listed slots whole (id_of o db)) (tape_passed o size db.greatest (id_of o db)) e (λ f. refl) told)

pub returns-clause-told : goal.returns-clause-told
returns-clause-told g c = λ tells slots whole has are.
    let o = c.args.order.now in
    let db = c.args.budb.now.database in
    let size = (g.P.Plant.view c.args.plant.now).log_size in
    let mid_size = (g.P.Plant.view c.tape_found.new.plant).log_size in
    let s = c.in_ok-tape.ensures in
    let t = c.in_ok-tape.tape in
    let id : c.new_id-id.result ≡ id_of o db = c.new_id-id.ensures.is ∙ ap (λ (n : ℕ). new_id o.time n) c.greatest_begun-greatest.ensures in
    let listed : c.as_slice-listed.result.now ≡ db.listed = c.as_slice-listed.ensures ∙ ap (λ (d : Database). d.listed) c.database.ensures in
    let told : tape_found o db.listed slots whole (id_of o db) ≡ Ok t = subst (λ (n : ℕ). tape_found o db.listed slots whole n ≡ Ok t) id
    (subst (λ (l : List DumpRecordFields). tape_found o l slots whole c.new_id-id.result ≡ Ok t) listed (s.told tells slots whole has are)) in
    let passed : c.pass.result ≡ unless_refused o size db.greatest (id_of o db) t
    = c.pass.ensures.told (id_of o db) ∙ ap (λ (n : ℕ). unless_refused o n c.greatest_begun-greatest.result (id_of o db) t) s.plant.log_size ∙ ap (λ (n : ℕ). unless_refused o size n (id_of o db) t) c.greatest_begun-greatest.ensures in
    answers_same (first_tape db slots whole o size) c.pass.result (ap (tape_passed o size db.greatest (id_of o db)) told ∙ sym passed)

pub returns-clause-plant : goal.returns-clause-plant
returns-clause-plant g c =
    let P = g.P.Plant in
    let mid = c.tape_found.new.plant in
    let s = c.in_ok-tape.ensures.plant in
    let sound = s.loads.done.sound in
    searched_then P c.in_ok-tape.tape c.pass.result c.args.plant.now mid mid s (no_search P c.pass.result mid c.pass.ensures.never sound (λ told survives image left. g.met.P.Plant.left mid image told sound survives left))

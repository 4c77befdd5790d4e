use Rattle.std.proofs.Common.{◌≡◌, sym, subst, rules}
use Rattle.tape_choice.specs.declared.places.Appending.{Appending}
use Rattle.tape_choice.specs.Append.{appending}
use Rattle.tape_scan.proofs.Looking.{slots_later}
use Rattle.dump_job.specs.Faults.{Answers}
use Rattle.dump_job.specs.Beginning.{tape_by}
use Rattle.dump_job.proofs.Searching.{searched_then, free_err, answers_handed}
use Rattle.dump_job.proofs.Refusals.{found_same}
use Rattle.dump_job.proofs.first_tapes.appended_tape.Goals as goal

pub returns-in_err-found-clause-told : goal.returns-in_err-found-clause-told
returns-in_err-found-clause-told g c = λ tells slots whole has are.
    let o = c.args.order.now in
    let e = c.in_err-found.field-0.0 in
    let told = tape_by o c.args.listed.now slots c.args.id (appending c.args.listed.now o.set o.port whole slots) in
    answers_handed told c.from_residual.result e (search rules) (free_err (appending c.args.listed.now o.set o.port whole slots) told e (c.in_err-found.ensures.told tells slots whole has are))

pub returns-clause-told : goal.returns-clause-told
returns-clause-told g c = λ tells slots whole has are.
    let P = g.P.Plant in
    let o = c.args.order.now in
    let mid = c.find_place.new.plant in
    let s = c.in_ok-found.ensures in
    let same : appending c.args.listed.now o.set o.port whole slots ≡ c.in_ok-found.found = found_same _ _ (s.told tells slots whole has are) in
    subst (λ (a : Appending). Answers (tape_by o c.args.listed.now slots c.args.id a) c.tape_by.result) (sym same) (c.tape_by.ensures.told tells slots (slots_later P slots c.args.plant.now mid s.plant.loads s.plant.stays tells has))

pub returns-clause-plant : goal.returns-clause-plant
returns-clause-plant g c = searched_then g.P.Plant c.in_ok-found.found c.tape_by.result c.args.plant.now c.find_place.new.plant c.tape_by.new.plant c.in_ok-found.ensures.plant c.tape_by.ensures.plant

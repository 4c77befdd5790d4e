use Rattle.std.proofs.Common.{◌≡◌, List, [], length, sym, ◌∙◌, ap, subst, arith}
use Rattle.std.proofs.lemmas.List.{append-nil}
use Rattle.plant_core.specs.Effects.{Effect, putting_away}
use Rattle.plant_core.specs.Records.{Record}
use Rattle.plant_effects.specs.Runs.{state_of, loaded_of, Leaves}
use Rattle.plant_effects.proofs.Joining.{leaves_both}
use Rattle.tape_text.specs.Items.{Read}
use Rattle.dump_job.proofs.Joins.{tapes_stay}
use Rattle.dump_job.proofs.taping.open_tape.Goals as goal

pub returns-then-tape_len-count-clause-told : goal.returns-then-tape_len-count-clause-told
returns-then-tape_len-count-clause-told g c = λ tells e.
    let P = g.P.Plant in
    let old = c.args.plant.now in
    let new = c.load_tape.new.plant in
    let s = c.in_ok-load_tape.ensures in
    let same = (s.done.state tells).tape c.args.slot ∙ tapes_stay (loaded_of P old) c.args.slot c.args.slot (state_of P old) in
    let count : (P.view new).records ≡ length ((state_of P old).tape c.args.slot) = g.met.P.Plant.records_told new c.args.slot tells s.done.sound s.loaded ∙ ap length same in
    let most = c.requires.fit.records tells in
    let told : c.tape_len.result ≡ (P.view new).records = c.tape_len.ensures in
    absurd (omega arith)

pub returns-in_err-uses-clause-leaves : goal.returns-in_err-uses-clause-leaves
returns-in_err-uses-clause-leaves g c =
    let P = g.P.Plant in
    let es = putting_away (loaded_of P c.args.plant.now) c.args.slot in
    let s = c.in_ok-load_tape.ensures in
    subst (λ (fs : List Effect). Leaves P fs c.args.plant.now c.uses_now.new.plant) (append-nil es)
    (leaves_both P es [] c.args.plant.now c.load_tape.new.plant c.uses_now.new.plant s.done s.leaves c.uses_now.ensures.leaves)

pub returns-clause-leaves : goal.returns-clause-leaves
returns-clause-leaves g c =
    let P = g.P.Plant in
    let es = putting_away (loaded_of P c.args.plant.now) c.args.slot in
    let s = c.in_ok-load_tape.ensures in
    subst (λ (fs : List Effect). Leaves P fs c.args.plant.now c.uses_now.new.plant) (append-nil es)
    (leaves_both P es [] c.args.plant.now c.load_tape.new.plant c.uses_now.new.plant s.done s.leaves c.uses_now.ensures.leaves)

pub returns-clause-uses : goal.returns-clause-uses
returns-clause-uses g c = λ tells items read.
    let P = g.P.Plant in
    let old = c.args.plant.now in
    let s = c.in_ok-load_tape.ensures in
    let same = (s.done.state tells).tape c.args.slot ∙ tapes_stay (loaded_of P old) c.args.slot c.args.slot (state_of P old) in
    c.in_ok-uses.ensures.uses tells c.args.slot items s.loaded (subst (λ (tape : List Record). Read tape items) (sym same) read)

use Rattle.std.proofs.Common.{◌≡◌, ℕ, [], ◌∷◌, ◌++◌, length, ◌∙◌, ap}
use Rattle.plant_core.specs.Effects.{cuts, putting_away}
use Rattle.plant_effects.specs.Runs.{state_of, loaded_of}
use Rattle.plant_effects.proofs.Joining.{leaves_both, leaves_more, done_both}
use Rattle.dump_job.proofs.Joins.{tapes_stay}
use Rattle.dump_job.proofs.Settlings.{done_told, leaves_told}
use Rattle.dump_job.proofs.settling.settle_tape.Goals as goal

pub returns-in_err-load_tape-clause-leaves : goal.returns-in_err-load_tape-clause-leaves
returns-in_err-load_tape-clause-leaves g c =
    let P = g.P.Plant in
    let old = c.args.plant.now in
    leaves_more P (putting_away (loaded_of P old) c.args.slot) (cuts c.args.slot (length ((state_of P old).tape c.args.slot)) ∷ []) old c.load_tape.new.plant c.in_err-load_tape.ensures.leaves

pub returns-in_err-cut_to-clause-leaves : goal.returns-in_err-cut_to-clause-leaves
returns-in_err-cut_to-clause-leaves g c =
    let P = g.P.Plant in
    let old = c.args.plant.now in
    let mid = c.load_tape.new.plant in
    let slot = c.args.slot in
    let s = c.in_ok-load_tape.ensures in
    let away = putting_away (loaded_of P old) slot in
    let count : P.tells → c.tape_len-count.result ≡ length ((state_of P old).tape slot)
    = λ tells. c.tape_len-count.ensures ∙ g.met.P.Plant.records_told mid slot tells s.done.sound s.loaded ∙ ap length ((s.done.state tells).tape slot ∙ tapes_stay (loaded_of P old) slot slot (state_of P old)) in
    leaves_told P (away ++ cuts slot c.tape_len-count.result ∷ []) (away ++ cuts slot (length ((state_of P old).tape slot)) ∷ []) old c.cut_to.new.plant
    (λ tells. ap (λ (n : ℕ). away ++ cuts slot n ∷ []) (count tells))
    (leaves_both P away (cuts slot c.tape_len-count.result ∷ []) old mid c.cut_to.new.plant s.done s.leaves (c.in_err-cut_to.ensures.leaves slot s.loaded))

pub returns-clause-leaves : goal.returns-clause-leaves
returns-clause-leaves g c =
    let P = g.P.Plant in
    let old = c.args.plant.now in
    let mid = c.load_tape.new.plant in
    let slot = c.args.slot in
    let s = c.in_ok-load_tape.ensures in
    let away = putting_away (loaded_of P old) slot in
    let count : P.tells → c.tape_len-count.result ≡ length ((state_of P old).tape slot)
    = λ tells. c.tape_len-count.ensures ∙ g.met.P.Plant.records_told mid slot tells s.done.sound s.loaded ∙ ap length ((s.done.state tells).tape slot ∙ tapes_stay (loaded_of P old) slot slot (state_of P old)) in
    leaves_told P (away ++ cuts slot c.tape_len-count.result ∷ []) (away ++ cuts slot (length ((state_of P old).tape slot)) ∷ []) old c.cut_to.new.plant
    (λ tells. ap (λ (n : ℕ). away ++ cuts slot n ∷ []) (count tells))
    (leaves_both P away (cuts slot c.tape_len-count.result ∷ []) old mid c.cut_to.new.plant s.done s.leaves (c.in_ok-cut_to.ensures.leaves slot s.loaded))

pub returns-clause-done : goal.returns-clause-done
returns-clause-done g c =
    let P = g.P.Plant in
    let old = c.args.plant.now in
    let mid = c.load_tape.new.plant in
    let slot = c.args.slot in
    let s = c.in_ok-load_tape.ensures in
    let away = putting_away (loaded_of P old) slot in
    let count : P.tells → c.tape_len-count.result ≡ length ((state_of P old).tape slot)
    = λ tells. c.tape_len-count.ensures ∙ g.met.P.Plant.records_told mid slot tells s.done.sound s.loaded ∙ ap length ((s.done.state tells).tape slot ∙ tapes_stay (loaded_of P old) slot slot (state_of P old)) in
    done_told P (away ++ cuts slot c.tape_len-count.result ∷ []) (away ++ cuts slot (length ((state_of P old).tape slot)) ∷ []) old c.cut_to.new.plant
    (λ tells. ap (λ (n : ℕ). away ++ cuts slot n ∷ []) (count tells))
    (done_both P away (cuts slot c.tape_len-count.result ∷ []) old mid c.cut_to.new.plant s.done (c.in_ok-cut_to.ensures.done slot s.loaded))

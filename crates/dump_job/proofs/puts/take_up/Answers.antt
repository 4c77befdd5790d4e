use Rattle.std.proofs.Common.{◌≡◌, ◌∙◌, ap, length, arith}
use Rattle.std.proofs.lemmas.Bool.Decides.{nat_tests}
use Rattle.plant_effects.specs.Runs.{state_of, loaded_of}
use Rattle.dump_job.proofs.Joins.{tapes_stay}
use Rattle.dump_job.proofs.puts.take_up.Goals as goal

pub returns-clause-told : goal.returns-clause-told
returns-clause-told g c = λ tells e.
    let P = g.P.Plant in
    let old = c.args.plant.now in
    let new = c.load_tape.new.plant in
    let s = c.in_ok-load_tape.ensures in
    let same = (s.done.state tells).tape c.args.slot ∙ tapes_stay (loaded_of P old) c.args.slot c.args.slot (state_of P old) in
    let count : (P.view new).records ≡ c.args.count = g.met.P.Plant.records_told new c.args.slot tells s.done.sound s.loaded ∙ ap length same ∙ c.requires.fit.records tells in
    let told = c.tape_len.ensures in
    grind (arith, nat_tests)

use Rattle.std.proofs.Common.{List, [], ◌∙◌, sym, subst}
use Rattle.std.proofs.lemmas.List.{append-nil}
use Rattle.plant_core.specs.Effects.{Effect, putting_away}
use Rattle.plant_core.specs.Records.{Record}
use Rattle.plant_effects.specs.Runs.{loaded_of, Done, Leaves}
use Rattle.plant_effects.proofs.Joining.{done_both, leaves_both}
use Rattle.tape_scan.proofs.Looking.{a_load_loads, loads_keep_tape}
use Rattle.budb_save.specs.Reading.{IsLabelled}
use Rattle.budb_save.specs.Loading.{ReadsChanges}
use Rattle.budb_save.proofs.loading.load_changes.Goals as goal

pub returns-in-Ok-clause-read : goal.returns-in-Ok-clause-read
returns-in-Ok-clause-read g c = λ told permanent at.
    let P = g.P.Plant in
    let old = c.args.plant.now in
    let mid = c.load_tape.new.plant in
    let k = c.args.slot in
    let e = c.in-Ok.ensures in
    let same = loads_keep_tape P old mid (a_load_loads P old mid k e.done c.load_tape.ensures.leaves e.log_size) told k in
    subst (λ (tape : List Record). ReadsChanges tape k c.read_changes.result) same (c.read_changes.ensures.read told permanent (subst (IsLabelled permanent) (sym same) at))

pub returns-in-Ok-clause-done : goal.returns-in-Ok-clause-done
returns-in-Ok-clause-done g c = λ well.
    let P = g.P.Plant in
    let old = c.args.plant.now in
    let mid = c.load_tape.new.plant in
    let new = c.read_changes.new.plant in
    let away = putting_away (loaded_of P old) c.args.slot in
    subst (λ (es : List Effect). Done P es old new) (append-nil away) (done_both P away [] old mid new c.in-Ok.ensures.done (c.read_changes.ensures.done well))

pub returns-in-Ok-clause-leaves : goal.returns-in-Ok-clause-leaves
returns-in-Ok-clause-leaves g c =
    let P = g.P.Plant in
    let old = c.args.plant.now in
    let mid = c.load_tape.new.plant in
    let new = c.read_changes.new.plant in
    let away = putting_away (loaded_of P old) c.args.slot in
    subst (λ (es : List Effect). Leaves P es old new) (append-nil away) (leaves_both P away [] old mid new c.in-Ok.ensures.done c.load_tape.ensures.leaves c.read_changes.ensures.leaves)

pub returns-in-Ok-clause-log_size : goal.returns-in-Ok-clause-log_size
returns-in-Ok-clause-log_size g c = λ well. (c.read_changes.ensures.numbers well).log_size ∙ c.in-Ok.ensures.log_size

use Rattle.std.proofs.Common.{ℕ, ◌≡◌, ◌≤◌, List, [], ◌∷◌, length, true, false, refl, sym, ◌∙◌, ap, subst, arith, Ok, Err, IfOk, OnErr}
use Rattle.media_core.specs.Later.{later}
use Rattle.plant_core.specs.Effects.{tells}
use Rattle.plant_effects.specs.Runs.{Done, Leaves}
use Rattle.backup_script.specs.declared.item.Item.{Item}
use Rattle.plant_effects.proofs.Joining.{nothing_left}
use Rattle.backup_session.specs.Machine.{turn}
use Rattle.backup_script.specs.declared.serving.Passed.{Passed}
use Rattle.backup_script.specs.Scripts.{first_of, one_line}
use Rattle.backup_script.specs.Held.{HeldForLine}
use Rattle.backup_script.specs.Running.{LineRan, LineLeft, TurnLeft, HasUsed, goes_behind}
use Rattle.backup_script.specs.declared.item.Item.TheVariants.{Runs}
use Rattle.backup_script.specs.Watching.{with_text}
use Rattle.backup_script.proofs.TellingLaws.{refusal_watched}
use Rattle.backup_script.proofs.ServingLaws.{went_nothing}
use Rattle.backup_script.proofs.ItemLaws.{refusal_left, runs_left, later_fewer, later_used, in_err, on_ok}
use Rattle.backup_script.proofs.serving.run_item.Goals as goal

pub returns-in-Refused-clause-watched : goal.returns-in-Refused-clause-watched
returns-in-Refused-clause-watched g c = λ told tells_cell before so.
    let P = g.P.Plant in
    let old = c.args.plant.now in
    let n = c.tell_refusal-told.new in
    let is = c.as_slice.ensures in
    let e = c.tell_refusal-told.ensures in
    on_ok c.tell_refusal-told.result _ _ _ _
    (λ done numbers watched. refusal_watched P g.C.Cell before c.in-Refused.text old n.plant c.args.cell.now c.args.session.now c.args.watch.now n.watch so told (subst (λ (l : List ℕ). Done P (tells l ∷ []) old n.plant) is done) numbers e.stays.stays
    (watched ∙ ap (λ (l : List ℕ). with_text c.args.watch.now l) is))
    e.done e.numbers e.watched

pub returns-in-Refused-clause-left : goal.returns-in-Refused-clause-left
returns-in-Refused-clause-left g c = λ told tells_cell tells_clock w fits held.
    let P = g.P.Plant in
    let old = c.args.plant.now in
    let new = c.tell_refusal-told.new.plant in
    let ms = g.K.Clock.moments c.args.clock.now in
    let rest = g.K.Clock.moments c.tell_refusal-told.new.clock in
    let left = subst (λ (i : Item). LineLeft P g.C.Cell w ms i old new c.args.cell.now rest) (sym c.in-Refused.is)
    (refusal_left P g.C.Cell w ms c.in-Refused.text old old new c.args.cell.now c.args.session.now rest fits (subst (λ (l : List ℕ). Leaves P (tells l ∷ []) old new) c.as_slice.ensures c.tell_refusal-told.ensures.leaves)
    (c.tell_refusal-told.ensures.clock tells_clock)) in
    elim c.tell_refusal-told.result as (λ r. OnErr r (LineLeft P g.C.Cell w ms c.args.item old new c.args.cell.now rest)) [ Ok passed ↦ tt | Err stop ↦ left ]

pub returns-in-Runs-clause-left : goal.returns-in-Runs-clause-left
returns-in-Runs-clause-left g c = λ told tells_cell tells_clock w fits held.
    let P = g.P.Plant in
    let C = g.C.Cell in
    let old = c.args.plant.now in
    let n = c.run_next-ran.new in
    let ms = g.K.Clock.moments c.args.clock.now in
    let rest = g.K.Clock.moments n.clock in
    let command = c.in-Runs.command in
    subst (λ (i : Item). OnErr c.run_next-ran.result (LineLeft P C w ms i old n.plant n.cell rest)) (sym c.in-Runs.is)
    (in_err c.run_next-ran.result (TurnLeft P C w (later ms) (turn w (first_of ms) command) old n.plant n.cell rest) (LineLeft P C w ms (Runs command) old n.plant n.cell rest) (runs_left P C w ms command old n.plant n.cell rest)
    (c.run_next-ran.ensures.left told tells_cell tells_clock w fits (subst (λ (i : Item). HeldForLine w ms i) c.in-Runs.is held)))

pub returns-in-Silent-clause-went : goal.returns-in-Silent-clause-went
returns-in-Silent-clause-went g c = λ told tells_cell tells_clock w fits held.
    let P = g.P.Plant in
    let C = g.C.Cell in
    let old = c.args.plant.now in
    let site = c.args.cell.now in
    let session = c.args.session.now in
    let ms = g.K.Clock.moments c.args.clock.now in
    subst (λ (i : Item). LineRan P C (one_line w ms i) old old site session ms true) (sym c.in-Silent.is)
    (record { went = went_nothing P C w ms old site session true c.requires fits; leaves = nothing_left P [] old (λ told survives image left. g.met.P.Plant.left old image told c.requires survives left); goes_is = refl })

pub returns-in-Quit-clause-went : goal.returns-in-Quit-clause-went
returns-in-Quit-clause-went g c = λ told tells_cell tells_clock w fits held.
    let P = g.P.Plant in
    let C = g.C.Cell in
    let old = c.args.plant.now in
    let site = c.args.cell.now in
    let session = c.args.session.now in
    let ms = g.K.Clock.moments c.args.clock.now in
    subst (λ (i : Item). LineRan P C (one_line w ms i) old old site session ms false) (sym c.in-Quit.is)
    (record { went = went_nothing P C w ms old site session false c.requires fits; leaves = nothing_left P [] old (λ told survives image left. g.met.P.Plant.left old image told c.requires survives left); goes_is = refl })

pub returns-in-Runs-clause-went : goal.returns-in-Runs-clause-went
returns-in-Runs-clause-went g c = λ told tells_cell tells_clock w fits held.
    let P = g.P.Plant in
    let C = g.C.Cell in
    let n = c.run_next-ran.new in
    let ms = g.K.Clock.moments c.args.clock.now in
    subst (λ (i : Item). IfOk c.run_next-ran.result (λ (passed : Passed). LineRan P C (one_line w ms i) c.args.plant.now n.plant n.cell n.session (g.K.Clock.moments n.clock) passed.goes)) (sym c.in-Runs.is)
    (c.run_next-ran.ensures.went told tells_cell tells_clock w fits (subst (λ (i : Item). HeldForLine w ms i) c.in-Runs.is held))

pub returns-in-Silent-clause-fewer : goal.returns-in-Silent-clause-fewer
returns-in-Silent-clause-fewer g c = λ tells_clock. omega arith

pub returns-in-Quit-clause-fewer : goal.returns-in-Quit-clause-fewer
returns-in-Quit-clause-fewer g c = λ tells_clock. omega arith

pub returns-in-Refused-clause-fewer : goal.returns-in-Refused-clause-fewer
returns-in-Refused-clause-fewer g c = λ tells_clock.
    let ms = g.K.Clock.moments c.args.clock.now in
    subst (λ (left : List ℕ). length left ≤ length ms) (sym (c.tell_refusal-told.ensures.clock tells_clock)) (later_fewer ms)

pub returns-in-Refused-clause-used : goal.returns-in-Refused-clause-used
returns-in-Refused-clause-used g c = λ tells_clock stops.
    let ms = g.K.Clock.moments c.args.clock.now in
    subst (λ (left : List ℕ). HasUsed ms left) (sym (c.tell_refusal-told.ensures.clock tells_clock)) (later_used ms)

pub returns-in-Refused-clause-plant_used : goal.returns-in-Refused-clause-plant_used
returns-in-Refused-clause-plant_used g c = λ tells_clock stops.
    let ms = g.K.Clock.moments c.args.clock.now in
    subst (λ (left : List ℕ). HasUsed ms left) (sym (c.tell_refusal-told.ensures.clock tells_clock)) (later_used ms)

pub returns-in-Refused-clause-not_quit : goal.returns-in-Refused-clause-not_quit
returns-in-Refused-clause-not_quit g c = subst (λ (i : Item). OnErr c.tell_refusal-told.result (goes_behind i ≡ true)) (sym c.in-Refused.is) (elim c.tell_refusal-told.result as (λ r. OnErr r (true ≡ true)) [ Ok passed ↦ tt | Err stop ↦ refl ])

pub returns-in-Runs-clause-not_quit : goal.returns-in-Runs-clause-not_quit
returns-in-Runs-clause-not_quit g c = subst (λ (i : Item). OnErr c.run_next-ran.result (goes_behind i ≡ true)) (sym c.in-Runs.is) (elim c.run_next-ran.result as (λ r. OnErr r (true ≡ true)) [ Ok passed ↦ tt | Err stop ↦ refl ])

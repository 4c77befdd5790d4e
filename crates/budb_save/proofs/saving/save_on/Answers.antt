use Rattle.std.proofs.Common.{◌≡◌, ℕ, true, false, List, length, sym, ◌∙◌, ap, subst}
use Rattle.std.specs.Prelude.{Ok}
use Rattle.plant_core.specs.Effects.{Effect}
use Rattle.plant_effects.specs.Runs.{state_of, loaded_of, Done, Leaves}
use Rattle.plant_effects.proofs.Joining.{nothing_done, nothing_left}
use Rattle.budb_save.specs.Saves.{HasSave}
use Rattle.budb_save.specs.Saving.{saved_bytes, is_too_big, saved_in, putting_on, effects_in}
use Rattle.budb_save.proofs.SavingLaws.{saved_so, big_answer, fit_answer, big_effects, fit_effects}
use Rattle.budb_save.proofs.saving.save_on.Goals as goal

pub returns-in-Err-clause-leaves : goal.returns-in-Err-clause-leaves
returns-in-Err-clause-leaves g c =
    let P = g.P.Plant in
    let old = c.args.plant.now in
    nothing_left P (effects_in c.args.port.now c.args.picked (loaded_of P old) (saved_bytes c.args.database.now)) old (λ told survives x left. g.met.P.Plant.left old x told c.requires.sound survives left)

pub returns-then-is_too_big-clause-answer : goal.returns-then-is_too_big-clause-answer
returns-then-is_too_big-clause-answer g c =
    let port = c.args.port.now in
    let count = c.len-count.ensures ∙ ap length c.in-Ok.ensures.bytes in
    let big : is_too_big port (length (saved_bytes c.args.database.now)) ≡ true = subst (λ (n : ℕ). is_too_big port n ≡ true) count (sym c.is_too_big.ensures.is ∙ c.if-is_too_big.true) in
    big_answer port c.args.picked.slot (length (saved_bytes c.args.database.now)) big

pub returns-then-is_too_big-clause-done : goal.returns-then-is_too_big-clause-done
returns-then-is_too_big-clause-done g c =
    let P = g.P.Plant in
    let old = c.args.plant.now in
    let port = c.args.port.now in
    let count = c.len-count.ensures ∙ ap length c.in-Ok.ensures.bytes in
    let big : is_too_big port (length (saved_bytes c.args.database.now)) ≡ true = subst (λ (n : ℕ). is_too_big port n ≡ true) count (sym c.is_too_big.ensures.is ∙ c.if-is_too_big.true) in
    subst (λ (es : List Effect). Done P es old old) (big_effects port c.args.picked (loaded_of P old) (saved_bytes c.args.database.now) big) (nothing_done P old c.requires.sound)

pub returns-then-is_too_big-clause-leaves : goal.returns-then-is_too_big-clause-leaves
returns-then-is_too_big-clause-leaves g c =
    let P = g.P.Plant in
    let old = c.args.plant.now in
    nothing_left P (effects_in c.args.port.now c.args.picked (loaded_of P old) (saved_bytes c.args.database.now)) old (λ told survives x left. g.met.P.Plant.left old x told c.requires.sound survives left)

pub returns-in-Ok-put_on-clause-answer : goal.returns-in-Ok-put_on-clause-answer
returns-in-Ok-put_on-clause-answer g c =
    let port = c.args.port.now in
    let count = c.len-count.ensures ∙ ap length c.in-Ok.ensures.bytes in
    let fits : is_too_big port c.len-count.result ≡ false = sym c.is_too_big.ensures.is ∙ c.if-is_too_big.false in
    subst (λ (n : ℕ). saved_so c.args.picked.slot c.len-count.result ≡ saved_in port c.args.picked.slot n) count (fit_answer port c.args.picked.slot c.len-count.result fits)

pub returns-in-Ok-put_on-clause-has : goal.returns-in-Ok-put_on-clause-has
returns-in-Ok-put_on-clause-has g c = λ told.
    let new = c.put_on.new.plant in
    subst (λ (l : List ℕ). HasSave ((state_of g.P.Plant new).tape c.args.picked.slot) l) (c.as_slice.ensures ∙ c.in-Ok.ensures.bytes) (c.in-Ok-put_on.ensures.has told)

pub returns-in-Ok-put_on-clause-done : goal.returns-in-Ok-put_on-clause-done
returns-in-Ok-put_on-clause-done g c =
    let P = g.P.Plant in
    let old = c.args.plant.now in
    let new = c.put_on.new.plant in
    let port = c.args.port.now in
    let p = c.args.picked in
    let bytes = saved_bytes c.args.database.now in
    let count = c.len-count.ensures ∙ ap length c.in-Ok.ensures.bytes in
    let fits : is_too_big port (length bytes) ≡ false = subst (λ (n : ℕ). is_too_big port n ≡ false) count (sym c.is_too_big.ensures.is ∙ c.if-is_too_big.false) in
    subst (λ (es : List Effect). Done P es old new) (fit_effects port p (loaded_of P old) bytes fits)
    (subst (λ (l : List ℕ). Done P (putting_on p (loaded_of P old) l) old new) (c.as_slice.ensures ∙ c.in-Ok.ensures.bytes) c.in-Ok-put_on.ensures.done)

pub returns-in-Ok-put_on-clause-leaves : goal.returns-in-Ok-put_on-clause-leaves
returns-in-Ok-put_on-clause-leaves g c =
    let P = g.P.Plant in
    let old = c.args.plant.now in
    let new = c.put_on.new.plant in
    let port = c.args.port.now in
    let p = c.args.picked in
    let bytes = saved_bytes c.args.database.now in
    let count = c.len-count.ensures ∙ ap length c.in-Ok.ensures.bytes in
    let fits : is_too_big port (length bytes) ≡ false = subst (λ (n : ℕ). is_too_big port n ≡ false) count (sym c.is_too_big.ensures.is ∙ c.if-is_too_big.false) in
    subst (λ (es : List Effect). Leaves P es old new) (fit_effects port p (loaded_of P old) bytes fits)
    (subst (λ (l : List ℕ). Leaves P (putting_on p (loaded_of P old) l) old new) (c.as_slice.ensures ∙ c.in-Ok.ensures.bytes) c.put_on.ensures.leaves)

pub returns-in-Err-Failed-clause-leaves : goal.returns-in-Err-Failed-clause-leaves
returns-in-Err-Failed-clause-leaves g c =
    let P = g.P.Plant in
    let old = c.args.plant.now in
    let new = c.put_on.new.plant in
    let port = c.args.port.now in
    let p = c.args.picked in
    let bytes = saved_bytes c.args.database.now in
    let count = c.len-count.ensures ∙ ap length c.in-Ok.ensures.bytes in
    let fits : is_too_big port (length bytes) ≡ false = subst (λ (n : ℕ). is_too_big port n ≡ false) count (sym c.is_too_big.ensures.is ∙ c.if-is_too_big.false) in
    subst (λ (es : List Effect). Leaves P es old new) (fit_effects port p (loaded_of P old) bytes fits)
    (subst (λ (l : List ℕ). Leaves P (putting_on p (loaded_of P old) l) old new) (c.as_slice.ensures ∙ c.in-Ok.ensures.bytes) c.put_on.ensures.leaves)

pub returns-clause-leaves : goal.returns-clause-leaves
returns-clause-leaves g c =
    let P = g.P.Plant in
    let old = c.args.plant.now in
    let new = c.put_on.new.plant in
    let port = c.args.port.now in
    let p = c.args.picked in
    let bytes = saved_bytes c.args.database.now in
    let count = c.len-count.ensures ∙ ap length c.in-Ok.ensures.bytes in
    let fits : is_too_big port (length bytes) ≡ false = subst (λ (n : ℕ). is_too_big port n ≡ false) count (sym c.is_too_big.ensures.is ∙ c.if-is_too_big.false) in
    subst (λ (es : List Effect). Leaves P es old new) (fit_effects port p (loaded_of P old) bytes fits)
    (subst (λ (l : List ℕ). Leaves P (putting_on p (loaded_of P old) l) old new) (c.as_slice.ensures ∙ c.in-Ok.ensures.bytes) c.put_on.ensures.leaves)

use Rattle.std.proofs.Common.{◌≡◌, ◌<◌, ℕ, length, sym, ap, ◌∙◌, arith}
use Rattle.std.specs.Prelude.{Some, None}
use Rattle.job_pool.specs.declared.turn.Turn.{Turn}
use Rattle.job_pool.proofs.NextTurns.{picked_within, told_turn}
use Rattle.job_pool.proofs.schedules.turn_told.Goals as goal

pub offset_bounds-jobs-number : goal.offset_bounds-jobs-number
offset_bounds-jobs-number c = (let below : c.in-Some.number < length c.args.jobs.now = picked_within c.args.x c.args.jobs.now c.in-Some.number (sym c.pick.ensures ∙ c.in-Some.is) in omega (arith, below, c.requires.few))

pub bounds-jobs-number : goal.bounds-jobs-number
bounds-jobs-number c = picked_within c.args.x c.args.jobs.now c.in-Some.number (sym c.pick.ensures ∙ c.in-Some.is)

pub overflow_cast-number : goal.overflow_cast-number
overflow_cast-number c = (let below : c.in-Some.number < length c.args.jobs.now = picked_within c.args.x c.args.jobs.now c.in-Some.number (sym c.pick.ensures ∙ c.in-Some.is) in omega (arith, below, c.requires.few))

pub returns-in-Some : goal.returns-in-Some
returns-in-Some c = ap (λ (t : Turn). Some t) c.turn_for.ensures ∙ sym (told_turn c.args.kills.now c.args.x c.args.jobs.now c.in-Some.number c.index-jobs-number.result (sym c.pick.ensures ∙ c.in-Some.is) c.index-jobs-number.is)

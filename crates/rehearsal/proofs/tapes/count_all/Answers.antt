use Rattle.std.proofs.Common.{ℕ, ◌+◌, ◌∙◌, ap}
use Rattle.plant_effects.specs.Runs.{state_of}
use Rattle.plant_effects.proofs.States.{alike_both}
use Rattle.rehearsal.specs.Counts.{is_block, is_mark}
use Rattle.rehearsal.proofs.RecordLaws.{settled_alike, four}
use Rattle.rehearsal.proofs.tapes.count_all.Goals as goal

pub returns-clause-blocks : goal.returns-clause-blocks
returns-clause-blocks g c = λ told settled.
    let P = g.P.Plant in
    let s = state_of P c.args.plant.now in
    let t = state_of P c.count_in.new.plant in
    let u = state_of P c.count_in-2.new.plant in
    let v = state_of P c.count_in-3.new.plant in
    let second = c.in_ok-first.ensures.same told settled in
    let settled_t = settled_alike s t second settled in
    let third = alike_both s t u second (c.in_ok-second.ensures.same told settled_t) in
    let settled_u = settled_alike s u third settled in
    let fourth = alike_both s u v third (c.in_ok-third.ensures.same told settled_u) in
    let settled_v = settled_alike s v fourth settled in
    c.with.ensures.blocks ∙ ap (λ (n : ℕ). n + c.in_ok-fourth.fourth.blocks) (c.with-three.ensures.blocks ∙ ap (λ (n : ℕ). n + c.in_ok-third.third.blocks) c.with-two.ensures.blocks)
    ∙ four is_block s t u v c.in_ok-first.first.blocks c.in_ok-second.second.blocks c.in_ok-third.third.blocks c.in_ok-fourth.fourth.blocks second third fourth (c.in_ok-first.ensures.blocks told settled) (c.in_ok-second.ensures.blocks told settled_t) (c.in_ok-third.ensures.blocks told settled_u) (c.in_ok-fourth.ensures.blocks told settled_v)

pub returns-clause-marks : goal.returns-clause-marks
returns-clause-marks g c = λ told settled.
    let P = g.P.Plant in
    let s = state_of P c.args.plant.now in
    let t = state_of P c.count_in.new.plant in
    let u = state_of P c.count_in-2.new.plant in
    let v = state_of P c.count_in-3.new.plant in
    let second = c.in_ok-first.ensures.same told settled in
    let settled_t = settled_alike s t second settled in
    let third = alike_both s t u second (c.in_ok-second.ensures.same told settled_t) in
    let settled_u = settled_alike s u third settled in
    let fourth = alike_both s u v third (c.in_ok-third.ensures.same told settled_u) in
    let settled_v = settled_alike s v fourth settled in
    c.with.ensures.marks ∙ ap (λ (n : ℕ). n + c.in_ok-fourth.fourth.marks) (c.with-three.ensures.marks ∙ ap (λ (n : ℕ). n + c.in_ok-third.third.marks) c.with-two.ensures.marks)
    ∙ four is_mark s t u v c.in_ok-first.first.marks c.in_ok-second.second.marks c.in_ok-third.third.marks c.in_ok-fourth.fourth.marks second third fourth (c.in_ok-first.ensures.marks told settled) (c.in_ok-second.ensures.marks told settled_t) (c.in_ok-third.ensures.marks told settled_u) (c.in_ok-fourth.ensures.marks told settled_v)

pub returns-clause-same : goal.returns-clause-same
returns-clause-same g c = λ told settled.
    let P = g.P.Plant in
    let s = state_of P c.args.plant.now in
    let t = state_of P c.count_in.new.plant in
    let u = state_of P c.count_in-2.new.plant in
    let v = state_of P c.count_in-3.new.plant in
    let w = state_of P c.count_in-4.new.plant in
    let second = c.in_ok-first.ensures.same told settled in
    let third = alike_both s t u second (c.in_ok-second.ensures.same told (settled_alike s t second settled)) in
    let fourth = alike_both s u v third (c.in_ok-third.ensures.same told (settled_alike s u third settled)) in
    alike_both s v w fourth (c.in_ok-fourth.ensures.same told (settled_alike s v fourth settled))

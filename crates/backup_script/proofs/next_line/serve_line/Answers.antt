use Rattle.std.proofs.Common.{refl, ◌≡◌, ℕ, List, true, false, not, ◌∙◌, ap, subst, arith, IfOk, OnErr}
use Rattle.std.specs.Str.Lines.{lines, strip_carriage_return}
use Rattle.backup_script.specs.Lines.{is_quit}
use Rattle.backup_script.proofs.ServingLaws.{held_ended, held_last, nothing_ran, nothing_begun}
use Rattle.backup_script.proofs.AnswerLaws.{took_line, took_last, took_none, took_cut, passed_line, ended_line, left_line, ended_last, left_last}
use Rattle.backup_script.proofs.next_line.serve_line.Goals as goal

pub returns-in-Ok-Ended-clause-passed : goal.returns-in-Ok-Ended-clause-passed
returns-in-Ok-Ended-clause-passed g c = λ told tells_cell tells_clock source w fits held.
    let e = rw c.in-Ok-Ended.field-0-is at c.in-Ok-Ended.ensures in
    let is = c.without_return-text.ensures ∙ ap strip_carriage_return c.as_slice.ensures in
    let n = c.run_line-ran.new in
    passed_line g.P.Plant g.C.Cell w (g.K.Clock.moments c.args.clock.now) (g.S.Source.left c.args.source.now) (g.S.Source.left c.take_line.new.source) c.in-Ok-Ended.line c.without_return-text.result.now c.args.plant.now n.plant n.cell n.session (g.K.Clock.moments n.clock)
    (e.took source) is c.run_line-ran.result (c.run_line-ran.ensures.went told tells_cell tells_clock w fits (held_ended w (g.K.Clock.moments c.args.clock.now) (g.S.Source.left c.args.source.now) (g.S.Source.left c.take_line.new.source) c.in-Ok-Ended.line c.without_return-text.result.now (e.took source) is held)) c.run_line-ran.ensures.goes

pub returns-in-Ok-Ended-clause-ended : goal.returns-in-Ok-Ended-clause-ended
returns-in-Ok-Ended-clause-ended g c = λ told tells_cell tells_clock source w fits held.
    let e = rw c.in-Ok-Ended.field-0-is at c.in-Ok-Ended.ensures in
    let is = c.without_return-text.ensures ∙ ap strip_carriage_return c.as_slice.ensures in
    let n = c.run_line-ran.new in
    ended_line g.P.Plant g.C.Cell w (g.K.Clock.moments c.args.clock.now) (g.S.Source.left c.args.source.now) (g.S.Source.left c.take_line.new.source) c.in-Ok-Ended.line c.without_return-text.result.now c.args.plant.now n.plant n.cell n.session (g.K.Clock.moments n.clock)
    (e.took source) is c.run_line-ran.result (c.run_line-ran.ensures.went told tells_cell tells_clock w fits (held_ended w (g.K.Clock.moments c.args.clock.now) (g.S.Source.left c.args.source.now) (g.S.Source.left c.take_line.new.source) c.in-Ok-Ended.line c.without_return-text.result.now (e.took source) is held))

pub returns-in-Ok-Ended-clause-left : goal.returns-in-Ok-Ended-clause-left
returns-in-Ok-Ended-clause-left g c = λ told tells_cell tells_clock source w fits held.
    let e = rw c.in-Ok-Ended.field-0-is at c.in-Ok-Ended.ensures in
    let is = c.without_return-text.ensures ∙ ap strip_carriage_return c.as_slice.ensures in
    let n = c.run_line-ran.new in
    left_line g.P.Plant g.C.Cell w (g.K.Clock.moments c.args.clock.now) (g.S.Source.left c.args.source.now) (g.S.Source.left c.take_line.new.source) c.in-Ok-Ended.line c.without_return-text.result.now c.args.plant.now n.plant n.cell n.session (g.K.Clock.moments n.clock)
    (e.took source) is c.run_line-ran.result (c.run_line-ran.ensures.left told tells_cell tells_clock w fits (held_ended w (g.K.Clock.moments c.args.clock.now) (g.S.Source.left c.args.source.now) (g.S.Source.left c.take_line.new.source) c.in-Ok-Ended.line c.without_return-text.result.now (e.took source) is held))

pub returns-in-Ok-Ended-clause-took : goal.returns-in-Ok-Ended-clause-took
returns-in-Ok-Ended-clause-took g c = λ source.
    let e = rw c.in-Ok-Ended.field-0-is at c.in-Ok-Ended.ensures in
    let is = c.without_return-text.ensures ∙ ap strip_carriage_return c.as_slice.ensures in
    took_line (g.S.Source.left c.args.source.now) (g.S.Source.left c.take_line.new.source) c.in-Ok-Ended.line c.take_line.new.taken c.run_line-ran.result (e.took source)
    (subst (λ (l : List ℕ). IfOk c.run_line-ran.result (λ passed. passed.goes ≡ not (is_quit l))) is c.run_line-ran.ensures.goes) (subst (λ (l : List ℕ). OnErr c.run_line-ran.result (is_quit l ≡ false)) is c.run_line-ran.ensures.not_quit)
    c.run_line-ran.ensures.no_read c.run_line-ran.ensures.no_long

pub returns-in-Ok-Last-clause-ended : goal.returns-in-Ok-Last-clause-ended
returns-in-Ok-Last-clause-ended g c = λ told tells_cell tells_clock source w fits held.
    let e = rw c.in-Ok-Last.field-0-is at c.in-Ok-Last.ensures in
    let n = c.run_last-ran.new in
    ended_last g.P.Plant g.C.Cell w (g.K.Clock.moments c.args.clock.now) (g.S.Source.left c.args.source.now) c.in-Ok-Last.line c.as_slice-in-Ok-Last.result.now c.args.plant.now n.plant n.cell n.session (g.K.Clock.moments n.clock)
    (e.took source).0 (e.last c.in-Ok-Last.line refl).0 c.as_slice-in-Ok-Last.ensures c.run_last-ran.result (c.run_last-ran.ensures.ran told tells_cell tells_clock w fits (held_last w (g.K.Clock.moments c.args.clock.now) (g.S.Source.left c.args.source.now) c.in-Ok-Last.line c.as_slice-in-Ok-Last.result.now (e.took source).0 (e.last c.in-Ok-Last.line refl).0 c.as_slice-in-Ok-Last.ensures held))

pub returns-in-Ok-Last-clause-left : goal.returns-in-Ok-Last-clause-left
returns-in-Ok-Last-clause-left g c = λ told tells_cell tells_clock source w fits held.
    let e = rw c.in-Ok-Last.field-0-is at c.in-Ok-Last.ensures in
    let n = c.run_last-ran.new in
    left_last g.P.Plant g.C.Cell w (g.K.Clock.moments c.args.clock.now) (g.S.Source.left c.args.source.now) c.in-Ok-Last.line c.as_slice-in-Ok-Last.result.now c.args.plant.now n.plant n.cell n.session (g.K.Clock.moments n.clock)
    (e.took source).0 (e.last c.in-Ok-Last.line refl).0 c.as_slice-in-Ok-Last.ensures c.run_last-ran.result (c.run_last-ran.ensures.left told tells_cell tells_clock w fits (held_last w (g.K.Clock.moments c.args.clock.now) (g.S.Source.left c.args.source.now) c.in-Ok-Last.line c.as_slice-in-Ok-Last.result.now (e.took source).0 (e.last c.in-Ok-Last.line refl).0 c.as_slice-in-Ok-Last.ensures held))

pub returns-in-Ok-Last-clause-took : goal.returns-in-Ok-Last-clause-took
returns-in-Ok-Last-clause-took g c = λ source.
    let e = rw c.in-Ok-Last.field-0-is at c.in-Ok-Last.ensures in
    let took = e.took source in
    took_last (g.S.Source.left c.args.source.now) (g.S.Source.left c.take_line.new.source) c.in-Ok-Last.line c.take_line.new.taken c.run_last-ran.result took.0 took.1 (e.last c.in-Ok-Last.line refl).2 c.run_last-ran.ensures.ends

pub returns-in-Ok-End-clause-took : goal.returns-in-Ok-End-clause-took
returns-in-Ok-End-clause-took g c = λ source.
    let e = rw c.in-Ok-End.field-0-is at c.in-Ok-End.ensures in
    (λ on. absurd (let never : false ≡ true = on in cc), λ off. took_none (g.S.Source.left c.args.source.now) (g.S.Source.left c.take_line.new.source) c.take_line.new.taken (e.took source) (e.end refl).1)

pub returns-in-Err-clause-took : goal.returns-in-Err-clause-took
returns-in-Err-clause-took g c = λ source.
    took_cut (g.S.Source.left c.args.source.now) (g.S.Source.left c.take_line.new.source) c.take_line.new.taken c.stop_of.result (c.in-Err.ensures.took source)

pub returns-in-Ok-End-clause-ended : goal.returns-in-Ok-End-clause-ended
returns-in-Ok-End-clause-ended g c = λ told tells_cell tells_clock source w fits held off.
    let e = rw c.in-Ok-End.field-0-is at c.in-Ok-End.ensures in
    nothing_ran g.P.Plant g.C.Cell w (g.K.Clock.moments c.args.clock.now) (g.S.Source.left c.args.source.now) c.args.plant.now c.args.cell.now c.args.session.now (e.took source).0 c.requires.sound
    (λ told survives image left. g.met.P.Plant.left c.args.plant.now image told c.requires.sound survives left) fits

pub returns-in-Err-clause-left : goal.returns-in-Err-clause-left
returns-in-Err-clause-left g c = λ told tells_cell tells_clock source w fits held.
    nothing_begun g.P.Plant g.C.Cell w (g.K.Clock.moments c.args.clock.now) (lines (g.S.Source.left c.args.source.now)) c.args.plant.now c.args.cell.now c.args.session.now
    (λ told survives image left. g.met.P.Plant.left c.args.plant.now image told c.requires.sound survives left) fits

pub returns-in-Ok-End-clause-fewer : goal.returns-in-Ok-End-clause-fewer
returns-in-Ok-End-clause-fewer g c = λ tells_clock. omega arith

pub returns-in-Err-clause-fewer : goal.returns-in-Err-clause-fewer
returns-in-Err-clause-fewer g c = λ tells_clock. omega arith

use Rattle.std.proofs.Common.{◌∙◌}
use Rattle.crash_log.proofs.Formatting.{empties_twice}
use Rattle.crash_log.specs.Format.{IsPlaced}
use Rattle.crash_log.proofs.Reading.{has_still}
use Rattle.crash_log.proofs.format.format_damaged.Goals as goal

pub returns-in_err-write_place-clause-crash : goal.returns-in_err-write_place-clause-crash
returns-in_err-write_place-clause-crash g c = λ told has.
    let m = g.M.Media in
    let shut = c.in_ok-close_gates.ensures.survives told has in
    (empties_twice m.time c.args.f c.args.media.now c.close_gates.new.media c.write_place.new.media (c.close_gates.ensures.crash told has) (c.write_place.ensures.crash told shut))

pub returns-in_err-open_first-clause-crash : goal.returns-in_err-open_first-clause-crash
returns-in_err-open_first-clause-crash g c = λ told has.
    let m = g.M.Media in
    let shut = c.in_ok-close_gates.ensures.survives told has in
    let placed = has_still m.time m.seen IsPlaced c.args.f c.write_place.new.media (c.in_ok-write_place.ensures.still told) (c.in_ok-write_place.ensures.placed told) in
    empties_twice m.time c.args.f c.args.media.now c.write_place.new.media c.open_first.new.media
    (empties_twice m.time c.args.f c.args.media.now c.close_gates.new.media c.write_place.new.media (c.close_gates.ensures.crash told has) (c.write_place.ensures.crash told shut)) (c.open_first.ensures.crash told placed)

pub returns-clause-crash : goal.returns-clause-crash
returns-clause-crash g c = λ told has.
    let m = g.M.Media in
    let shut = c.in_ok-close_gates.ensures.survives told has in
    let placed = has_still m.time m.seen IsPlaced c.args.f c.write_place.new.media (c.in_ok-write_place.ensures.still told) (c.in_ok-write_place.ensures.placed told) in
    empties_twice m.time c.args.f c.args.media.now c.write_place.new.media c.open_first.new.media
    (empties_twice m.time c.args.f c.args.media.now c.close_gates.new.media c.write_place.new.media (c.close_gates.ensures.crash told has) (c.write_place.ensures.crash told shut)) (c.open_first.ensures.crash told placed)

pub returns-clause-frame : goal.returns-clause-frame
returns-clause-frame g c = λ told.
    let first = c.in_ok-close_gates.ensures.frame told in
    let second = c.in_ok-write_place.ensures.frame told in
    let third = c.in_ok-open_first.ensures.frame told in
    record { here = tt; others = λ k other. third.others k other ∙ second.others k other ∙ first.others k other; told = third.told ∙ second.told ∙ first.told }

pub returns-in_err-write_place-clause-told : goal.returns-in_err-write_place-clause-told
returns-in_err-write_place-clause-told g c = λ told. c.write_place.ensures.told told ∙ c.close_gates.ensures.told told

pub returns-in_err-open_first-clause-told : goal.returns-in_err-open_first-clause-told
returns-in_err-open_first-clause-told g c = λ told. c.open_first.ensures.told told ∙ c.write_place.ensures.told told ∙ c.close_gates.ensures.told told

pub returns-clause-told : goal.returns-clause-told
returns-clause-told g c = λ told. c.open_first.ensures.told told ∙ c.write_place.ensures.told told ∙ c.close_gates.ensures.told told

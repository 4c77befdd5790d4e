use Rattle.crash_log.proofs.Formatting.{place_empties, place_has}
use Rattle.crash_log.specs.Fit.{as_read}
use Rattle.crash_log.proofs.Reading.{still_read}
use Rattle.crash_log.proofs.format.write_place.Goals as goal

pub returns-in_err-settle_fields-clause-crash : goal.returns-in_err-settle_fields-clause-crash
returns-in_err-settle_fields-clause-crash g c = λ told has.
    let m = g.M.Media in
    place_empties m.time m.seen c.args.f c.args.media.now c.settle_fields.new.media has (c.settle_fields.ensures.crash told)

pub returns-clause-crash : goal.returns-clause-crash
returns-clause-crash g c = λ told has.
    let m = g.M.Media in
    place_empties m.time m.seen c.args.f c.args.media.now c.settle_fields.new.media has (c.settle_fields.ensures.crash told)

pub returns-clause-placed : goal.returns-clause-placed
returns-clause-placed g c = λ told.
    let m = g.M.Media in
    place_has (as_read m.seen) m.seen c.args.f c.args.media.now c.settle_fields.new.media c.fields-fields.result c.fields-fields.ensures.length c.fields-fields.ensures.place (c.requires.shut told) (c.in_ok-settle_fields.ensures.written told).here (still_read m.seen c.args.f c.settle_fields.new.media)

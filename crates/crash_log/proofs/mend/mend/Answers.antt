use Rattle.std.proofs.Common.{subst}
use Rattle.crash_log.specs.Fit.{FitsAs, IsSound, IsBlank, IsBad, as_read}
use Rattle.crash_log.specs.Format.{IsFormatted}
use Rattle.crash_log.specs.declared.state.Needs.{Needs}
use Rattle.crash_log.specs.declared.state.Needs.TheVariants.{Blank, Damaged}
use Rattle.crash_log.proofs.Closing.{idle}
use Rattle.crash_log.proofs.Formatting.{formatted_ready, empty_same, empty_settled, as_settled}
use Rattle.crash_log.proofs.Reading.{has_still, sound_still}
use Rattle.crash_log.proofs.mend.mend.Goals as goal

pub format_damaged-requires-clause-bad : goal.format_damaged-requires-clause-bad
format_damaged-requires-clause-bad g c = λ told.
    let m = g.M.Media in
    let bad : IsBad (as_read m.seen) m.seen c.in-Damaged.first_open c.in-Damaged.second_open c.args.log.now c.args.media.now = subst (λ (n : Needs). FitsAs n (as_read m.seen) m.seen c.args.log.now c.args.media.now) c.in-Damaged.is (c.requires.fits told) in
    record { still = bad.still; is = record { long = bad.long; first = bad.first_bad; second = bad.second_bad } }

pub format_damaged-requires-clause-first : goal.format_damaged-requires-clause-first
format_damaged-requires-clause-first g c = λ told.
    let m = g.M.Media in
    let bad : IsBad (as_read m.seen) m.seen c.in-Damaged.first_open c.in-Damaged.second_open c.args.log.now c.args.media.now = subst (λ (n : Needs). FitsAs n (as_read m.seen) m.seen c.args.log.now c.args.media.now) c.in-Damaged.is (c.requires.fits told) in
    bad.first

pub format_damaged-requires-clause-second : goal.format_damaged-requires-clause-second
format_damaged-requires-clause-second g c = λ told.
    let m = g.M.Media in
    let bad : IsBad (as_read m.seen) m.seen c.in-Damaged.first_open c.in-Damaged.second_open c.args.log.now c.args.media.now = subst (λ (n : Needs). FitsAs n (as_read m.seen) m.seen c.args.log.now c.args.media.now) c.in-Damaged.is (c.requires.fits told) in
    bad.second

pub returns-in-Nothing-clause-crash : goal.returns-in-Nothing-clause-crash
returns-in-Nothing-clause-crash g c = λ told fits.
    let m = g.M.Media in
    let sound : IsSound m.time m.seen c.args.log.now c.args.media.now = subst (λ (n : Needs). FitsAs n m.time m.seen c.args.log.now c.args.media.now) c.in-Nothing.is fits in
    idle m.time m.seen c.args.log.now c.args.media.now sound.ready

pub returns-in-Nothing-clause-ready : goal.returns-in-Nothing-clause-ready
returns-in-Nothing-clause-ready g c = λ told.
    let m = g.M.Media in
    let sound : IsSound (as_read m.seen) m.seen c.args.log.now c.args.media.now = subst (λ (n : Needs). FitsAs n (as_read m.seen) m.seen c.args.log.now c.args.media.now) c.in-Nothing.is (c.requires.fits told) in
    sound.ready

pub returns-in_err-format_blank-in-Blank-clause-crash : goal.returns-in_err-format_blank-in-Blank-clause-crash
returns-in_err-format_blank-in-Blank-clause-crash g c = λ told fits.
    let m = g.M.Media in
    let blank : IsBlank m.time m.seen c.args.log.now c.args.media.now = subst (λ (n : Needs). FitsAs n m.time m.seen c.args.log.now c.args.media.now) c.in-Blank.is fits in
    as_settled m.time c.args.log.now.file c.args.media.now c.format_blank.new.media _ (empty_settled c.args.log.now Blank _ blank.empty) (c.format_blank.ensures.crash told blank.still)

pub returns-in_ok-format_blank-in-Blank-clause-crash : goal.returns-in_ok-format_blank-in-Blank-clause-crash
returns-in_ok-format_blank-in-Blank-clause-crash g c = λ told fits.
    let m = g.M.Media in
    let blank : IsBlank m.time m.seen c.args.log.now c.args.media.now = subst (λ (n : Needs). FitsAs n m.time m.seen c.args.log.now c.args.media.now) c.in-Blank.is fits in
    as_settled m.time c.args.log.now.file c.args.media.now c.format_blank.new.media _ (empty_settled c.args.log.now Blank _ blank.empty) (c.format_blank.ensures.crash told blank.still)

pub returns-in_ok-format_blank-in-Blank-clause-ready : goal.returns-in_ok-format_blank-in-Blank-clause-ready
returns-in_ok-format_blank-in-Blank-clause-ready g c = λ told.
    let m = g.M.Media in
    let blank : IsBlank (as_read m.seen) m.seen c.args.log.now c.args.media.now = subst (λ (n : Needs). FitsAs n (as_read m.seen) m.seen c.args.log.now c.args.media.now) c.in-Blank.is (c.requires.fits told) in
    formatted_ready (as_read m.seen) m.seen c.args.log.now Blank c.format_blank.new.media blank.empty (c.in_ok-format_blank-in-Blank.ensures.formatted told)

pub returns-in_ok-format_blank-in-Blank-clause-same : goal.returns-in_ok-format_blank-in-Blank-clause-same
returns-in_ok-format_blank-in-Blank-clause-same g c = λ told.
    let m = g.M.Media in
    let blank : IsBlank (as_read m.seen) m.seen c.args.log.now c.args.media.now = subst (λ (n : Needs). FitsAs n (as_read m.seen) m.seen c.args.log.now c.args.media.now) c.in-Blank.is (c.requires.fits told) in
    empty_same c.args.log.now Blank _ _ blank.empty

pub returns-in_err-format_damaged-in-Damaged-clause-crash : goal.returns-in_err-format_damaged-in-Damaged-clause-crash
returns-in_err-format_damaged-in-Damaged-clause-crash g c = λ told fits.
    let m = g.M.Media in
    let bad : IsBad m.time m.seen c.in-Damaged.first_open c.in-Damaged.second_open c.args.log.now c.args.media.now = subst (λ (n : Needs). FitsAs n m.time m.seen c.args.log.now c.args.media.now) c.in-Damaged.is fits in
    as_settled m.time c.args.log.now.file c.args.media.now c.format_damaged.new.media _ (empty_settled c.args.log.now (Damaged c.in-Damaged.first_open c.in-Damaged.second_open) _ bad.empty) (c.format_damaged.ensures.crash told (record { still = bad.still; is = record { long = bad.long; first = bad.first_bad; second = bad.second_bad } }))

pub returns-in_ok-format_damaged-in-Damaged-clause-crash : goal.returns-in_ok-format_damaged-in-Damaged-clause-crash
returns-in_ok-format_damaged-in-Damaged-clause-crash g c = λ told fits.
    let m = g.M.Media in
    let bad : IsBad m.time m.seen c.in-Damaged.first_open c.in-Damaged.second_open c.args.log.now c.args.media.now = subst (λ (n : Needs). FitsAs n m.time m.seen c.args.log.now c.args.media.now) c.in-Damaged.is fits in
    as_settled m.time c.args.log.now.file c.args.media.now c.format_damaged.new.media _ (empty_settled c.args.log.now (Damaged c.in-Damaged.first_open c.in-Damaged.second_open) _ bad.empty) (c.format_damaged.ensures.crash told (record { still = bad.still; is = record { long = bad.long; first = bad.first_bad; second = bad.second_bad } }))

pub returns-in_ok-format_damaged-in-Damaged-clause-ready : goal.returns-in_ok-format_damaged-in-Damaged-clause-ready
returns-in_ok-format_damaged-in-Damaged-clause-ready g c = λ told.
    let m = g.M.Media in
    let bad : IsBad (as_read m.seen) m.seen c.in-Damaged.first_open c.in-Damaged.second_open c.args.log.now c.args.media.now = subst (λ (n : Needs). FitsAs n (as_read m.seen) m.seen c.args.log.now c.args.media.now) c.in-Damaged.is (c.requires.fits told) in
    formatted_ready (as_read m.seen) m.seen c.args.log.now (Damaged c.in-Damaged.first_open c.in-Damaged.second_open) c.format_damaged.new.media bad.empty (c.in_ok-format_damaged-in-Damaged.ensures.formatted told)

pub returns-in_ok-format_damaged-in-Damaged-clause-same : goal.returns-in_ok-format_damaged-in-Damaged-clause-same
returns-in_ok-format_damaged-in-Damaged-clause-same g c = λ told.
    let m = g.M.Media in
    let bad : IsBad (as_read m.seen) m.seen c.in-Damaged.first_open c.in-Damaged.second_open c.args.log.now c.args.media.now = subst (λ (n : Needs). FitsAs n (as_read m.seen) m.seen c.args.log.now c.args.media.now) c.in-Damaged.is (c.requires.fits told) in
    empty_same c.args.log.now (Damaged c.in-Damaged.first_open c.in-Damaged.second_open) _ _ bad.empty

pub returns-in_ok-format_blank-in-Blank-clause-survives : goal.returns-in_ok-format_blank-in-Blank-clause-survives
returns-in_ok-format_blank-in-Blank-clause-survives g c = λ told fits.
    let m = g.M.Media in
    let log = c.args.log.now in
    let now = c.format_blank.new.media in
    let blank : IsBlank m.time m.seen log c.args.media.now = subst (λ (n : Needs). FitsAs n m.time m.seen log c.args.media.now) c.in-Blank.is fits in
    let done = c.in_ok-format_blank-in-Blank.ensures in
    record { ready = formatted_ready m.time m.seen log Blank now blank.empty (has_still m.time m.seen IsFormatted log.file now (done.still told) (done.formatted told)); quiet = λ none. done.still told }

pub returns-in_ok-format_damaged-in-Damaged-clause-survives : goal.returns-in_ok-format_damaged-in-Damaged-clause-survives
returns-in_ok-format_damaged-in-Damaged-clause-survives g c = λ told fits.
    let m = g.M.Media in
    let log = c.args.log.now in
    let now = c.format_damaged.new.media in
    let first = c.in-Damaged.first_open in
    let second = c.in-Damaged.second_open in
    let bad : IsBad m.time m.seen first second log c.args.media.now = subst (λ (n : Needs). FitsAs n m.time m.seen log c.args.media.now) c.in-Damaged.is fits in
    let done = c.in_ok-format_damaged-in-Damaged.ensures in
    record { ready = formatted_ready m.time m.seen log (Damaged first second) now bad.empty (has_still m.time m.seen IsFormatted log.file now (done.still told) (done.formatted told)); quiet = λ none. done.still told }

pub returns-in_ok-close_stale-in-Stale-clause-survives : goal.returns-in_ok-close_stale-in-Stale-clause-survives
returns-in_ok-close_stale-in-Stale-clause-survives g c = λ told fits.
    let m = g.M.Media in
    let done = c.in_ok-close_stale-in-Stale.ensures in
    sound_still m.time m.seen c.args.log.now c.close_stale.new.media (done.still told) (done.ready told)

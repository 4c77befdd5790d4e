use Rattle.std.proofs.Common.{ℕ, sym, subst}
use Rattle.crash_log.specs.Fit.{IsStill}
use Rattle.crash_log.proofs.OpenedLemmas.{still_later}
use Rattle.crash_log.proofs.Reading.{fits_still}
use Rattle.crash_log.proofs.log.CrashLog.open.Goals as goal

pub returns-clause-survives : goal.returns-clause-survives
returns-clause-survives g c = λ told still.
    let m = g.M.Media in
    let now = c.read_state.new.media in
    let state = c.in_ok-state.state in
    let later = still_later m.time m.seen c.args.media.now now c.args.f (c.read_state.ensures.crash told) (c.read_state.ensures.seen told) still in
    fits_still m.time m.seen state now (subst (λ (f : ℕ). IsStill m.time m.seen f now) (sym c.in_ok-state.ensures.file) later) (c.in_ok-state.ensures.opened told).fits

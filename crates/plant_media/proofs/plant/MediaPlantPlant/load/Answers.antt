use Rattle.std.proofs.Common.{◌≡◌, ◌≢◌, ℕ, ◌+◌, ◌<◌, Bool, true, false, IsTrue, Some, refl, sym, ◌∙◌, ap, subst, arith}
use Rattle.crash_log.specs.CrashLog.{length_of}
use Rattle.crash_log.specs.Fit.{as_read}
use Rattle.plant_media.specs.State.{loaded_of, shown_of, moments_of}
use Rattle.plant_media.specs.Laws.{others_whole}
use Rattle.plant_media.proofs.Keeping.{load_alike, again_alike}
use Rattle.plant_media.proofs.Calling.{file_here, same_twice, settle_then}
use Rattle.plant_media.proofs.plant.MediaPlantPlant.load.Goals as goal

pub take_up-requires-clause-slot : goal.take_up-requires-clause-slot
take_up-requires-clause-slot g c =
    let media = c.args.self.now.media in
    let below : c.args.slot < 65535 = omega (arith, g.met.M.Media.here_below media (c.args.slot + 1) (file_here (g.M.Media.present media) c.args.slot c.requires.here), g.met.M.Media.few_files media) in
    below

pub take_up-requires-clause-here : goal.take_up-requires-clause-here
take_up-requires-clause-here g c =
    subst (λ (h : ℕ → Bool). IsTrue (h (c.args.slot + 1))) (sym c.in_ok-put_away.ensures.present) (file_here (g.M.Media.present c.args.self.now.media) c.args.slot c.requires.here)

pub returns-in_err-take_up-clause-crash : goal.returns-in_err-take_up-clause-crash
returns-in_err-take_up-clause-crash g c = λ told survives.
    let m = g.M.Media in
    let p = c.args.self.now in
    settle_then (moments_of m.time) (loaded_of p) c.args.slot (shown_of m.seen p) p c.put_away.new.self c.take_up.new.self (c.put_away.ensures.crash told survives) (c.take_up.ensures.crash told)

pub returns-clause-crash : goal.returns-clause-crash
returns-clause-crash g c = λ told survives.
    let m = g.M.Media in
    let p = c.args.self.now in
    settle_then (moments_of m.time) (loaded_of p) c.args.slot (shown_of m.seen p) p c.put_away.new.self c.take_up.new.self (c.put_away.ensures.crash told survives) (c.take_up.ensures.crash told)

pub returns-clause-only : goal.returns-clause-only
returns-clause-only g c =
    let m = g.M.Media in
    let p = c.args.self.now in
    let e = c.in_ok-take_up.ensures in
    let other : loaded_of p ≢ Some c.args.slot = λ is. let never : true ≡ false = sym (c.is_loaded.ensures.1 is) ∙ c.if-is_loaded.false in absurd (cc) in
    record {
      state = λ told.
          let same = same_twice (shown_of m.seen p) (shown_of m.seen c.put_away.new.self) (shown_of m.seen c.take_up.new.self) (c.in_ok-put_away.ensures.seen told) (e.seen told) in
          load_alike (loaded_of p) c.args.slot (shown_of m.seen p) (shown_of m.seen c.take_up.new.self) same.log same.tape same.told same.log_settled (e.all told)
          (others_whole m.tells (as_read m.seen) m.seen m.present p c.requires.sound told) other;
      loaded = e.loaded;
      log_size = ap length_of (e.journal ∙ c.in_ok-put_away.ensures.journal);
    }

pub returns-then-is_loaded-clause-only : goal.returns-then-is_loaded-clause-only
returns-then-is_loaded-clause-only g c =
    let m = g.M.Media in
    let p = c.args.self.now in
    let is : loaded_of p ≡ Some c.args.slot = c.is_loaded.ensures.0 c.if-is_loaded.true in
    record { state = λ told. again_alike (loaded_of p) c.args.slot (shown_of m.seen p) is; loaded = is; log_size = refl }

use Rattle.std.proofs.Common.{◌+◌, ◌<◌, ℕ, List, ◌++◌, ◌∷◌, take, length, get_or, Bool, subst, refl, arith}
use Rattle.std.proofs.lemmas.Bool.{iff_false}
use Rattle.std.proofs.lemmas.List.{take_all}
use Rattle.dump_stream.specs.Reads.{IsAt}
use Rattle.dump_stream.specs.Sound.{SoundWhile}
use Rattle.dump_stream.specs.Steps.{Steps, Ends}
use Rattle.dump_stream.proofs.ReadLaws.{next_within, run_none, run_gulped, run_more, run_ended, run_stopped}
use Rattle.dump_stream.proofs.pieces.run.Goals as goal

pub loop-at-init : goal.loop-at-init
loop-at-init c = record { sound = c.requires; within = omega arith; at = λ bytes at. run_none bytes c.args.piece.now c.args.machine.now at }

pub returns-then-at-piece-clause-ran : goal.returns-then-at-piece-clause-ran
returns-then-at-piece-clause-ran c = λ bytes start.
    let piece = c.args.piece.now in
    let at = c.loop-at.at in
    let count = c.in_ok-count.count in
    let before = c.loop-at.invariant.at bytes start in
    let so_far : IsAt (bytes ++ take (at + count) piece) c.gulp.new.self = run_gulped bytes piece at count c.loop-at.machine c.gulp.new.self before (c.in_ok-count.ensures.moved before.0.0) c.in_ok-count.ensures.ended in
    subst (λ (x : List ℕ). IsAt (bytes ++ x) c.gulp.new.self) (take_all (at + count) piece (omega (arith, c.if-at-piece.true))) so_far

pub returns-then-not-fits-clause-ran : goal.returns-then-not-fits-clause-ran
returns-then-not-fits-clause-ran c = λ bytes start.
    let piece = c.args.piece.now in
    let at = c.loop-at.at in
    let count = c.in_ok-count.count in
    let before = c.loop-at.invariant.at bytes start in
    let so_far : IsAt (bytes ++ take (at + count) piece) c.gulp.new.self = run_gulped bytes piece at count c.loop-at.machine c.gulp.new.self before (c.in_ok-count.ensures.moved before.0.0) c.in_ok-count.ensures.ended in
    let lt : at + count < length piece = omega (arith, next_within piece at count c.loop-at.invariant.within c.in_ok-count.ensures.within, c.if-at-piece.false) in
    let byte = get_or piece (at + count) 0 in
    let h : Steps (λ more. Ends c.gulp.new.self (byte ∷ more)) c.in_ok-fits.fits c.step.new.self = c.in_ok-fits.ensures.stepped so_far.0.0 in
    run_stopped bytes piece (at + count) byte c.gulp.new.self c.step.new.self lt refl so_far
    (subst (λ (b : Bool). Steps (λ more. Ends c.gulp.new.self (byte ∷ more)) b c.step.new.self) c.if-not-fits.true h)

pub returns-then-has_ended-clause-ran : goal.returns-then-has_ended-clause-ran
returns-then-has_ended-clause-ran c = λ bytes start.
    let piece = c.args.piece.now in
    let at = c.loop-at.at in
    let count = c.in_ok-count.count in
    let before = c.loop-at.invariant.at bytes start in
    let so_far : IsAt (bytes ++ take (at + count) piece) c.gulp.new.self = run_gulped bytes piece at count c.loop-at.machine c.gulp.new.self before (c.in_ok-count.ensures.moved before.0.0) c.in_ok-count.ensures.ended in
    let lt : at + count < length piece = omega (arith, next_within piece at count c.loop-at.invariant.within c.in_ok-count.ensures.within, c.if-at-piece.false) in
    let byte = get_or piece (at + count) 0 in
    let h : Steps (λ more. Ends c.gulp.new.self (byte ∷ more)) c.in_ok-fits.fits c.step.new.self = c.in_ok-fits.ensures.stepped so_far.0.0 in
    run_ended bytes piece (at + count) byte c.gulp.new.self c.step.new.self lt refl so_far
    (subst (λ (b : Bool). Steps (λ more. Ends c.gulp.new.self (byte ∷ more)) b c.step.new.self) c.if-not-fits.false h)
    (c.has_ended.ensures.0 c.if-has_ended.true)

pub loop-at-preserved : goal.loop-at-preserved
loop-at-preserved c =
    let piece = c.args.piece.now in
    let at = c.loop-at.at in
    let count = c.in_ok-count.count in
    let lt : at + count < length piece = omega (arith, next_within piece at count c.loop-at.invariant.within c.in_ok-count.ensures.within, c.if-at-piece.false) in
    record {
      sound = subst (λ (b : Bool). SoundWhile b c.step.new.self) c.if-not-fits.false c.in_ok-fits.ensures.sound;
      within = omega (arith, lt);
      at = λ bytes start.
          let before = c.loop-at.invariant.at bytes start in
          let so_far : IsAt (bytes ++ take (at + count) piece) c.gulp.new.self = run_gulped bytes piece at count c.loop-at.machine c.gulp.new.self before (c.in_ok-count.ensures.moved before.0.0) c.in_ok-count.ensures.ended in
          let byte = get_or piece (at + count) 0 in
          let h : Steps (λ more. Ends c.gulp.new.self (byte ∷ more)) c.in_ok-fits.fits c.step.new.self = c.in_ok-fits.ensures.stepped so_far.0.0 in
          run_more bytes piece (at + count) byte c.gulp.new.self c.step.new.self lt refl so_far
          (subst (λ (b : Bool). Steps (λ more. Ends c.gulp.new.self (byte ∷ more)) b c.step.new.self) c.if-not-fits.false h)
          (iff_false c.has_ended.ensures c.if-has_ended.false);
    }

pub returns-clause-ran : goal.returns-clause-ran
returns-clause-ran c = λ bytes start.
    subst (λ (x : List ℕ). IsAt (bytes ++ x) c.loop-at.machine) (take_all c.loop-at.at c.args.piece.now (omega arith)) (c.loop-at.invariant.at bytes start)

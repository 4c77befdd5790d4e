use Rattle.std.proofs.Common.{◌≡◌, ◌+◌, ◌++◌, length, Ok, subst, arith, length-append}
use Rattle.dump_stream.specs.declared.machine.Machine.{Machine}
use Rattle.dump_stream.specs.declared.machine.Ran.{Ran}
use Rattle.dump_stream.specs.declared.machine.Ran.TheVariants as ran
use Rattle.dump_stream.specs.declared.reader.State.TheVariants as states
use Rattle.vnode_model.specs.declared.increments.Increment.{Increment}
use Rattle.dump_stream.specs.Feeds.{HasFed}
use Rattle.dump_stream.specs.Steps.{EndsWith}
use Rattle.dump_stream.specs.Reads.{Answers, IsBad, IsAt, Runs}
use Rattle.dump_stream.proofs.ReadLaws.{whole_more, one_end_says}
use Rattle.dump_stream.proofs.FeedLaws.{fed_done, fed_bad, bad_more, at_state, in_state}
use Rattle.dump_stream.proofs.reader.Reader.feed.Goals as goal

pub returns-in-Stuck-clause-answer : goal.returns-in-Stuck-clause-answer
unfolding HasFed
returns-in-Stuck-clause-answer c = λ bytes fed few.
    let r = c.args.self.now in
    let bad = bad_more bytes c.args.piece.now c.in-Stuck.at (at_state bytes r (states.Stuck c.in-Stuck.at) c.in-Stuck.is fed) in
    (bad, in_state (bytes ++ c.args.piece.now) r (states.Stuck c.in-Stuck.at) c.in-Stuck.is bad)

pub returns-in-More-clause-answer : goal.returns-in-More-clause-answer
unfolding HasFed
returns-in-More-clause-answer c = λ bytes fed few.
    let piece = c.args.piece.now in
    let r = c.args.self.now in
    let going = at_state bytes r states.Going c.in-Going.is fed in
    let h : IsAt (bytes ++ piece) c.run.new.machine = subst (λ (x : Ran). Runs bytes piece x c.run.new.machine) c.in-More.is (c.in-Ok.ensures.ran bytes going.0) in (
      whole_more (bytes ++ piece) c.run.new.machine h,
      in_state (bytes ++ piece) (record r { machine = c.run.new.machine; count = c.saturating_add-self.result }) states.Going c.in-Going.is
          (h, omega (arith, c.saturating_add-self.ensures, going.1, length-append bytes piece)),
    )

pub returns-in-Ended-clause-answer : goal.returns-in-Ended-clause-answer
unfolding HasFed
returns-in-Ended-clause-answer c = λ bytes fed few.
    let piece = c.args.piece.now in
    let used = c.in-Ended.used in
    let going = at_state bytes c.args.self.now states.Going c.in-Going.is fed in
    let h : Runs bytes piece (ran.Ended used) c.run.new.machine = subst (λ (x : Ran). Runs bytes piece x c.run.new.machine) c.in-Ended.is (c.in-Ok.ensures.ran bytes going.0) in
    let done = fed_done bytes piece used c.run.new.machine h in
    let same : h.1 ≡ c.take_increment-increment.result = one_end_says c.run.new.machine h.1 c.take_increment-increment.result h.3 c.take_increment-increment.ensures in
    ((h.0, h.1, done), (length bytes + used, subst (λ (i : Increment). Answers (bytes ++ piece) (Ok (i, length bytes + used))) same done))

pub returns-in-Stopped-clause-answer : goal.returns-in-Stopped-clause-answer
unfolding HasFed
returns-in-Stopped-clause-answer c = λ bytes fed few.
    let piece = c.args.piece.now in
    let at = c.in-Stopped.at in
    let going = at_state bytes c.args.self.now states.Going c.in-Going.is fed in
    let h : Runs bytes piece (ran.Stopped at) c.run.new.machine = subst (λ (x : Ran). Runs bytes piece x c.run.new.machine) c.in-Stopped.is (c.in-Ok.ensures.ran bytes going.0) in
    let place : length bytes + at ≡ c.saturating_add-at.result = omega (arith, c.saturating_add-at.ensures, going.1, h.0) in
    let bad : IsBad (bytes ++ piece) c.saturating_add-at.result = subst (IsBad (bytes ++ piece)) place (fed_bad bytes piece at c.run.new.machine h) in
    (bad, bad)

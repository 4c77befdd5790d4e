use Rattle.std.proofs.Common.{◌≡◌, subst}
use Rattle.vnode_model.specs.Increments.{applied}
use Rattle.restore_chain.specs.declared.fault.RestoreFault.TheVariants.{Failed}
use Rattle.restore_chain.specs.declared.play_volume.Given.{Given}
use Rattle.restore_chain.specs.Playing.{GivesSo}
use Rattle.restore_chain.proofs.PlayLaws.{stream_plays, bad_plays, makes_not_failed, bad_not_failed, makes_answers, bad_answers}
use Rattle.restore_chain.proofs.play_dump.answer_given.Goals as goal

pub returns-in-Stream-clause-plays : goal.returns-in-Stream-clause-plays
returns-in-Stream-clause-plays c = λ slots cs gives.
    stream_plays slots c.args.dump.now cs c.args.base c.in-Stream.increment c.apply_next.result (subst (λ (x : Given). GivesSo slots c.args.dump.now cs x) c.in-Stream.is gives) c.apply_next.ensures

pub returns-in-Stream-clause-never : goal.returns-in-Stream-clause-never
returns-in-Stream-clause-never c = makes_not_failed (applied c.args.base c.in-Stream.increment) c.apply_next.result c.apply_next.ensures

pub returns-in-Bad-clause-plays : goal.returns-in-Bad-clause-plays
returns-in-Bad-clause-plays c = λ slots cs gives.
    bad_plays slots c.args.dump.now cs c.args.base c.in-Bad.site c.bad_on_tape.result (subst (λ (x : Given). GivesSo slots c.args.dump.now cs x) c.in-Bad.is gives) c.bad_on_tape.ensures

pub returns-in-Bad-clause-never : goal.returns-in-Bad-clause-never
returns-in-Bad-clause-never c = λ is. bad_not_failed c.args.dump.now c.in-Bad.site c.bad_on_tape.result c.bad_on_tape.ensures (let same : c.bad_on_tape.result ≡ Failed = cc in same)

pub returns-in-Stream-clause-only : goal.returns-in-Stream-clause-only
returns-in-Stream-clause-only c = makes_answers (applied c.args.base c.in-Stream.increment) c.apply_next.result c.apply_next.ensures

pub returns-in-Bad-clause-only : goal.returns-in-Bad-clause-only
returns-in-Bad-clause-only c = bad_answers c.args.dump.now c.in-Bad.site c.bad_on_tape.result c.bad_on_tape.ensures

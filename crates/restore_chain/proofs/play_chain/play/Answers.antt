use Rattle.std.proofs.Common.{rules}
use Rattle.restore_chain.proofs.PlayLaws.{plan_plays, plan_answers}
use Rattle.restore_chain.proofs.play_chain.play.Goals as goal

pub returns-clause-played : goal.returns-clause-played
returns-clause-played g c = λ told slots has planned.
    plan_plays slots c.args.budb.now.database.listed c.args.budb.now.database.listed c.args.plan.now c.as_slice-ids.result.now c.bytes.result.now c.as_slice.result.now c.play_chain.result
    (search rules) (search rules) (search rules) (search rules)
    (λ some ready. c.play_chain.ensures.plays told slots has some ready) planned

pub returns-clause-only : goal.returns-clause-only
returns-clause-only g c = λ chained.
    plan_answers c.args.budb.now.database.listed c.args.plan.now c.as_slice-ids.result.now c.bytes.result.now c.play_chain.result
    (search rules) (search rules) (λ some there. c.play_chain.ensures.only some there) chained

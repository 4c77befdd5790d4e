use Rattle.std.proofs.Common.{◌≡◌, sym, ◌∙◌, subst, IfOk, ◌≢◌}
use Rattle.std.specs.Prelude.{Err, OnErr}
use Rattle.plant_effects.specs.Runs.{Leaves}
use Rattle.dump_courses.specs.declared.stop.DumpStop.TheVariants as stops
use Rattle.dump_courses.specs.Ahead.{LeftAhead}
use Rattle.dump_commands.specs.Answers.{IsAnswered}
use Rattle.group_commands.specs.Groups.{GroupView}
use Rattle.group_commands.specs.Answers.{group_answer}
use Rattle.backup_session.proofs.GroupLaws.{same_some}
use Rattle.backup_session.proofs.grouping.end_in.Goals as goal

pub returns-clause-answered : goal.returns-clause-answered
returns-clause-answered g c = λ told seen s v finds opened.
    subst (λ (x : GroupView). IfOk c.end_group.result (λ e. IsAnswered g.P.Plant s (group_answer s x).answer c.end_group.new.budb c.args.plant.now c.end_group.new.plant (record { text = e.text; time = e.time }))) (same_some c.in-Some.group v (sym c.in-Some.is ∙ opened))
    (c.end_group.ensures.answered told seen s finds)

pub returns-clause-jobs : goal.returns-clause-jobs
returns-clause-jobs g c = λ told seen s v finds opened.
    subst (λ (x : GroupView). IfOk c.end_group.result (λ e. e.jobs ≡ (group_answer s x).jobs)) (same_some c.in-Some.group v (sym c.in-Some.is ∙ opened)) (c.end_group.ensures.jobs told seen s finds)

pub returns-clause-leaves : goal.returns-clause-leaves
returns-clause-leaves g c = λ told seen s v finds opened.
    subst (λ (x : GroupView). Leaves g.P.Plant (group_answer s x).answer.effects c.args.plant.now c.end_group.new.plant) (same_some c.in-Some.group v (sym c.in-Some.is ∙ opened)) (c.end_group.ensures.leaves told seen s finds)

pub returns-clause-stopped : goal.returns-clause-stopped
returns-clause-stopped g c = λ told seen s v finds opened.
    subst (λ (x : GroupView). OnErr c.end_group.result (c.end_group.result ≢ Err stops.Plant → LeftAhead g.P.Plant (group_answer s x).answer.effects c.args.plant.now c.end_group.new.plant)) (same_some c.in-Some.group v (sym c.in-Some.is ∙ opened))
    (c.end_group.ensures.stopped told seen s finds)

use Rattle.std.proofs.Common.{◌≡◌, Ok, sym, subst}
use Rattle.std.specs.Prelude.{Option}
use Rattle.budb_fold.specs.Lookups.{VolumeDump, latest}
use Rattle.restore_chain.specs.declared.fault.LookFault.TheVariants.{Failed}
use Rattle.restore_chain.proofs.ReadLaws.{read_none, read_well}
use Rattle.mount_plan.specs.declared.course.Course.{Course}
use Rattle.mount_plan.specs.Courses.{IsCourse}
use Rattle.mount_plan.proofs.CourseLaws.{course_goes}
use Rattle.mount_plan.proofs.meeting.meet_one.Goals as goal

pub returns-in-Going-clause-goes : goal.returns-in-Going-clause-goes
returns-in-Going-clause-goes g c = λ told slots listed before name has held is course.
    course_goes slots listed (latest listed name before) _ _ c.meet_going.result
    (λ one going. c.meet_going.ensures.goes told slots listed one has held is going)
    (subst (IsCourse slots listed before name) c.in-Going.is course)

pub returns-in-NoDump-clause-reads : goal.returns-in-NoDump-clause-reads
returns-in-NoDump-clause-reads g c =
    read_well g.P.Plant Failed c.args.plant.now c.args.plant.now _ (read_none g.P.Plant c.args.plant.now c.requires.sound (λ told survives image left. g.met.P.Plant.left c.args.plant.now image told c.requires.sound survives left)) (λ is. absurd (cc))

pub returns-in-MissingDump-clause-reads : goal.returns-in-MissingDump-clause-reads
returns-in-MissingDump-clause-reads g c =
    read_well g.P.Plant Failed c.args.plant.now c.args.plant.now _ (read_none g.P.Plant c.args.plant.now c.requires.sound (λ told survives image left. g.met.P.Plant.left c.args.plant.now image told c.requires.sound survives left)) (λ is. absurd (cc))

use Rattle.std.proofs.Common.{◌≡◌, ◌<◌, length, Ok, Err, refl, sym, ◌∙◌, subst, arith}
use Rattle.restore_chain.specs.declared.fault.LookFault.TheVariants.{Failed}
use Rattle.restore_chain.proofs.ReadLaws.{read_none, read_both, read_then, read_well, slots_read, still_loaded}
use Rattle.mount_plan.proofs.CourseLaws.{courses_set, held_still}
use Rattle.mount_plan.proofs.meeting.meet_each.Goals as goal

pub loop-course-init : goal.loop-course-init
loop-course-init g c = record {
  goes = λ told slots listed before names has held is are. are;
  read = read_none g.P.Plant c.args.plant.now c.requires.sound (λ told survives image left. g.met.P.Plant.left c.args.plant.now image told c.requires.sound survives left);
}

pub meet_one-requires-clause-sound : goal.meet_one-requires-clause-sound
meet_one-requires-clause-sound g c = c.loop-course.invariant.read.done.sound

pub meet_one-requires-clause-loaded : goal.meet_one-requires-clause-loaded
meet_one-requires-clause-loaded g c = λ is. still_loaded g.P.Plant c.args.plant.now c.loop-course.plant c.loop-course.invariant.read (c.requires.loaded is)

pub loop-course-preserved : goal.loop-course-preserved
loop-course-preserved g c =
    let P = g.P.Plant in
    let so_far = c.loop-course.invariant in
    let old = c.args.plant.now in
    let mid = c.loop-course.plant in
    let new = c.meet_one.new.plant in
    record {
      goes = λ told slots listed before names has held is are.
          courses_set slots listed before names c.loop-course.courses c.loop-course.course-index c.course-item.result c.meet_one.new.course (omega (arith, c.loop-course-test.true))
          (λ name course. c.in-Ok.ensures.goes told slots listed before name (slots_read P slots old mid so_far.read told has) (held_still P slots c.args.dump.now c.args.tape old mid c.args.held so_far.read held) is course)
          (so_far.goes told slots listed before names has held is are);
      read = read_both P Failed old mid new _ so_far.read c.in-Ok.ensures.reads (λ is. absurd (cc));
    }

pub returns-in-Err-clause-reads : goal.returns-in-Err-clause-reads
returns-in-Err-clause-reads g c = read_then g.P.Plant Failed c.args.plant.now c.loop-course.plant c.meet_one.new.plant _ c.loop-course.invariant.read c.in-Err.ensures.reads

pub returns-clause-reads : goal.returns-clause-reads
returns-clause-reads g c = read_well g.P.Plant Failed c.args.plant.now c.loop-course.plant _ c.loop-course.invariant.read (λ is. absurd (cc))

pub returns-clause-goes : goal.returns-clause-goes
returns-clause-goes g c = λ told slots listed before names has held is are. c.loop-course.invariant.goes told slots listed before names has held is are

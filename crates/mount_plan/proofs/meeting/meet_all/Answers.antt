use Rattle.std.proofs.Common.{◌<◌, ◌≤◌, ◌+◌, Ok, Err, length, refl, ◌∙◌, arith}
use Rattle.plant_effects.proofs.Joining.{nothing_quiet, quiet_both}
use Rattle.tape_scan.proofs.Looking.{looks_well, looks_after, loads_none, loads_both, slots_later}
use Rattle.restore_chain.specs.declared.fault.LookFault.TheVariants.{Failed}
use Rattle.mount_plan.proofs.PassLaws.{most_more, most_within}
use Rattle.mount_plan.proofs.meeting.meet_all.Goals as goal

pub loop-need-init : goal.loop-need-init
loop-need-init g c = record {
  loads = loads_none g.P.Plant c.args.plant.now c.requires.sound (λ told survives x left. g.met.P.Plant.left c.args.plant.now x told c.requires.sound survives left);
  stays = nothing_quiet g.P.Plant c.args.plant.now;
  faults = refl;
  goes = λ told slots before names has are. are;
  counted = λ told slots has. omega arith;
}

pub loop-need-preserved : goal.loop-need-preserved
loop-need-preserved g c =
    let P = g.P.Plant in
    let so_far = c.loop-need.invariant in
    let old = c.args.plant.now in
    let mid = c.loop-need.plant in
    let new = c.meet_need.new.plant in
    let e = c.in-Ok.ensures in
    let n = c.need-item.result in
    let listed = c.args.budb.now.database.listed in
    let within : c.loop-need.need-index < length c.args.needs.now = omega (arith, c.loop-need-test.true) in
    record {
      loads = loads_both P old mid new so_far.loads (e.looks.done (λ is. absurd (cc)));
      stays = quiet_both P old mid new so_far.stays e.looks.stays;
      faults = e.looks.cause.stays (λ is. absurd (cc)) ∙ so_far.faults;
      goes = λ told slots before names has are.
          e.goes told slots before names (slots_later P slots old mid so_far.loads so_far.stays told has) (so_far.goes told slots before names has are);
      counted = λ told slots has.
          omega (arith, so_far.counted told slots has, e.loads told slots (slots_later P slots old mid so_far.loads so_far.stays told has), most_more slots listed c.args.needs.now c.loop-need.need-index n within c.need-item.is);
    }

pub returns-in-Err-clause-looks : goal.returns-in-Err-clause-looks
returns-in-Err-clause-looks g c =
    let so_far = c.loop-need.invariant in
    looks_after g.P.Plant Failed c.args.plant.now c.loop-need.plant c.meet_need.new.plant (Err c.in-Err.fault) so_far.loads so_far.stays so_far.faults c.in-Err.ensures.looks

pub returns-in-Err-clause-loads : goal.returns-in-Err-clause-loads
returns-in-Err-clause-loads g c = λ told slots has.
    let P = g.P.Plant in
    let so_far = c.loop-need.invariant in
    let old = c.args.plant.now in
    let mid = c.loop-need.plant in
    let n = c.need-item.result in
    let listed = c.args.budb.now.database.listed in
    let within : c.loop-need.need-index < length c.args.needs.now = omega (arith, c.loop-need-test.true) in
    omega (
      arith,
      so_far.counted told slots has,
      c.in-Err.ensures.loads told slots (slots_later P slots old mid so_far.loads so_far.stays told has),
      most_more slots listed c.args.needs.now c.loop-need.need-index n within c.need-item.is,
      most_within slots listed c.args.needs.now (c.loop-need.need-index + 1),
    )

pub returns-clause-looks : goal.returns-clause-looks
returns-clause-looks g c =
    let so_far = c.loop-need.invariant in
    looks_well g.P.Plant Failed c.args.plant.now c.loop-need.plant (Ok _) so_far.loads so_far.stays so_far.faults (λ is. absurd (cc))

pub returns-clause-loads : goal.returns-clause-loads
returns-clause-loads g c = λ told slots has.
    omega (arith, c.loop-need.invariant.counted told slots has, most_within slots c.args.budb.now.database.listed c.args.needs.now c.loop-need.need-index)

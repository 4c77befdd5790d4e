use Rattle.std.proofs.Common.{◌≡◌, ◌<◌, ◌≤◌, Ok, Err, length, refl, ◌∙◌, arith}
use Rattle.plant_effects.proofs.Joining.{nothing_quiet, quiet_both}
use Rattle.restore_chain.specs.declared.fault.RestoreFault.TheVariants.{Failed, NoDump}
use Rattle.tape_scan.proofs.Looking.{loads_none, loads_both, slots_later, looks_well, looks_after}
use Rattle.restore_chain.proofs.PlayLaws.{played_none, played_more, played_bad, played_all, dumped_at}
use Rattle.restore_chain.proofs.play_chain.play_chain.Goals as goal

pub loop-id-init : goal.loop-id-init
loop-id-init g c = record {
  played = λ told slots has ready. played_none slots c.args.budb.now.database.listed c.args.name.now c.args.ids.now c.args.tapes.now ready;
  made = λ is. refl;
  loads = loads_none g.P.Plant c.args.plant.now c.requires (λ told survives x left. g.met.P.Plant.left c.args.plant.now x told c.requires survives left);
  stays = nothing_quiet g.P.Plant c.args.plant.now;
  faults = refl;
}

pub loop-id-preserved : goal.loop-id-preserved
loop-id-preserved g c =
    let P = g.P.Plant in
    let so_far = c.loop-id.invariant in
    let old = c.args.plant.now in
    let mid = c.loop-id.plant in
    let new = c.play_listed.new.plant in
    let e = c.in-Ok.ensures in
    let within : c.loop-id.id-index < length c.args.ids.now = omega (arith, c.loop-id-test.true) in
    record {
      played = λ told slots has ready.
          played_more slots c.args.budb.now.database.listed c.args.name.now c.args.ids.now c.loop-id.id-index c.loop-id.base c.loop-id.rest.now c.needs_behind-rest.result.now c.in-Ok.volume within (so_far.played told slots has ready)
          (λ d v is named held. e.plays told slots d v (slots_later P slots old mid so_far.loads so_far.stays told has) is named held)
          c.needs_behind-rest.ensures;
      made = λ is. absurd (cc);
      loads = loads_both P old mid new so_far.loads (e.looks.done (λ is. absurd (cc)));
      stays = quiet_both P old mid new so_far.stays e.looks.stays;
      faults = e.looks.cause.stays (λ is. absurd (cc)) ∙ so_far.faults;
    }

pub returns-in-Err-clause-plays : goal.returns-in-Err-clause-plays
returns-in-Err-clause-plays g c = λ told slots has some ready.
    let P = g.P.Plant in
    let so_far = c.loop-id.invariant in
    let within : c.loop-id.id-index < length c.args.ids.now = omega (arith, c.loop-id-test.true) in
    played_bad slots c.args.budb.now.database.listed c.args.name.now c.args.ids.now c.loop-id.id-index c.loop-id.base c.loop-id.rest.now c.in-Err.fault within (so_far.played told slots has ready)
    (λ d v is named held. c.in-Err.ensures.plays told slots d v (slots_later P slots c.args.plant.now c.loop-id.plant so_far.loads so_far.stays told has) is named held)

pub returns-in-Err-clause-only : goal.returns-in-Err-clause-only
returns-in-Err-clause-only g c = λ some there.
    let within : c.loop-id.id-index < length c.args.ids.now = omega (arith, c.loop-id-test.true) in
    let at = dumped_at c.args.budb.now.database.listed c.args.name.now c.args.ids.now c.loop-id.id-index within there in
    c.in-Err.ensures.only at.dump at.volume at.is at.named

pub returns-in-Err-clause-looks : goal.returns-in-Err-clause-looks
returns-in-Err-clause-looks g c =
    let so_far = c.loop-id.invariant in
    looks_after g.P.Plant Failed c.args.plant.now c.loop-id.plant c.play_listed.new.plant (Err c.in-Err.fault) so_far.loads so_far.stays so_far.faults c.in-Err.ensures.looks

pub returns-in-Some-clause-plays : goal.returns-in-Some-clause-plays
returns-in-Some-clause-plays g c = λ told slots has some ready.
    let past : length c.args.ids.now ≤ c.loop-id.id-index = omega (arith, c.loop-id-test.false) in
    played_all slots c.args.budb.now.database.listed c.args.name.now c.args.ids.now c.loop-id.id-index c.loop-id.base c.loop-id.rest.now c.in-Some.volume past (c.loop-id.invariant.played told slots has ready) c.in-Some.is

pub returns-in-Some-clause-only : goal.returns-in-Some-clause-only
returns-in-Some-clause-only g c = λ some there. tt

pub returns-in-Some-clause-looks : goal.returns-in-Some-clause-looks
returns-in-Some-clause-looks g c =
    let so_far = c.loop-id.invariant in
    looks_well g.P.Plant Failed c.args.plant.now c.loop-id.plant (Ok c.in-Some.volume) so_far.loads so_far.stays so_far.faults (λ is. absurd (cc))

pub returns-in-None-clause-plays : goal.returns-in-None-clause-plays
returns-in-None-clause-plays g c = λ told slots has some ready.
    let past : length c.args.ids.now ≤ c.loop-id.id-index = omega (arith, c.loop-id-test.false) in
    let none : c.loop-id.id-index ≡ 0 = (c.loop-id.invariant.played told slots has ready).made c.in-None.is in
    absurd (omega (arith, none, past, some))

pub returns-in-None-clause-only : goal.returns-in-None-clause-only
returns-in-None-clause-only g c = λ some there.
    let past : length c.args.ids.now ≤ c.loop-id.id-index = omega (arith, c.loop-id-test.false) in
    let none : c.loop-id.id-index ≡ 0 = c.loop-id.invariant.made c.in-None.is in
    absurd (omega (arith, none, past, some))

pub returns-in-None-clause-looks : goal.returns-in-None-clause-looks
returns-in-None-clause-looks g c =
    let so_far = c.loop-id.invariant in
    looks_well g.P.Plant Failed c.args.plant.now c.loop-id.plant (Err NoDump) so_far.loads so_far.stays so_far.faults (λ is. absurd (cc))

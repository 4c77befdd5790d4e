use Rattle.std.proofs.Common.{◌<◌, ◌≤◌, Ok, Err, length, refl, sym, ◌∙◌, subst, arith}
use Rattle.plant_effects.proofs.Joining.{nothing_quiet, quiet_both}
use Rattle.archive_model.specs.Holding.{called_frags}
use Rattle.restore_chain.specs.declared.fault.LookFault.TheVariants.{Failed}
use Rattle.restore_chain.specs.declared.play_volume.Turn.{Turn}
use Rattle.restore_chain.specs.declared.play_volume.Turn.TheVariants as turns
use Rattle.restore_chain.specs.Playing.{Turns}
use Rattle.tape_scan.proofs.Looking.{loads_none, loads_both, slots_later, looks_well, looks_after}
use Rattle.restore_chain.proofs.LoadLaws.{looks_ok}
use Rattle.restore_chain.proofs.VolumeLaws.{length_called, stood_none, stood_more, bad_turn, all_taken, held_at, held_some}
use Rattle.restore_chain.proofs.play_volume.play_frags.Goals as goal

pub loop-place-init : goal.loop-place-init
loop-place-init g c =
    let P = g.P.Plant in
    let old = c.args.plant.now in
    record {
      stood = λ told slots d has held. stood_none slots d _ c.args.joined.now;
      is_open = c.requires.is_open;
      loads = loads_none P old c.requires.sound (λ told survives x left. g.met.P.Plant.left old x told c.requires.sound survives left);
      stays = nothing_quiet P old;
      faults = refl;
    }

pub returns-in-None-clause-turns : goal.returns-in-None-clause-turns
returns-in-None-clause-turns g c = λ told slots d has held.
    let cs = called_frags c.args.id c.args.index 1 c.args.volume.now c.args.volume.now.frags in
    let lt : c.loop-place.place < length cs = omega (arith, c.loop-place-test.true, c.frag_count-count.ensures.count, length_called c.args.id c.args.index 1 c.args.volume.now c.args.volume.now.frags) in
    absurd (held_some slots d cs c.args.needs.now c.loop-place.place held lt (sym c.in-None.ensures))

pub returns-in-None-clause-looks : goal.returns-in-None-clause-looks
returns-in-None-clause-looks g c =
    let so_far = c.loop-place.invariant in
    let frag = c.frag_at-frag.result in
    looks_well g.P.Plant Failed c.args.plant.now c.loop-place.plant (Ok (turns.Bad (record { tape = frag.tape; place = frag.at })))
    so_far.loads so_far.stays so_far.faults (λ is. absurd (cc))

pub returns-in-Err-clause-looks : goal.returns-in-Err-clause-looks
returns-in-Err-clause-looks g c =
    let so_far = c.loop-place.invariant in
    looks_after g.P.Plant Failed c.args.plant.now c.loop-place.plant c.play_frag.new.plant (Err c.in-Err.fault) so_far.loads so_far.stays so_far.faults c.in-Err.ensures.looks

pub returns-in-Bad-clause-looks : goal.returns-in-Bad-clause-looks
returns-in-Bad-clause-looks g c =
    let so_far = c.loop-place.invariant in
    looks_ok g.P.Plant Failed c.in-Ok.turn _ c.args.plant.now c.play_frag.new.plant
    (looks_after g.P.Plant Failed c.args.plant.now c.loop-place.plant c.play_frag.new.plant (Ok c.in-Ok.turn) so_far.loads so_far.stays so_far.faults c.in-Ok.ensures.looks)

pub returns-in-Bad-clause-turns : goal.returns-in-Bad-clause-turns
returns-in-Bad-clause-turns g c = λ told slots d has held.
    let P = g.P.Plant in
    let so_far = c.loop-place.invariant in
    let cs = called_frags c.args.id c.args.index 1 c.args.volume.now c.args.volume.now.frags in
    let lt : c.loop-place.place < length cs = omega (arith, c.loop-place-test.true, c.frag_count-count.ensures.count, length_called c.args.id c.args.index 1 c.args.volume.now c.args.volume.now.frags) in
    let at = held_at slots d cs c.args.needs.now c.loop-place.place c.in-Some.need.now held lt (sym c.in-Some.ensures) in
    let turn = c.in-Ok.ensures.turns told slots d at.0 at.2 (slots_later P slots c.args.plant.now c.loop-place.plant so_far.loads so_far.stays told has) at.1 at.3 in
    bad_turn slots d cs c.loop-place.place at.0 c.loop-place.last c.in-Bad.site c.args.joined.now c.loop-place.joined c.play_frag.new.joined at.1 (so_far.stood told slots d has held)
    (subst (λ (t : Turn). Turns slots d at.0 c.loop-place.joined c.play_frag.new.joined t) c.in-Bad.is turn)

pub loop-place-preserved : goal.loop-place-preserved
loop-place-preserved g c =
    let P = g.P.Plant in
    let so_far = c.loop-place.invariant in
    let looks = c.in-Ok.ensures.looks in
    record {
      stood = λ told slots d has held.
          let cs = called_frags c.args.id c.args.index 1 c.args.volume.now c.args.volume.now.frags in
          let lt : c.loop-place.place < length cs = omega (arith, c.loop-place-test.true, c.frag_count-count.ensures.count, length_called c.args.id c.args.index 1 c.args.volume.now c.args.volume.now.frags) in
          let at = held_at slots d cs c.args.needs.now c.loop-place.place c.in-Some.need.now held lt (sym c.in-Some.ensures) in
          let turn = c.in-Ok.ensures.turns told slots d at.0 at.2 (slots_later P slots c.args.plant.now c.loop-place.plant so_far.loads so_far.stays told has) at.1 at.3 in
          stood_more slots d cs c.loop-place.place at.0 c.loop-place.last c.in-Whole.site c.args.joined.now c.loop-place.joined c.play_frag.new.joined at.1 (so_far.stood told slots d has held)
          (subst (λ (t : Turn). Turns slots d at.0 c.loop-place.joined c.play_frag.new.joined t) c.in-Whole.is turn);
      is_open = c.in-Ok.ensures.is_open;
      loads = loads_both P c.args.plant.now c.loop-place.plant c.play_frag.new.plant so_far.loads (looks.done (λ is. absurd (cc)));
      stays = quiet_both P c.args.plant.now c.loop-place.plant c.play_frag.new.plant so_far.stays looks.stays;
      faults = looks.cause.stays (λ is. absurd (cc)) ∙ so_far.faults;
    }

pub returns-clause-turns : goal.returns-clause-turns
returns-clause-turns g c = λ told slots d has held.
    let cs = called_frags c.args.id c.args.index 1 c.args.volume.now c.args.volume.now.frags in
    let past : length cs ≤ c.loop-place.place = omega (arith, c.loop-place-test.false, c.frag_count-count.ensures.count, length_called c.args.id c.args.index 1 c.args.volume.now c.args.volume.now.frags) in
    all_taken slots d cs c.loop-place.place c.loop-place.last c.args.joined.now c.loop-place.joined past (c.loop-place.invariant.stood told slots d has held)

pub returns-clause-looks : goal.returns-clause-looks
returns-clause-looks g c =
    let so_far = c.loop-place.invariant in
    looks_well g.P.Plant Failed c.args.plant.now c.loop-place.plant (Ok (turns.Whole c.loop-place.last)) so_far.loads so_far.stays so_far.faults (λ is. absurd (cc))

use Rattle.std.proofs.Common.{◌≡◌, Err, List, [], ◌∷◌, sym, ap, subst}
use Rattle.tape_text.specs.Wholes.{Lying}
use Rattle.archive_model.specs.Holding.{called_of, called_at, called_for}
use Rattle.archive_model.specs.Plays.{PlaysOver}
use Rattle.restore_chain.specs.declared.fault.RestoreFault.TheVariants as faults
use Rattle.restore_chain.specs.Playing.{AreHeld}
use Rattle.restore_chain.specs.Restoring.{PlaysFrags}
use Rattle.tape_scan.proofs.Looking.{looks_none}
use Rattle.restore_chain.proofs.PlacedLaws.{placed_is, placed_within, none_placed}
use Rattle.restore_chain.proofs.PlayLaws.{tells_so}
use Rattle.restore_chain.proofs.VolumeLaws.{there_at}
use Rattle.restore_chain.proofs.play_dump.play_dump.Goals as goal

pub returns-in-None-clause-plays : goal.returns-in-None-clause-plays
returns-in-None-clause-plays g c = λ told slots v has named held. absurd (none_placed c.args.name.now c.args.dump.now.volumes v (sym c.in-None.ensures) named)

pub returns-in-None-clause-only : goal.returns-in-None-clause-only
returns-in-None-clause-only g c = λ v named. absurd (none_placed c.args.name.now c.args.dump.now.volumes v (sym c.in-None.ensures) named)

pub returns-in-None-clause-looks : goal.returns-in-None-clause-looks
returns-in-None-clause-looks g c =
    looks_none g.P.Plant faults.Failed c.args.plant.now (Err (faults.MissingDump c.fields.result.now.id)) c.requires (λ told survives x left. g.met.P.Plant.left c.args.plant.now x told c.requires survives left) (λ is. absurd (cc))

pub play_placed-requires-clause-within : goal.play_placed-requires-clause-within
play_placed-requires-clause-within g c = placed_within c.args.name.now c.args.dump.now.volumes c.in-Some.place (sym c.in-Some.ensures)

pub returns-in-Some-clause-plays : goal.returns-in-Some-clause-plays
returns-in-Some-clause-plays g c = λ told slots v has named held.
    let d = c.args.dump.now in
    let name = c.args.name.now in
    let place = c.in-Some.place in
    let w = there_at d.volumes place (placed_within name d.volumes place (sym c.in-Some.ensures)) in
    let called : called_for d name ≡ called_of d.id (place, w.0) = ap (called_at d.id) (placed_is name d.volumes place w.0 (sym c.in-Some.ensures) w.1) in
    tells_so (PlaysFrags slots d (called_of d.id (place, w.0)) c.args.base) (PlaysOver slots name c.args.base (d ∷ [])) c.play_placed.result
    (λ outcome plays. subst (λ (l : List Lying). PlaysFrags slots d l c.args.base outcome) (sym called) plays)
    (c.play_placed.ensures.plays told slots w.0 has w.1 (subst (λ (l : List Lying). AreHeld slots d l c.args.needs.now) called held))

pub returns-in-Some-clause-only : goal.returns-in-Some-clause-only
returns-in-Some-clause-only g c = λ v named. c.play_placed.ensures.only

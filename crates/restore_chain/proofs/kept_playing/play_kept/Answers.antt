use Rattle.std.proofs.Common.{◌≡◌, List, [], ◌∷◌, sym, ap, subst}
use Rattle.tape_text.specs.Wholes.{Lying}
use Rattle.archive_model.specs.Holding.{called_of, called_at, called_for}
use Rattle.archive_model.specs.Plays.{PlaysOver}
use Rattle.restore_chain.specs.Restoring.{PlaysFrags}
use Rattle.restore_chain.specs.Keeping.{AllRead}
use Rattle.restore_chain.proofs.PlacedLaws.{placed_is, placed_within, none_placed}
use Rattle.restore_chain.proofs.PlayLaws.{tells_so}
use Rattle.restore_chain.proofs.VolumeLaws.{there_at}
use Rattle.restore_chain.proofs.kept_playing.play_kept.Goals as goal

pub returns-in-None-clause-plays : goal.returns-in-None-clause-plays
returns-in-None-clause-plays c = λ slots v named read. absurd (none_placed c.args.name.now c.args.dump.now.volumes v (sym c.in-None.ensures) named)

pub returns-in-None-clause-only : goal.returns-in-None-clause-only
returns-in-None-clause-only c = λ v named. absurd (none_placed c.args.name.now c.args.dump.now.volumes v (sym c.in-None.ensures) named)

pub play_at-requires : goal.play_at-requires
play_at-requires c = record { within = placed_within c.args.name.now c.args.dump.now.volumes c.in-Some.place (sym c.in-Some.ensures) }

pub returns-in-Some-clause-plays : goal.returns-in-Some-clause-plays
returns-in-Some-clause-plays c = λ slots v named read.
    let d = c.args.dump.now in
    let name = c.args.name.now in
    let place = c.in-Some.place in
    let w = there_at d.volumes place (placed_within name d.volumes place (sym c.in-Some.ensures)) in
    let called : called_for d name ≡ called_of d.id (place, w.0) = ap (called_at d.id) (placed_is name d.volumes place w.0 (sym c.in-Some.ensures) w.1) in
    tells_so (PlaysFrags slots d (called_of d.id (place, w.0)) c.args.base) (PlaysOver slots name c.args.base (d ∷ [])) c.play_at.result
    (λ outcome plays. subst (λ (l : List Lying). PlaysFrags slots d l c.args.base outcome) (sym called) plays)
    (c.play_at.ensures.plays slots w.0 w.1 (subst (λ (l : List Lying). AllRead slots d l c.args.all.now) called read))

pub returns-in-Some-clause-only : goal.returns-in-Some-clause-only
returns-in-Some-clause-only c = λ v named. c.play_at.ensures.only

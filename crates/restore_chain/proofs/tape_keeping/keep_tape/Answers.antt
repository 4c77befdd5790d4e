use Rattle.std.proofs.Common.{◌≡◌, List, Ok, sym, ap, subst}
use Rattle.std.specs.Prelude.{OnOk}
use Rattle.tape_text.specs.Wholes.{Lying}
use Rattle.archive_model.specs.Holding.{called_of, called_at, called_for}
use Rattle.restore_chain.specs.declared.fault.LookFault.TheVariants.{Failed}
use Rattle.restore_chain.specs.Keeping.{AllKept, IsBegun}
use Rattle.restore_chain.proofs.PlacedLaws.{placed_is, placed_within, none_placed}
use Rattle.restore_chain.proofs.VolumeLaws.{there_at}
use Rattle.restore_chain.proofs.ReadLaws.{read_none, read_well}
use Rattle.restore_chain.proofs.tape_keeping.keep_tape.Goals as goal

pub returns-in-None-clause-keeps : goal.returns-in-None-clause-keeps
returns-in-None-clause-keeps g c = λ told slots may v has held named begun. absurd (none_placed c.args.name.now c.args.dump.now.volumes v (sym c.in-None.ensures) named)

pub returns-in-None-clause-reads : goal.returns-in-None-clause-reads
returns-in-None-clause-reads g c =
    read_well g.P.Plant Failed c.args.plant.now c.args.plant.now _ (read_none g.P.Plant c.args.plant.now c.requires.sound (λ told survives image left. g.met.P.Plant.left c.args.plant.now image told c.requires.sound survives left)) (λ is. absurd (cc))

pub keep_placed-requires-clause-within : goal.keep_placed-requires-clause-within
keep_placed-requires-clause-within g c = placed_within c.args.name.now c.args.dump.now.volumes c.in-Some.place (sym c.in-Some.ensures)

pub returns-in-Some-clause-keeps : goal.returns-in-Some-clause-keeps
returns-in-Some-clause-keeps g c = λ told slots may v has held named begun.
    let d = c.args.dump.now in
    let name = c.args.name.now in
    let place = c.in-Some.place in
    let w = there_at d.volumes place (placed_within name d.volumes place (sym c.in-Some.ensures)) in
    let called : called_for d name ≡ called_of d.id (place, w.0) = ap (called_at d.id) (placed_is name d.volumes place w.0 (sym c.in-Some.ensures) w.1) in
    subst (λ (l : List Lying). OnOk c.keep_placed.result (AllKept slots d may l c.keep_placed.new.kept.items)) (sym called)
    (c.keep_placed.ensures.keeps told slots may w.0 has held w.1 (subst (λ (l : List Lying). IsBegun slots d may l c.args.kept.now.items) called begun))

pub returns-in-Some-clause-reads : goal.returns-in-Some-clause-reads
returns-in-Some-clause-reads g c = c.keep_placed.ensures.reads

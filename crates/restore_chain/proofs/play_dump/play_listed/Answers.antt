use Rattle.std.proofs.Common.{◌≡◌, Some, None, Err, [], ◌∷◌, sym, ◌∙◌, subst}
use Rattle.budb_changes.specs.declared.records.DumpRecordFields.{DumpRecordFields}
use Rattle.budb_fold.specs.Lookups.{record_of, volume_of}
use Rattle.archive_model.specs.Holding.{called_for}
use Rattle.archive_model.specs.Plays.{PlaysOver}
use Rattle.restore_chain.specs.declared.fault.RestoreFault.TheVariants as faults
use Rattle.restore_chain.specs.Playing.{AreHeld}
use Rattle.restore_chain.specs.Restoring.{Tells}
use Rattle.tape_scan.proofs.Looking.{looks_none}
use Rattle.restore_chain.proofs.VolumeLaws.{one_there}
use Rattle.restore_chain.proofs.play_dump.play_listed.Goals as goal

pub returns-in-None-clause-plays : goal.returns-in-None-clause-plays
returns-in-None-clause-plays g c = λ told slots d v has is named held. (let none : Some d ≡ None = sym is ∙ sym c.in-None.ensures in absurd (cc))

pub returns-in-None-clause-only : goal.returns-in-None-clause-only
returns-in-None-clause-only g c = λ d v is named. (let none : Some d ≡ None = sym is ∙ sym c.in-None.ensures in absurd (cc))

pub returns-in-None-clause-looks : goal.returns-in-None-clause-looks
returns-in-None-clause-looks g c =
    looks_none g.P.Plant faults.Failed c.args.plant.now (Err (faults.MissingDump c.args.id)) c.requires (λ told survives x left. g.met.P.Plant.left c.args.plant.now x told c.requires survives left) (λ is. absurd (cc))

pub returns-in-Some-clause-plays : goal.returns-in-Some-clause-plays
returns-in-Some-clause-plays g c = λ told slots d v has is named held.
    let name = c.args.name.now in
    let same : c.in-Some.dump.now ≡ d = one_there (record_of c.args.budb.now.database.listed c.args.id) c.in-Some.dump.now d (sym c.in-Some.ensures) is in
    subst (λ (x : DumpRecordFields). Tells (PlaysOver slots name c.args.base (x ∷ [])) c.play_dump.result) same
    (c.play_dump.ensures.plays told slots v has (subst (λ (x : DumpRecordFields). volume_of x name ≡ Some v) (sym same) named)
    (subst (λ (x : DumpRecordFields). AreHeld slots x (called_for x name) c.args.needs.now) (sym same) held))

pub returns-in-Some-clause-only : goal.returns-in-Some-clause-only
returns-in-Some-clause-only g c = λ d v is named.
    let name = c.args.name.now in
    let same : c.in-Some.dump.now ≡ d = one_there (record_of c.args.budb.now.database.listed c.args.id) c.in-Some.dump.now d (sym c.in-Some.ensures) is in
    c.play_dump.ensures.only v (subst (λ (x : DumpRecordFields). volume_of x name ≡ Some v) (sym same) named)

pub returns-in-Some-clause-looks : goal.returns-in-Some-clause-looks
returns-in-Some-clause-looks g c = c.play_dump.ensures.looks

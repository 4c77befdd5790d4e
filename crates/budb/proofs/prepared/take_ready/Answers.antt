use Rattle.std.proofs.Common.{◌≡◌, List, sym, ◌∙◌, ap, subst}
use Rattle.std.specs.Prelude.{Some}
use Rattle.budb_changes.specs.declared.change.Change.{Change}
use Rattle.budb_changes.specs.Bytes.{encoded}
use Rattle.budb_changes.specs.Forms.{AreChanges}
use Rattle.budb_fold.specs.Database.{after_from}
use Rattle.budb_index.specs.Relistings.{relistings_of}
use Rattle.budb.proofs.Indexing.{taken}
use Rattle.budb.proofs.prepared.take_ready.Goals as goal

pub returns-clause-form : goal.returns-clause-form
returns-clause-form c =
    let is : c.args.prepared.now ≡ Some c.unwrap.result = sym c.take.ensures.value ∙ c.unwrap.ensures in
    let ready = taken c.args.database.now c.args.index.now c.args.prepared.now c.unwrap.result is c.requires.ready in
    subst AreChanges ready.0 ready.1.form

pub returns-clause-bytes : goal.returns-clause-bytes
returns-clause-bytes c =
    let is : c.args.prepared.now ≡ Some c.unwrap.result = sym c.take.ensures.value ∙ c.unwrap.ensures in
    let ready = taken c.args.database.now c.args.index.now c.args.prepared.now c.unwrap.result is c.requires.ready in
    ready.1.bytes ∙ ap encoded ready.0

pub returns-clause-database : goal.returns-clause-database
returns-clause-database c =
    let is : c.args.prepared.now ≡ Some c.unwrap.result = sym c.take.ensures.value ∙ c.unwrap.ensures in
    let ready = taken c.args.database.now c.args.index.now c.args.prepared.now c.unwrap.result is c.requires.ready in
    ready.1.database ∙ ap (λ (m : List Change). after_from m c.args.database.now) ready.0

pub returns-clause-coming : goal.returns-clause-coming
returns-clause-coming c =
    let is : c.args.prepared.now ≡ Some c.unwrap.result = sym c.take.ensures.value ∙ c.unwrap.ensures in
    let ready = taken c.args.database.now c.args.index.now c.args.prepared.now c.unwrap.result is c.requires.ready in
    ready.1.coming ∙ ap relistings_of ready.0

pub returns-clause-room : goal.returns-clause-room
returns-clause-room c =
    let is : c.args.prepared.now ≡ Some c.unwrap.result = sym c.take.ensures.value ∙ c.unwrap.ensures in
    let ready = taken c.args.database.now c.args.index.now c.args.prepared.now c.unwrap.result is c.requires.ready in
    ready.1.room

pub returns-clause-changes : goal.returns-clause-changes
returns-clause-changes c =
    let is : c.args.prepared.now ≡ Some c.unwrap.result = sym c.take.ensures.value ∙ c.unwrap.ensures in
    (taken c.args.database.now c.args.index.now c.args.prepared.now c.unwrap.result is c.requires.ready).0

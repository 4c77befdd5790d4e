-- An index beside its database.
use Rattle.std.proofs.Common.{◌≡◌, List, [], sym, ◌∙◌, ap, subst}
use Rattle.std.specs.Prelude.{Option, Some, None, IfSome}
use Rattle.std.specs.Option.{unwrap_or}
use Rattle.budb_changes.specs.declared.records.DumpRecordFields.{DumpRecordFields}
use Rattle.budb_changes.specs.declared.change.Change.{Change}
use Rattle.budb_fold.specs.declared.database.Database.{Database}
use Rattle.budb_fold.specs.Database.{after_from}
use Rattle.budb_index.specs.declared.relistings.Relisting.{Relisting}
use Rattle.budb_index.specs.Indexed.{Indexed}
use Rattle.budb_index.specs.Relistings.{relistings_of, relisted_from}
use Rattle.budb_index.proofs.Listing.{listed_same}
use Rattle.budb.specs.declared.prepared.Prepared.{Prepared}
use Rattle.budb.specs.Views.{changes_of, IsPrepared}

-- relistings of changes were made of an index, and the changes of its database: both list the same again
pub lists_the_same : (changes : List Change) (coming : List Relisting) (old new : Database) (before now : List DumpRecordFields) → before ≡ old.listed → coming ≡ relistings_of changes → new ≡ after_from changes old → now ≡ relisted_from coming before → now ≡ new.listed
lists_the_same changes coming old new before now same is made relisted =
    relisted
    ∙ ap (λ (l : List Relisting). relisted_from l before) is
    ∙ ap (relisted_from (relistings_of changes)) same
    ∙ sym (listed_same changes old)
    ∙ sym (ap (λ (db : Database). db.listed) made)

-- where nothing is prepared, nothing has to be ready
pub none_ready : (db : Database) (index : Indexed) (prepared : Option Prepared) → changes_of prepared ≡ None → IfSome prepared (IsPrepared db index)
none_ready db index None nothing = tt
none_ready db index (Some one) nothing = absurd (let e : Some one.changes ≡ None = nothing in cc)

-- what was prepared and is taken out is ready, and has the changes that were prepared
pub taken : (db : Database) (index : Indexed) (prepared : Option Prepared) (one : Prepared) → prepared ≡ Some one → IfSome prepared (IsPrepared db index) → (one.changes ≡ unwrap_or (changes_of prepared) []) × IsPrepared db index one
taken db index prepared one is ready =
    (sym (ap (λ (p : Option Prepared). unwrap_or (changes_of p) []) is), subst (λ (p : Option Prepared). IfSome p (IsPrepared db index)) is ready)

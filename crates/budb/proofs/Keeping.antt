-- A log that grows by committed changes, and its database.
use Rattle.std.proofs.Common.{◌≡◌, ℕ, List, [], ◌∷◌, ◌++◌, sym, ◌∙◌, ap, subst}
use Rattle.std.specs.List.{flat_map}
use Rattle.std.proofs.lemmas.Grind.{flat_map-append}
use Rattle.std.proofs.lemmas.List.Elements.{All-append}
use Rattle.plant_core.specs.Crashes.{State, Alike}
use Rattle.plant_core.specs.Effects.{commits, replaces, come}
use Rattle.budb_changes.specs.declared.change.Change.{Change}
use Rattle.budb_changes.specs.Bytes.{encoded_change, encoded}
use Rattle.budb_changes.specs.Forms.{IsChange, AreChanges}
use Rattle.budb_fold.specs.declared.database.Database.{Database}
use Rattle.budb_fold.specs.Database.{after, after_from, blank}
use Rattle.budb_fold.specs.Checkpoints.{checkpoint}
use Rattle.budb_fold.proofs.Folds.{fold_more}
use Rattle.budb_fold.proofs.FoldKeeps.{kept_after}
use Rattle.budb_fold.proofs.CheckpointLaws.{checkpoint_folds}
use Rattle.budb.specs.Views.{BudbView}
use Rattle.budb.specs.Kept.{Keeps}

pub encoded_more : (log more : List Change) → encoded (log ++ more) ≡ encoded log ++ encoded more
unfolding encoded
encoded_more log more = flat_map-append encoded_change log more

-- changes were appended and made
pub keeps_more : (log more : List Change) (bytes : List ℕ) (old new : State) (before now : BudbView) → Keeps log old.log before → AreChanges more → bytes ≡ encoded more → Alike (come (commits bytes ∷ []) old) new → now.database ≡ after_from more before.database → Keeps (log ++ more) new.log now
keeps_more log more bytes old new before now keeps form is alike made = record {
  form = All-append IsChange log more keeps.form form;
  is = alike.log ∙ ap (λ (l : List ℕ). l ++ bytes) keeps.is ∙ ap (λ (l : List ℕ). encoded log ++ l) is ∙ sym (encoded_more log more);
  fold = made ∙ ap (after_from more) keeps.fold ∙ sym (fold_more log more blank);
}

-- the same database keeps the same log
pub keeps_same : (log : List Change) (bytes : List ℕ) (before now : BudbView) → now.database ≡ before.database → Keeps log bytes before → Keeps log bytes now
keeps_same log bytes before now same keeps = record { form = keeps.form; is = keeps.is; fold = same ∙ keeps.fold }

-- the log was made short, and the database is the same
pub keeps_checkpoint : (log : List Change) (bytes : List ℕ) (old new : State) (before now : BudbView) → Keeps log old.log before → AreChanges (checkpoint before.database) → bytes ≡ encoded (checkpoint before.database) → Alike (come (replaces bytes ∷ []) old) new → now ≡ before → Keeps (checkpoint (after log)) new.log now
keeps_checkpoint log bytes old new before now keeps form is alike same =
    subst (λ (db : Database). Keeps (checkpoint db) new.log now) keeps.fold record {
      form = form;
      is = alike.log ∙ is;
      fold = ap (λ (b : BudbView). b.database) same ∙ keeps.fold ∙ sym (checkpoint_folds (after log) (kept_after log)) ∙ ap (λ (db : Database). after (checkpoint db)) (sym keeps.fold);
    }

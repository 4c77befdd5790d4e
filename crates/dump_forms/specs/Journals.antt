-- THE JOURNAL AFTER EFFECTS, as the changes that it has.
use Rattle.std.specs.Prelude.{◌≡◌, ℕ, List, [], ◌∷◌, ◌++◌}
use Rattle.plant_core.specs.Effects.{Effect, commits, replaces, tells, puts, settles, cuts}
use Rattle.budb_changes.specs.declared.change.Change.{Change}
use Rattle.budb_changes.specs.Bytes.{encoded}
use Rattle.budb_changes.specs.Forms.{AreChanges}

-- Some changes have these bytes: they stand behind the first ones, or in their place.
pub record AreBytesOf (changes : List Change) (bytes : List ℕ) : Type 0 where
  pub form : AreChanges changes
  pub is : bytes ≡ encoded changes

-- A journal of these changes has those changes after these effects: each commit puts its own behind them, and a checkpoint puts its list
-- in their place. No other effect changes the journal.
abbrev pub IsJournalAfter : List Change → List Effect → List Change → Type 0
IsJournalAfter log [] new = new ≡ log
IsJournalAfter log (commits bytes ∷ es) new = (changes : List Change) × AreBytesOf changes bytes × IsJournalAfter (log ++ changes) es new
IsJournalAfter log (replaces bytes ∷ es) new = (changes : List Change) × AreBytesOf changes bytes × IsJournalAfter changes es new
IsJournalAfter log (tells text ∷ es) new = IsJournalAfter log es new
IsJournalAfter log (puts slot r ∷ es) new = IsJournalAfter log es new
IsJournalAfter log (settles slot ∷ es) new = IsJournalAfter log es new
IsJournalAfter log (cuts slot count ∷ es) new = IsJournalAfter log es new

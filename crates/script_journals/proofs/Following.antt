-- Journals after effects that stand behind one another.
use Rattle.std.proofs.Common.{◌≡◌, ℕ, List, [], ◌∷◌, ◌++◌, refl, sym, ◌∙◌, ap, ap₂, subst}
use Rattle.std.proofs.lemmas.List.Elements.{All-append}
use Rattle.plant_core.specs.Crashes.{State}
use Rattle.plant_core.specs.Effects.{Effect, commits, replaces, tells, puts, settles, cuts, come}
use Rattle.budb.proofs.Keeping.{encoded_more}
use Rattle.budb_changes.specs.declared.change.Change.{Change}
use Rattle.budb_changes.specs.Bytes.{encoded}
use Rattle.budb_changes.specs.Forms.{IsChange, AreChanges}
use Rattle.dump_forms.specs.Journals.{AreBytesOf, IsJournalAfter}

pub own_bytes : (changes : List Change) → AreChanges changes → AreBytesOf changes (encoded changes)
own_bytes changes form = record { form = form; is = refl }

-- the journal after the first effects
pub journal_front : (es fs : List Effect) (log new : List Change) → IsJournalAfter log (es ++ fs) new → (mid : List Change) × IsJournalAfter log es mid
journal_front [] fs log new all = (log, refl)
journal_front (commits bytes ∷ es) fs log new (changes, are, rest) = let front = journal_front es fs (log ++ changes) new rest in (front.0, (changes, are, front.1))
journal_front (replaces bytes ∷ es) fs log new (changes, are, rest) = let front = journal_front es fs changes new rest in (front.0, (changes, are, front.1))
journal_front (tells text ∷ es) fs log new all = journal_front es fs log new all
journal_front (puts k r ∷ es) fs log new all = journal_front es fs log new all
journal_front (settles k ∷ es) fs log new all = journal_front es fs log new all
journal_front (cuts k n ∷ es) fs log new all = journal_front es fs log new all

-- it is a list of changes
pub journal_form : (es : List Effect) (log new : List Change) → AreChanges log → IsJournalAfter log es new → AreChanges new
journal_form [] log new form after = subst AreChanges (sym after) form
journal_form (commits bytes ∷ es) log new form (changes, are, rest) = journal_form es (log ++ changes) new (All-append IsChange log changes form are.form) rest
journal_form (replaces bytes ∷ es) log new form (changes, are, rest) = journal_form es changes new are.form rest
journal_form (tells text ∷ es) log new form after = journal_form es log new form after
journal_form (puts k r ∷ es) log new form after = journal_form es log new form after
journal_form (settles k ∷ es) log new form after = journal_form es log new form after
journal_form (cuts k n ∷ es) log new form after = journal_form es log new form after

-- and its bytes are those of the state
pub journal_bytes : (es : List Effect) (s : State) (log new : List Change) → s.log ≡ encoded log → IsJournalAfter log es new → (come es s).log ≡ encoded new
journal_bytes [] s log new is after = is ∙ ap encoded (sym after)
journal_bytes (commits bytes ∷ es) s log new is (changes, are, rest) =
    journal_bytes es _ (log ++ changes) new (ap₂ (λ (a b : List ℕ). a ++ b) is are.is ∙ sym (encoded_more log changes)) rest
journal_bytes (replaces bytes ∷ es) s log new is (changes, are, rest) = journal_bytes es _ changes new are.is rest
journal_bytes (tells text ∷ es) s log new is after = journal_bytes es _ log new is after
journal_bytes (puts k r ∷ es) s log new is after = journal_bytes es _ log new is after
journal_bytes (settles k ∷ es) s log new is after = journal_bytes es _ log new is after
journal_bytes (cuts k n ∷ es) s log new is after = journal_bytes es _ log new is after

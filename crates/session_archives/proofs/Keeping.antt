-- EFFECTS THAT KEEP AN ARCHIVE, one after the other.
use Rattle.std.proofs.Common.{◌≡◌, ℕ, zero, suc, Bool, List, [], ◌∷◌, ◌++◌, take, refl, sym, subst}
use Rattle.std.specs.Prelude.{Result}
use Rattle.vnode_model.specs.declared.volumes.VolumeFields.{VolumeFields}
use Rattle.plant_core.specs.Records.{Record}
use Rattle.plant_core.specs.Crashes.{State}
use Rattle.plant_core.specs.Effects.{Effect, commits, replaces, tells, puts, settles, cuts, comes, come}
use Rattle.tape_answers.specs.Slots.{slots_of}
use Rattle.budb_changes.specs.declared.records.DumpRecordFields.{DumpRecordFields}
use Rattle.budb_changes.specs.declared.change.Change.{Change}
use Rattle.budb_fold.specs.Database.{after}
use Rattle.archive_model.specs.Archives.{Archive, Refusal}
use Rattle.archive_model.specs.Settled.{HoldsSettled}
use Rattle.archive_model.specs.Turns.{StillHeld}
use Rattle.dump_forms.specs.Journals.{AreBytesOf, IsJournalAfter}

module _ (n : ℕ) (present : ℕ → Bool) (contents : ℕ → List ℕ → Result VolumeFields Refusal) where
  abbrev pub archive_at : List Change → (ℕ → List Record) → Archive
  archive_at log tape = record { log = log; slots = slots_of n present tape; contents = contents }

  abbrev pub HoldsAt : List Change → State → Type 0
  HoldsAt log s = (records : List DumpRecordFields) × HoldsSettled s (archive_at log s.tape) records

  -- Before the first of these effects and after each the state holds the archive of its tapes and of the changes so far. A cut leaves each
  -- listed dump held where it was.
  abbrev pub Keeps : List Change → State → List Effect → List Change → Type 0
  Keeps log s [] new = HoldsAt log s × (new ≡ log)
  Keeps log s (commits bytes ∷ es) new = HoldsAt log s × ((changes : List Change) × AreBytesOf changes bytes × Keeps (log ++ changes) (comes (commits bytes) s) es new)
  Keeps log s (replaces bytes ∷ es) new = HoldsAt log s × ((changes : List Change) × AreBytesOf changes bytes × Keeps changes (comes (replaces bytes) s) es new)
  Keeps log s (tells text ∷ es) new = HoldsAt log s × Keeps log (comes (tells text) s) es new
  Keeps log s (puts slot r ∷ es) new = HoldsAt log s × Keeps log (comes (puts slot r) s) es new
  Keeps log s (settles slot ∷ es) new = HoldsAt log s × Keeps log (comes (settles slot) s) es new
  Keeps log s (cuts slot count ∷ es) new =
      HoldsAt log s × (StillHeld (after log).listed (slots_of n present s.tape) (slots_of n present (comes (cuts slot count) s).tape) × Keeps log (comes (cuts slot count) s) es new)

  pub keeps_then : (es fs : List Effect) (s : State) (log mid new : List Change) → Keeps log s es mid → Keeps mid (come es s) fs new → Keeps log s (es ++ fs) new
  keeps_then [] fs s log mid new first second = subst (λ (l : List Change). Keeps l s fs new) first.1 second
  keeps_then (commits bytes ∷ es) fs s log mid new (held, (changes, are, first)) second = (held, (changes, are, keeps_then es fs (comes (commits bytes) s) (log ++ changes) mid new first second))
  keeps_then (replaces bytes ∷ es) fs s log mid new (held, (changes, are, first)) second = (held, (changes, are, keeps_then es fs (comes (replaces bytes) s) changes mid new first second))
  keeps_then (tells text ∷ es) fs s log mid new (held, first) second = (held, keeps_then es fs (comes (tells text) s) log mid new first second)
  keeps_then (puts k r ∷ es) fs s log mid new (held, first) second = (held, keeps_then es fs (comes (puts k r) s) log mid new first second)
  keeps_then (settles k ∷ es) fs s log mid new (held, first) second = (held, keeps_then es fs (comes (settles k) s) log mid new first second)
  keeps_then (cuts k count ∷ es) fs s log mid new (held, (still, first)) second = (held, (still, keeps_then es fs (comes (cuts k count) s) log mid new first second))

  pub keeps_first : (es : List Effect) (s : State) (log new : List Change) → Keeps log s es new → HoldsAt log s
  keeps_first [] s log new keeps = keeps.0
  keeps_first (commits bytes ∷ es) s log new keeps = keeps.0
  keeps_first (replaces bytes ∷ es) s log new keeps = keeps.0
  keeps_first (tells text ∷ es) s log new keeps = keeps.0
  keeps_first (puts k r ∷ es) s log new keeps = keeps.0
  keeps_first (settles k ∷ es) s log new keeps = keeps.0
  keeps_first (cuts k count ∷ es) s log new keeps = keeps.0

  pub keeps_last : (es : List Effect) (s : State) (log new : List Change) → Keeps log s es new → HoldsAt new (come es s)
  keeps_last [] s log new (held, same) = subst (λ (l : List Change). HoldsAt l s) (sym same) held
  keeps_last (commits bytes ∷ es) s log new (held, (changes, are, rest)) = keeps_last es (comes (commits bytes) s) (log ++ changes) new rest
  keeps_last (replaces bytes ∷ es) s log new (held, (changes, are, rest)) = keeps_last es (comes (replaces bytes) s) changes new rest
  keeps_last (tells text ∷ es) s log new (held, rest) = keeps_last es (comes (tells text) s) log new rest
  keeps_last (puts k r ∷ es) s log new (held, rest) = keeps_last es (comes (puts k r) s) log new rest
  keeps_last (settles k ∷ es) s log new (held, rest) = keeps_last es (comes (settles k) s) log new rest
  keeps_last (cuts k count ∷ es) s log new (held, (still, rest)) = keeps_last es (comes (cuts k count) s) log new rest

  -- after so many of the effects
  abbrev pub KeptAfter : List Change → State → List Effect → Type 0
  KeptAfter log s es = (changes : List Change) × IsJournalAfter log es changes × HoldsAt changes (come es s)

  pub kept_after : (count : ℕ) (es : List Effect) (s : State) (log new : List Change) → Keeps log s es new → KeptAfter log s (take count es)
  kept_after zero es s log new keeps = (log, refl, keeps_first es s log new keeps)
  kept_after (suc count) [] s log new keeps = (log, refl, keeps.0)
  kept_after (suc count) (commits bytes ∷ es) s log new (held, (changes, are, rest)) = (let next = kept_after count es (comes (commits bytes) s) (log ++ changes) new rest in (next.0, (changes, are, next.1), next.2))
  kept_after (suc count) (replaces bytes ∷ es) s log new (held, (changes, are, rest)) = (let next = kept_after count es (comes (replaces bytes) s) changes new rest in (next.0, (changes, are, next.1), next.2))
  kept_after (suc count) (tells text ∷ es) s log new (held, rest) = kept_after count es (comes (tells text) s) log new rest
  kept_after (suc count) (puts k r ∷ es) s log new (held, rest) = kept_after count es (comes (puts k r) s) log new rest
  kept_after (suc count) (settles k ∷ es) s log new (held, rest) = kept_after count es (comes (settles k) s) log new rest
  kept_after (suc count) (cuts k m ∷ es) s log new (held, (still, rest)) = kept_after count es (comes (cuts k m) s) log new rest

  -- the journal of all of them
  pub keeps_journal : (es : List Effect) (s : State) (log new : List Change) → Keeps log s es new → IsJournalAfter log es new
  keeps_journal [] s log new keeps = keeps.1
  keeps_journal (commits bytes ∷ es) s log new (held, (changes, are, rest)) = (changes, are, keeps_journal es (comes (commits bytes) s) (log ++ changes) new rest)
  keeps_journal (replaces bytes ∷ es) s log new (held, (changes, are, rest)) = (changes, are, keeps_journal es (comes (replaces bytes) s) changes new rest)
  keeps_journal (tells text ∷ es) s log new (held, rest) = keeps_journal es (comes (tells text) s) log new rest
  keeps_journal (puts k r ∷ es) s log new (held, rest) = keeps_journal es (comes (puts k r) s) log new rest
  keeps_journal (settles k ∷ es) s log new (held, rest) = keeps_journal es (comes (settles k) s) log new rest
  keeps_journal (cuts k count ∷ es) s log new (held, (still, rest)) = keeps_journal es (comes (cuts k count) s) log new rest

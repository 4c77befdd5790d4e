-- What is listed behind a commit, and ids that no dump has.
use Rattle.std.proofs.Common.{◌≡◌, ◌⊎◌, ℕ, ◌<◌, true, List, [], ◌∷◌, ◌++◌, map, ap, ◌∙◌, arith, inl, inr}
use Rattle.std.specs.Prelude.{Contains}
use Rattle.budb_changes.specs.declared.records.DumpRecordFields.{DumpRecordFields}
use Rattle.budb_changes.specs.declared.change.Change.{Change}
use Rattle.budb_changes.specs.declared.change.Change.TheVariants.{Take, Done, Forget, Found}
use Rattle.budb_fold.specs.declared.database.Database.{Database}
use Rattle.budb_fold.specs.Database.{is_initial, without, fits_record, after_change, after_from, after, blank}
use Rattle.plant_core.specs.Stock.{Stock}
use Rattle.archive_model.specs.Archives.{Archive, Holds}
use Rattle.archive_model.specs.Turns.{AllUntouched, is_one_of}
use Rattle.archive_model.proofs.LogLaws.{fold_more, untouched_all, taken, done, found}
use Rattle.archive_model.proofs.ListedLaws.{parents_below}
use Rattle.archive_model.proofs.ForgetLaws.{forgets_all}

behind : (log cs : List Change) → (after (log ++ cs)).listed ≡ (after_from cs (after log)).listed
behind log cs = ap (λ (db : Database). db.listed) (fold_more log cs blank)

pub untouched_behind : (log cs : List Change) → AllUntouched cs → (after (log ++ cs)).listed ≡ (after log).listed
untouched_behind log cs none = behind log cs ∙ untouched_all cs (after log) none

pub taken_behind : (log cs : List Change) (initial : ℕ) → AllUntouched cs → (after (log ++ (cs ++ Take initial ∷ []))).listed ≡ without (is_initial initial) (after log).listed
taken_behind log cs initial none =
    behind log (cs ++ Take initial ∷ []) ∙ ap (λ (db : Database). db.listed) (fold_more cs (Take initial ∷ []) (after log)) ∙ taken initial (after_from cs (after log)) ∙ ap (without (is_initial initial)) (untouched_all cs (after log) none)

pub forgotten_behind : (log : List Change) (ids : List ℕ) → (after (log ++ map Forget ids)).listed ≡ without (is_one_of ids) (after log).listed
forgotten_behind log ids = behind log (map Forget ids) ∙ forgets_all ids (after log)

pub recorded_behind : (log : List Change) (c : Change) (d : DumpRecordFields) → (c ≡ Done d) ⊎ (c ≡ Found d) → fits_record d (after log).listed ≡ true → (after (log ++ c ∷ [])).listed ≡ (after log).listed ++ d ∷ []
recorded_behind log c d (inl is_done) fit = behind log (c ∷ []) ∙ ap (λ (x : Change). (after_change x (after log)).listed) is_done ∙ done d (after log) fit
recorded_behind log c d (inr is_found) fit = behind log (c ∷ []) ∙ ap (λ (x : Change). (after_change x (after log)).listed) is_found ∙ found d (after log) fit

-- each dump's parent is below it
dumps_above : (stock : Stock) (a : Archive) (records : List DumpRecordFields) → Holds stock a records → (e : DumpRecordFields) → Contains records e → e.parent < e.id
dumps_above stock a records held e there = elim (held.kept.dumps.sound e there) [
  | inl is_listed ↦ parents_below a.log e is_listed
  | inr un ↦ un.above
]

pub above_all : (stock : Stock) (a : Archive) (records : List DumpRecordFields) (id : ℕ) → Holds stock a records → ((e : DumpRecordFields) → Contains records e → e.id < id) → (e : DumpRecordFields) → Contains records e → (e.id ≡ id → ⊥) × (e.parent ≡ id → ⊥)
above_all stock a records id held below e there = ((λ same. absurd (omega (arith, below e there, same))), (λ same. absurd (omega (arith, below e there, dumps_above stock a records held e there, same))))

-- How an opening is refused, and which database it opens.
use Rattle.std.proofs.Common.{◌≡◌, ℕ, List, refl, sym, ◌∙◌, ap, subst}
use Rattle.std.specs.Prelude.{Result, Ok, Err, Some}
use Rattle.crash_moments.specs.Moments.{HasCauseAt}
use Rattle.plant_core.specs.Stock.{Stock}
use Rattle.budb_changes.specs.declared.records.DumpRecordFields.{DumpRecordFields}
use Rattle.budb_changes.specs.declared.change.Change.{Change}
use Rattle.budb_changes.specs.Bytes.{encoded}
use Rattle.budb_changes.specs.Forms.{IsLog}
use Rattle.budb_changes.proofs.Logs.{same_changes}
use Rattle.budb_fold.specs.Database.{after}
use Rattle.budb.specs.Kept.{Keeps}
use Rattle.archive_model.specs.Archives.{Archive, Holds}
use Rattle.budb.specs.Views.{BudbView}
use Rattle.backup_session.specs.declared.stops.OpenStop.{OpenStop}
use Rattle.backup_session.specs.declared.stops.OpenStop.TheVariants as stops
use Rattle.backup_session.specs.Opening.{OpensDatabase, UnlessFailed, OpensOrLacksMemory}

-- what holds at each answer holds unless the plant failed
pub held_anyway : {T : Type 0} (r : Result T OpenStop) (X : Type 0) → X → UnlessFailed r X
held_anyway (Ok x) X holds = holds
held_anyway (Err stops.Plant) X holds = tt
held_anyway (Err stops.Cell) X holds = holds
held_anyway (Err (stops.BadLog at)) X holds = holds
held_anyway (Err stops.Memory) X holds = holds

stop_is : {T : Type 0} (e f : OpenStop) → (let r : Result T OpenStop = Err e in r) ≡ Err f → e ≡ f
stop_is e f is = cc

-- a stop that is handed on has its cause
pub cause_handed_on : {T U : Type 0} (before now : ℕ) (e : OpenStop) → HasCauseAt stops.Cell before now (let r : Result T OpenStop = Err e in r) → HasCauseAt stops.Cell before now (let r : Result U OpenStop = Err e in r)
cause_handed_on before now e cause =
    record { later = cause.later; failed = λ is. cause.failed (ap Err (stop_is e stops.Cell is)); stays = λ well. cause.stays (λ is. well (ap Err (stop_is e stops.Cell is))) }

-- a list of changes is refused at no place
pub no_bad_log : (bytes : List ℕ) (r : Result BudbView OpenStop) → OpensDatabase bytes r → IsLog bytes → (at : ℕ) → r ≡ Err (stops.BadLog at) → ⊥
no_bad_log bytes r opens log at is = (subst (λ (x : Result BudbView OpenStop). OpensDatabase bytes x) is opens).not_whole log

-- a stop that is handed on, and that none of the other causes has, is that of memory
pub for_memory : {T U : Type 0} (e : OpenStop) (r : Result U OpenStop) → r ≡ Err e → ((let s : Result T OpenStop = Err e in s) ≡ Err stops.Plant → ⊥) → ((let s : Result T OpenStop = Err e in s) ≡ Err stops.Cell → ⊥)
    → ((at : ℕ) → (let s : Result T OpenStop = Err e in s) ≡ Err (stops.BadLog at) → ⊥) → OpensOrLacksMemory r
for_memory stops.Plant r is plant cell log = absurd (plant refl)
for_memory stops.Cell r is plant cell log = absurd (cell refl)
for_memory (stops.BadLog at) r is plant cell log = absurd (log at refl)
for_memory stops.Memory r is plant cell log = rw is tt

-- ---- the archive that the plant holds

bytes_are : (x y : List ℕ) → Some x ≡ Some y → x ≡ y
bytes_are x y same = cc

-- its database is that of the archive's log
pub archive_opened : (log : List Change) (bytes : List ℕ) (budb : BudbView) (stock : Stock) (a : Archive) (records : List DumpRecordFields) → Keeps log bytes budb → stock.log ≡ Some bytes → Holds stock a records → budb.database ≡ after a.log
archive_opened log bytes budb stock a records keeps is held =
    let same : log ≡ a.log = same_changes log a.log keeps.form held.changes (sym keeps.is ∙ bytes_are bytes (encoded a.log) (sym is ∙ held.log)) in
    keeps.fold ∙ ap after same

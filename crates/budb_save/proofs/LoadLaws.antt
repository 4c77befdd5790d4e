-- What is read of a save, as changes.
use Rattle.std.proofs.Common.{◌≡◌, ◌≢◌, ℕ, ◌+◌, ◌-◌, ◌/◌, ◌<◌, ◌≤◌, List, [], ◌∷◌, ◌++◌, length, inl, inr, refl, sym, ◌∙◌, ap, subst, arith}
use Rattle.std.specs.Prelude.{Option, Some, None, Result, Ok, Err, IfOk, IfErr, OnOk, OnErr, slice_get}
use Rattle.std.proofs.lemmas.Bool.{cases_lt}
use Rattle.bk_text.specs.Places.{FailsAt}
use Rattle.crash_moments.specs.Moments.{HasCauseAt}
use Rattle.plant_core.specs.declared.plant.Plant.{Ghosts as Plant}
use Rattle.plant_core.specs.Effects.{commits, putting_away}
use Rattle.plant_core.specs.Records.{Record}
use Rattle.plant_effects.specs.Runs.{state_of, loaded_of, Done, Leaves}
use Rattle.tape_config.specs.declared.port.PortFields.{PortFields}
use Rattle.tape_scan.specs.Slots.{Slot}
use Rattle.tape_scan.specs.Looking.{HasSlots}
use Rattle.budb_save.specs.declared.choosing.Picked.{Picked}
use Rattle.budb_save.specs.declared.fault.LoadFault.{LoadFault}
use Rattle.budb_save.specs.declared.fault.LoadFault.TheVariants.{InUse, NoSave, BadSave, LogFull, Failed, Memory}
use Rattle.budb_save.specs.Saving.{saved_bytes, load_pick}
use Rattle.budb_changes.specs.declared.change.Change.{Change}
use Rattle.budb_changes.specs.Bytes.{encoded}
use Rattle.budb_changes.specs.Forms.{AreChanges, IsLog}
use Rattle.budb_changes.proofs.Logs.{same_changes}
use Rattle.budb_fold.specs.declared.database.Database.{Database}
use Rattle.budb_fold.specs.Database.{after, after_from}
use Rattle.budb_fold.specs.Checkpoints.{checkpoint}
use Rattle.budb_fold.proofs.FoldKeeps.{kept_after}
use Rattle.budb.proofs.FoldForms.{forms_after, checkpoint_form}
use Rattle.budb.specs.Views.{BudbView}
use Rattle.budb.specs.Kept.{Keeps}
use Rattle.plant_effects.proofs.Joining.{done_both}
use Rattle.tape_scan.proofs.Looking.{settling_keeps_log, a_load_loads}
use Rattle.budb_save.specs.Back.{IsUnused, IsBack}
use Rattle.budb_save.specs.Saves.{HasSave}
use Rattle.budb_save.specs.Loading.{SavesChanges, IsBadSave, ReadsPicked, RefusesBack, LoadsBack, FindsChanges, CommitsBack}
use Rattle.budb_save.proofs.BackLaws.{comes_back}
use Rattle.budb_save.proofs.StandLaws.{one_save}
use Rattle.budb_save.proofs.PlaceLaws.{block_within}

-- ---- a database that isn't in use

pub none_left : {X : Type 0} (xs : List X) → length xs ≡ 0 → xs ≡ []
none_left [] none = λ i. []
none_left (x ∷ xs) none = absurd (omega (arith, none))

pub unused_is : (db : Database) → length db.sets ≡ 0 → length db.levels ≡ 0 → length db.listed ≡ 0 → IsUnused db
unused_is db sets levels listed = record { sets = none_left db.sets sets; levels = none_left db.levels levels; listed = none_left db.listed listed }

-- ---- the last record

pub some_first : (tape : List Record) (r : Record) → slice_get tape 0 ≡ Some r → 1 ≤ length tape
some_first [] r at = absurd (cc)
some_first (x ∷ tape) r at = omega arith

pub last_is : (tape : List Record) (r : Record) (records last : ℕ) → slice_get tape 0 ≡ Some r → records ≡ length tape → last ≡ records - 1 → last + 1 ≡ length tape
last_is tape r records last at count is = omega (arith, some_first tape r at, count, is)

-- ---- bytes

pub good_bytes : (tape : List Record) (bytes : List ℕ) (changes : List Change) → HasSave tape bytes → AreChanges changes → bytes ≡ encoded changes → SavesChanges tape changes
good_bytes tape bytes changes has form is = record { form = form; saved = subst (HasSave tape) is has }

pub bad_byte : (tape : List Record) (bytes : List ℕ) (at last place : ℕ) → HasSave tape bytes → FailsAt IsLog bytes at → length tape ≤ 4294967295 → last + 1 ≡ length tape
    → (at < length bytes → 3 + at / 16352 ≤ 4294967295 → place ≡ 3 + at / 16352) → (length bytes ≤ at → place ≡ last) → IsBadSave tape place
bad_byte tape bytes at last place has fails short end inside behind = inr (inr record {
  bytes = bytes;
  at = at;
  saved = has;
  fails = fails;
  is = elim (cases_lt at (length bytes)) [
    | inl less ↦ inl (less, inside less (omega (arith, block_within tape bytes at has less, short)))
    | inr past ↦ (let whole : at ≡ length bytes = omega (arith, past, fails.within) in inr (whole, omega (arith, behind past, end)))
  ];
})

-- ---- answers

-- a fault of one call that isn't the plant's is none of another
pub cause_as : {T U E F : Type 0} (fault : E) (other : F) (a b : ℕ) (r : Result T E) (q : Result U F) → r ≢ Err fault → q ≢ Err other → HasCauseAt fault a b r → HasCauseAt other a b q
cause_as fault other a b r q well still cause = record { later = cause.later; failed = λ is. absurd (still is); stays = λ _. cause.stays well }

pub failed_reads : (tape : ℕ → List Record) (o : Option Picked) → ReadsPicked tape o (Err Failed)
failed_reads tape None = tt
failed_reads tape (Some p) = tt

pub memory_reads : (tape : ℕ → List Record) (o : Option Picked) → ReadsPicked tape o (Err Memory)
memory_reads tape None = tt
memory_reads tape (Some p) = tt

-- why the database isn't read back
pub refuses : (db : Database) (size : ℕ) (tape : ℕ → List Record) (o : Option Picked) (fault : LoadFault) → IsUnused db → ReadsPicked tape o (Err fault) → RefusesBack db size tape o fault
refuses db size tape None InUse unused reads = absurd reads
refuses db size tape None NoSave unused reads = (unused, refl)
refuses db size tape None (BadSave s place) unused reads = absurd reads
refuses db size tape None (LogFull n) unused reads = absurd reads
refuses db size tape None Failed unused reads = tt
refuses db size tape None Memory unused reads = tt
refuses db size tape (Some p) InUse unused reads = absurd reads
refuses db size tape (Some p) NoSave unused reads = absurd reads
refuses db size tape (Some p) (BadSave s place) unused reads = (unused, (p, refl, reads.0, subst (λ (k : ℕ). IsBadSave (tape k) place) (sym reads.0) reads.1))
refuses db size tape (Some p) (LogFull n) unused reads = absurd reads
refuses db size tape (Some p) Failed unused reads = tt
refuses db size tape (Some p) Memory unused reads = tt

-- and why a commit of what was found isn't made
pub refuses_commit : (db : Database) (size : ℕ) (tape : ℕ → List Record) (o : Option Picked) (p : Picked) (changes : List Change) (fault : LoadFault) → IsUnused db → o ≡ Some p → SavesChanges (tape p.slot) changes
    → CommitsBack size changes fault → RefusesBack db size tape o fault
refuses_commit db size tape o p changes InUse unused is saves refused = absurd refused
refuses_commit db size tape o p changes NoSave unused is saves refused = absurd refused
refuses_commit db size tape o p changes (BadSave s place) unused is saves refused = absurd refused
refuses_commit db size tape o p changes (LogFull n) unused is saves refused = (unused, (p, changes, is, saves, refused.0, refused.1))
refuses_commit db size tape o p changes Failed unused is saves refused = tt
refuses_commit db size tape o p changes Memory unused is saves refused = tt

-- what was read of a tape that was picked is saved on it
pub saves_picked : (tape : ℕ → List Record) (o : Option Picked) (p : Picked) (changes : List Change) → o ≡ Some p → ReadsPicked tape o (Ok changes) → SavesChanges (tape p.slot) changes
saves_picked tape None p changes is reads = absurd reads
saves_picked tape (Some q) p changes is reads = let same : q ≡ p = cc in subst (λ (x : Picked). SavesChanges (tape x.slot) changes) same reads

module _ {D : Type 0} (P : Plant D) where
  pub found_ok : (port : PortFields) (old new : D) (p : Picked) (r : Result (List Change) LoadFault) → ((slots : List Slot) → P.tells → HasSlots P slots old → load_pick port slots ≡ Some p)
      → (P.tells → (slots : List Slot) → HasSlots P slots old → ReadsPicked (state_of P old).tape (load_pick port slots) r) → IfOk r AreChanges
      → (r ≢ Err Failed → Done P (putting_away (loaded_of P old) p.slot) old new) → Leaves P (putting_away (loaded_of P old) p.slot) old new → (r ≢ Err Failed → (P.view new).log_size ≡ (P.view old).log_size)
      → IfOk r (FindsChanges P port old new)
  found_ok port old new p (Ok changes) picked reads form done leaves size = record {
    slot = p.slot;
    saved = λ told slots has. (p, picked slots told has, refl, saves_picked (state_of P old).tape (load_pick port slots) p changes (picked slots told has) (reads told slots has));
    form = form;
    done = done (λ is. absurd (cc));
    leaves = leaves;
    log_size = size (λ is. absurd (cc));
  }
  found_ok port old new p (Err fault) picked reads form done leaves size = tt

-- ---- the database that is read back

-- the changes of a log's checkpoint make its database again
pub back_is : (tape : List Record) (changes : List Change) (log : List Change) (db new : Database) → SavesChanges tape changes → AreChanges log → HasSave tape (saved_bytes (after log)) → new ≡ after_from changes db → IsUnused db → IsBack (after log) db new
back_is tape changes log db new saves form has made unused =
    let same : changes ≡ checkpoint (after log) = same_changes changes (checkpoint (after log)) saves.form (checkpoint_form (after log) (forms_after log form)) (one_save tape (encoded changes) (saved_bytes (after log)) saves.saved has) in
    subst (IsBack (after log) db) (sym (made ∙ ap (λ (l : List Change). after_from l db) same)) (comes_back (after log) (kept_after log) db unused)

pub on_ok_back : (r : Result ℕ LoadFault) (A B : Type 0) → (A → B) → OnOk r A → OnOk r B
on_ok_back (Ok n) A B f a = f a
on_ok_back (Err fault) A B f a = tt

pub on_err_back : (r : Result ℕ LoadFault) (A B : Type 0) → (A → B) → OnErr r A → OnErr r B
on_err_back (Ok n) A B f a = tt
on_err_back (Err fault) A B f a = f a

pub if_err_back : (r : Result ℕ LoadFault) (A B : LoadFault → Type 0) → ((fault : LoadFault) → A fault → B fault) → IfErr r A → IfErr r B
if_err_back (Ok n) A B f a = tt
if_err_back (Err fault) A B f a = f fault a

module _ {D : Type 0} (P : Plant D) (port : PortFields) (old mid new : D) where
  log_same : (changes : List Change) → FindsChanges P port old mid changes → P.tells → (state_of P mid).log ≡ (state_of P old).log
  log_same changes found told =
      let loads = a_load_loads P old mid found.slot found.done found.leaves found.log_size in
      (loads.done.state told).log ∙ settling_keeps_log loads.away (state_of P old)

  pub back_ok : (was now : BudbView) (changes : List Change) (r : Result ℕ LoadFault) → IsUnused was.database → FindsChanges P port old mid changes → OnOk r (now.database ≡ after_from changes was.database) → IfOk r (λ n. n ≡ length now.database.listed)
      → (P.tells → (log : List Change) → Keeps log (state_of P mid).log was → OnOk r (Keeps (log ++ changes) (state_of P new).log now)) → OnOk r (Done P (commits (encoded changes) ∷ []) mid new)
      → OnOk r ((P.view new).log_size ≡ (P.view mid).log_size + length (encoded changes)) → OnOk r ((P.view new).log_size ≤ 268435456) → IfOk r (LoadsBack P port old new was now)
  back_ok was now changes (Ok n) unused found made counted keeps done size within = record {
    slot = found.slot;
    changes = changes;
    unused = unused;
    saved = found.saved;
    form = found.form;
    made = made;
    counted = counted;
    keeps = λ told log kept. keeps told log (subst (λ (l : List ℕ). Keeps log l was) (sym (log_same changes found told)) kept);
    done = done_both P (putting_away (loaded_of P old) found.slot) (commits (encoded changes) ∷ []) old mid new found.done done;
    size = size ∙ ap (λ (n : ℕ). n + length (encoded changes)) found.log_size;
    within = within;
  }
  back_ok was now changes (Err fault) unused found made counted keeps done size within = tt

  pub loads_few : (r : Result ℕ LoadFault) → (P.view mid).loads ≤ (P.view old).loads + 1 → OnOk r ((P.view new).loads ≡ (P.view mid).loads) → OnErr r (r ≢ Err Failed → new ≡ mid) → r ≢ Err Failed → (P.view new).loads ≤ (P.view old).loads + 1
  loads_few (Ok n) few ok err well = omega (arith, few, ok)
  loads_few (Err fault) few ok err well = omega (arith, few, ap (λ (s : D). (P.view s).loads) (err well))

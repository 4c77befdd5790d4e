-- What reading back answers and does, as functions of what is there.
use Rattle.std.proofs.Common.{◌≡◌, ◌≢◌, inl, inr, ℕ, ◌+◌, ◌<◌, ◌≤◌, Bool, true, false, List, [], ◌∷◌, ◌++◌, length, map, refl, sym, ◌∙◌, ap, subst, arith}
use Rattle.std.specs.Prelude.{nat_lt, if◌then◌else◌, Option, Some, None, Result, Ok, Err, IfOk, IfErr, OnOk, OnErr}
use Rattle.std.proofs.lemmas.Bool.{cases_Bool, cases_lt, ltb-true, lt-ltb, le-ltb}
use Rattle.std.proofs.lemmas.List.{append-nil}
use Rattle.plant_core.specs.declared.plant.Plant.{Ghosts as Plant}
use Rattle.plant_core.specs.Effects.{Effect, commits, settles, putting_away}
use Rattle.plant_core.specs.Records.{Record}
use Rattle.plant_effects.specs.Runs.{state_of, loaded_of, Done, Leaves}
use Rattle.plant_effects.proofs.Joining.{leaves_more, leaves_both, done_both}
use Rattle.tape_config.specs.declared.port.PortFields.{PortFields}
use Rattle.tape_scan.specs.Slots.{Slot}
use Rattle.tape_scan.specs.Looking.{HasSlots, Loads, LeavesLoads}
use Rattle.tape_scan.proofs.Looking.{a_load_loads}
use Rattle.budb_changes.specs.declared.change.Change.{Change}
use Rattle.budb_changes.specs.Bytes.{encoded}
use Rattle.budb_fold.specs.declared.database.Database.{Database}
use Rattle.budb_fold.specs.Database.{after_from}
use Rattle.budb.specs.Views.{BudbView}
use Rattle.budb_save.specs.declared.choosing.Picked.{Picked}
use Rattle.budb_save.specs.declared.fault.LoadFault.{LoadFault}
use Rattle.budb_save.specs.declared.fault.LoadFault.TheVariants.{InUse, NoSave, BadSave, LogFull, Failed, Memory}
use Rattle.budb_save.specs.Back.{IsUnused, is_unused}
use Rattle.budb_save.specs.Saving.{load_pick}
use Rattle.budb_save.specs.ReadBack.{read_back}
use Rattle.budb_save.specs.Loading.{SavesChanges, IsBadSave, RefusesBack, IsSavedOn, LoadsBack, FindsChanges, is_full, answer_from, answer_on, load_answer, commit_from, commit_on, load_effects, DoneAway, LeavesAway, UnlessLoadStopped}
use Rattle.budb_save.proofs.ReadLaws.{read_again, read_bad}
use Rattle.budb_save.proofs.UnusedLaws.{unused_by, unused_only}

-- ---- by what is known of the database, the tape and the log

module _ (db : Database) (size : ℕ) (tape : ℕ → List Record) where
  used_test : (IsUnused db → ⊥) → is_unused db ≡ false
  used_test used = elim (cases_Bool (is_unused db)) [
    | inl is ↦ absurd (used (unused_by db is))
    | inr not ↦ not
  ]

  -- in use
  pub answer_used : (pick : Option Picked) → (IsUnused db → ⊥) → load_answer db size tape pick ≡ Err InUse
  answer_used pick used = ap (λ (b : Bool). if b then answer_on db size tape pick else Err InUse) (used_test used)

  pub effects_used : (pick : Option Picked) → (IsUnused db → ⊥) → load_effects db size tape pick ≡ []
  effects_used pick used = ap (λ (b : Bool). if b then commit_on size tape pick else []) (used_test used)

  -- not in use
  pub answer_unused : (pick : Option Picked) → IsUnused db → load_answer db size tape pick ≡ answer_on db size tape pick
  answer_unused pick unused = ap (λ (b : Bool). if b then answer_on db size tape pick else Err InUse) (unused_only db unused)

  pub effects_unused : (pick : Option Picked) → IsUnused db → load_effects db size tape pick ≡ commit_on size tape pick
  effects_unused pick unused = ap (λ (b : Bool). if b then commit_on size tape pick else []) (unused_only db unused)

  -- a tape that is bad
  pub answer_bad : (pick : Option Picked) (p : Picked) (place : ℕ) → pick ≡ Some p → IsBadSave (tape p.slot) place → answer_on db size tape pick ≡ Err (BadSave p.slot place)
  answer_bad pick p place is wrong = ap (answer_on db size tape) is ∙ ap (answer_from db size p.slot) (read_bad (tape p.slot) place wrong)

  pub effects_bad : (pick : Option Picked) (p : Picked) (place : ℕ) → pick ≡ Some p → IsBadSave (tape p.slot) place → commit_on size tape pick ≡ []
  effects_bad pick p place is wrong = ap (commit_on size tape) is ∙ ap (commit_from size) (read_bad (tape p.slot) place wrong)

  -- a tape that has changes
  answer_of : (pick : Option Picked) (p : Picked) (changes : List Change) → pick ≡ Some p → SavesChanges (tape p.slot) changes → answer_on db size tape pick ≡ answer_from db size p.slot (Ok changes)
  answer_of pick p changes is saves = ap (answer_on db size tape) is ∙ ap (answer_from db size p.slot) (read_again (tape p.slot) changes saves)

  effects_of : (pick : Option Picked) (p : Picked) (changes : List Change) → pick ≡ Some p → SavesChanges (tape p.slot) changes → commit_on size tape pick ≡ commit_from size (Ok changes)
  effects_of pick p changes is saves = ap (commit_on size tape) is ∙ ap (commit_from size) (read_again (tape p.slot) changes saves)

  pub answer_full : (pick : Option Picked) (p : Picked) (changes : List Change) → pick ≡ Some p → SavesChanges (tape p.slot) changes → 268435456 < size + length (encoded changes)
      → answer_on db size tape pick ≡ Err (LogFull (size + length (encoded changes)))
  answer_full pick p changes is saves over =
      answer_of pick p changes is saves
      ∙ ap (λ (b : Bool). if b then Err (LogFull (size + length (encoded changes))) else Ok (length (after_from changes db).listed)) (lt-ltb 268435456 (size + length (encoded changes)) over)

  pub effects_full : (pick : Option Picked) (p : Picked) (changes : List Change) → pick ≡ Some p → SavesChanges (tape p.slot) changes → 268435456 < size + length (encoded changes) → commit_on size tape pick ≡ []
  effects_full pick p changes is saves over =
      effects_of pick p changes is saves ∙ ap (λ (b : Bool). if b then [] else commits (encoded changes) ∷ []) (lt-ltb 268435456 (size + length (encoded changes)) over)

  pub answer_made : (pick : Option Picked) (p : Picked) (changes : List Change) → pick ≡ Some p → SavesChanges (tape p.slot) changes → size + length (encoded changes) ≤ 268435456
      → answer_on db size tape pick ≡ Ok (length (after_from changes db).listed)
  answer_made pick p changes is saves fits =
      answer_of pick p changes is saves
      ∙ ap (λ (b : Bool). if b then Err (LogFull (size + length (encoded changes))) else Ok (length (after_from changes db).listed)) (le-ltb 268435456 (size + length (encoded changes)) fits)

  pub effects_made : (pick : Option Picked) (p : Picked) (changes : List Change) → pick ≡ Some p → SavesChanges (tape p.slot) changes → size + length (encoded changes) ≤ 268435456
      → commit_on size tape pick ≡ commits (encoded changes) ∷ []
  effects_made pick p changes is saves fits =
      effects_of pick p changes is saves ∙ ap (λ (b : Bool). if b then [] else commits (encoded changes) ∷ []) (le-ltb 268435456 (size + length (encoded changes)) fits)

  -- a refusal is the one that is answered, and nothing is done
  pub answer_refused : (pick : Option Picked) (fault : LoadFault) → RefusesBack db size tape pick fault → UnlessLoadStopped (Err fault) (Err fault ≡ load_answer db size tape pick)
  answer_refused pick InUse used = sym (answer_used pick used)
  answer_refused pick NoSave refused = sym (answer_unused pick refused.0 ∙ ap (answer_on db size tape) refused.1)
  answer_refused pick (BadSave s place) refused =
      let bad = refused.1 in
      let wrong : IsBadSave (tape bad.0.slot) place = subst (λ (k : ℕ). IsBadSave (tape k) place) bad.2 bad.3 in
      ap (λ (k : ℕ). Err (BadSave k place)) bad.2 ∙ sym (answer_unused pick refused.0 ∙ answer_bad pick bad.0 place bad.1 wrong)
  answer_refused pick (LogFull n) refused =
      let full = refused.1 in
      let over : 268435456 < size + length (encoded full.1) = subst (λ (m : ℕ). 268435456 < m) full.5 full.4 in
      ap (λ (m : ℕ). Err (LogFull m)) full.5 ∙ sym (answer_unused pick refused.0 ∙ answer_full pick full.0 full.1 full.2 full.3 over)
  answer_refused pick Failed refused = tt
  answer_refused pick Memory refused = tt

  pub effects_refused : (pick : Option Picked) (fault : LoadFault) → RefusesBack db size tape pick fault → UnlessLoadStopped (Err fault) (load_effects db size tape pick ≡ [])
  effects_refused pick InUse used = effects_used pick used
  effects_refused pick NoSave refused = effects_unused pick refused.0 ∙ ap (commit_on size tape) refused.1
  effects_refused pick (BadSave s place) refused =
      let bad = refused.1 in
      effects_unused pick refused.0 ∙ effects_bad pick bad.0 place bad.1 (subst (λ (k : ℕ). IsBadSave (tape k) place) bad.2 bad.3)
  effects_refused pick (LogFull n) refused =
      let full = refused.1 in
      effects_unused pick refused.0 ∙ effects_full pick full.0 full.1 full.2 full.3 (subst (λ (m : ℕ). 268435456 < m) full.5 full.4)
  effects_refused pick Failed refused = tt
  effects_refused pick Memory refused = tt

-- ---- what holds unless it was stopped

pub unless_more : (r : Result ℕ LoadFault) (A B : Type 0) → (A → B) → UnlessLoadStopped r A → UnlessLoadStopped r B
unless_more (Ok n) A B f a = f a
unless_more (Err InUse) A B f a = f a
unless_more (Err NoSave) A B f a = f a
unless_more (Err (BadSave s place)) A B f a = f a
unless_more (Err (LogFull n)) A B f a = f a
unless_more (Err Failed) A B f a = tt
unless_more (Err Memory) A B f a = tt

unless_both : (fault : LoadFault) (A B : Type 0) → (fault ≢ Failed → A → B) → UnlessLoadStopped (Err fault) A → UnlessLoadStopped (Err fault) B
unless_both InUse A B f a = f (λ is. absurd (cc)) a
unless_both NoSave A B f a = f (λ is. absurd (cc)) a
unless_both (BadSave s place) A B f a = f (λ is. absurd (cc)) a
unless_both (LogFull n) A B f a = f (λ is. absurd (cc)) a
unless_both Failed A B f a = tt
unless_both Memory A B f a = tt

module _ {D : Type 0} (P : Plant D) where
  -- tapes were put away, and no more
  pub done_none : (old new : D) → Loads P old new → DoneAway P [] old new
  done_none old new loads = record { away = loads.away; done = subst (λ (es : List Effect). Done P es old new) (sym (append-nil (map settles loads.away))) loads.done }

  pub leaves_none : (old new : D) (effects : List Effect) → LeavesLoads P old new → LeavesAway P effects old new
  leaves_none old new effects loads = record { away = loads.away; leaves = leaves_more P (map settles loads.away) effects old new loads.leaves }

  module _ (port : PortFields) (old new : D) (was now : BudbView) (told : P.tells) (slots : List Slot) (has : HasSlots P slots old) where
    -- the answer
    pub answer_is : (r : Result ℕ LoadFault) → IfErr r (RefusesBack was.database (P.view old).log_size (state_of P old).tape (load_pick port slots)) → IfOk r (LoadsBack P port old new was now)
        → UnlessLoadStopped r (r ≡ load_answer was.database (P.view old).log_size (state_of P old).tape (load_pick port slots))
    answer_is (Err fault) refused back = answer_refused was.database (P.view old).log_size (state_of P old).tape (load_pick port slots) fault refused
    answer_is (Ok n) refused back =
        let tape = (state_of P old).tape in
        let size = (P.view old).log_size in
        let pick = load_pick port slots in
        let saved = back.saved told slots has in
        let saves = subst (λ (k : ℕ). SavesChanges (tape k) back.changes) (sym saved.2) saved.3 in
        let fits : size + length (encoded back.changes) ≤ 268435456 = subst (λ (m : ℕ). m ≤ 268435456) back.size back.within in
        ap (λ (m : ℕ). Ok m) (back.counted ∙ ap (λ (db : Database). length db.listed) back.made)
        ∙ sym (answer_unused was.database size tape pick back.unused ∙ answer_made was.database size tape pick saved.0 back.changes saved.1 saves fits)

    -- what was done, where something was answered: the tape that was loaded before is put away
    pub done_is : (r : Result ℕ LoadFault) → IfErr r (RefusesBack was.database (P.view old).log_size (state_of P old).tape (load_pick port slots)) → OnErr r (r ≢ Err Failed → Loads P old new)
        → IfOk r (λ n. DoneAway P (load_effects was.database (P.view old).log_size (state_of P old).tape (load_pick port slots)) old new)
        → UnlessLoadStopped r (DoneAway P (load_effects was.database (P.view old).log_size (state_of P old).tape (load_pick port slots)) old new)
    done_is (Ok n) refused loads made = made
    done_is (Err fault) refused loads made =
        let effects = load_effects was.database (P.view old).log_size (state_of P old).tape (load_pick port slots) in
        unless_both fault (effects ≡ []) (DoneAway P effects old new)
        (λ well none. subst (λ (es : List Effect). DoneAway P es old new) (sym none) (done_none old new (loads (λ is. (let same : fault ≡ Failed = cc in well same)))))
        (effects_refused was.database (P.view old).log_size (state_of P old).tape (load_pick port slots) fault refused)

    -- behind a tape that was found
    module _ (mid : D) (changes : List Change) (unused : IsUnused was.database) (found : FindsChanges P port old mid changes) where
      size : ℕ
      size = (P.view old).log_size

      loads_found : Loads P old mid
      loads_found = a_load_loads P old mid found.slot found.done found.leaves found.log_size

      fit_or_not : (Q : List Effect → Type 0) → (268435456 < (P.view mid).log_size + length (encoded changes) → Q []) → ((P.view mid).log_size + length (encoded changes) ≤ 268435456 → Q (commits (encoded changes) ∷ []))
          → Q (load_effects was.database (P.view old).log_size (state_of P old).tape (load_pick port slots))
      fit_or_not Q full made =
          let tape = (state_of P old).tape in
          let pick = load_pick port slots in
          let saved = found.saved told slots has in
          let saves = subst (λ (k : ℕ). SavesChanges (tape k) changes) (sym saved.2) saved.3 in
          let first = effects_unused was.database (P.view old).log_size tape pick unused in
          elim (cases_lt 268435456 ((P.view mid).log_size + length (encoded changes))) [
            | inl over ↦ subst Q (sym (first ∙ effects_full was.database (P.view old).log_size tape pick saved.0 changes saved.1 saves (subst (λ (m : ℕ). 268435456 < m + length (encoded changes)) found.log_size over))) (full over)
            | inr fits ↦ subst Q (sym (first ∙ effects_made was.database (P.view old).log_size tape pick saved.0 changes saved.1 saves (subst (λ (m : ℕ). m + length (encoded changes) ≤ 268435456) found.log_size fits))) (made fits)
          ]

      pub done_found : (r : Result ℕ LoadFault) → OnOk r (Done P (commits (encoded changes) ∷ []) mid new) → OnOk r ((P.view new).log_size ≡ (P.view mid).log_size + length (encoded changes)) → OnOk r ((P.view new).log_size ≤ 268435456)
          → IfOk r (λ n. DoneAway P (load_effects was.database (P.view old).log_size (state_of P old).tape (load_pick port slots)) old new)
      done_found (Err fault) done grown within = tt
      done_found (Ok n) done grown within = fit_or_not (λ es. DoneAway P es old new)
          (λ over. absurd (omega (arith, over, grown, within)))
          (λ fits. record { away = loads_found.away; done = done_both P (map settles loads_found.away) (commits (encoded changes) ∷ []) old mid new loads_found.done done })

      pub leaves_found : (268435456 < (P.view mid).log_size + length (encoded changes) → new ≡ mid) → Leaves P (commits (encoded changes) ∷ []) mid new
          → LeavesAway P (load_effects was.database (P.view old).log_size (state_of P old).tape (load_pick port slots)) old new
      leaves_found same leaves = fit_or_not (λ es. LeavesAway P es old new)
          (λ over. subst (λ (s : D). LeavesAway P [] old s) (sym (same over)) (record { away = loads_found.away; leaves = leaves_more P (map settles loads_found.away) [] old mid loads_found.leaves }))
          (λ fits. record { away = loads_found.away; leaves = leaves_both P (map settles loads_found.away) (commits (encoded changes) ∷ []) old mid new loads_found.done loads_found.leaves leaves })

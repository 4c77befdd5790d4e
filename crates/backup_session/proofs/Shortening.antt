-- How the log is made short.
use Rattle.std.proofs.Common.{◌≡◌, ⊎_elim, ◌<◌, ◌≤◌, Bool, List, [], ◌∷◌, length, sym, ap, subst}
use Rattle.std.specs.Prelude.{if◌then◌else◌}
use Rattle.std.proofs.lemmas.Bool.{cases_lt}
use Rattle.plant_core.specs.declared.plant.Plant.{Ghosts as Plant}
use Rattle.plant_core.specs.Effects.{replaces}
use Rattle.plant_effects.specs.Runs.{Leaves}
use Rattle.plant_effects.proofs.Joining.{Fits as FitsImages, nothing_left}
use Rattle.budb_changes.specs.declared.change.Change.{Change}
use Rattle.budb_changes.specs.Bytes.{encoded}
use Rattle.budb_fold.specs.Database.{after}
use Rattle.budb_fold.specs.Checkpoints.{checkpoint}
use Rattle.backup_replies.specs.declared.refusals.Refusal.TheVariants.{LogFull}
use Rattle.backup_replies.specs.Texts.{refused_number}
use Rattle.backup_session.specs.declared.verdict.Verdict.TheVariants.{Shortens}
use Rattle.backup_session.specs.Views.{SessionView}
use Rattle.backup_session.specs.Worlds.{World, Turn}
use Rattle.backup_session.specs.Turns.{said}
use Rattle.backup_session.specs.Machine.{replaced, shortened, carried}
use Rattle.backup_session.specs.Fitting.{FitsPlant}
use Rattle.backup_session.proofs.Room.{full_true, room_false}

when_full : (w : World) (changes : List Change) → 268435456 < length (encoded changes) → shortened w changes ≡ said w (refused_number LogFull (length (encoded changes)))
when_full w changes full = ap (λ (b : Bool). if b then said w (refused_number LogFull (length (encoded changes))) else replaced w changes) (full_true 268435456 (length (encoded changes)) full)

with_room : (w : World) (changes : List Change) → length (encoded changes) ≤ 268435456 → shortened w changes ≡ replaced w changes
with_room w changes room = ap (λ (b : Bool). if b then said w (refused_number LogFull (length (encoded changes))) else replaced w changes) (room_false 268435456 (length (encoded changes)) room)

-- whatever came of a checkpoint's list
list_leaves : {D : Type 0} (P : Plant D) (w : World) (changes : List Change) (old new : D) → FitsImages P old → (268435456 < length (encoded changes) → new ≡ old) → Leaves P (replaces (encoded changes) ∷ []) old new → Leaves P (shortened w changes).effects old new
list_leaves P w changes old new images over leaves = ⊎_elim
    (λ (full : 268435456 < length (encoded changes)). subst (λ (t : Turn). Leaves P t.effects old new) (sym (when_full w changes full)) (subst (λ s. Leaves P [] old s) (sym (over full)) (nothing_left P [] old images)))
    (λ (room : length (encoded changes) ≤ 268435456). subst (λ (t : Turn). Leaves P t.effects old new) (sym (with_room w changes room)) leaves)
    (cases_lt 268435456 (length (encoded changes)))

-- ---- by the database of the session

module _ {D : Type 0} (P : Plant D) (w : World) (old : D) (session : SessionView) (fits : FitsPlant P w old session) where
  same : checkpoint session.budb.database ≡ checkpoint (after w.log)
  same = ap checkpoint fits.keeps.fold

  pub short_leaves : (new : D) → FitsImages P old → (268435456 < length (encoded (checkpoint session.budb.database)) → new ≡ old)
      → Leaves P (replaces (encoded (checkpoint session.budb.database)) ∷ []) old new → Leaves P (carried w Shortens).effects old new
  short_leaves new images over leaves =
      subst (λ (l : List Change). Leaves P (shortened w l).effects old new) same (list_leaves P w (checkpoint session.budb.database) old new images over leaves)
